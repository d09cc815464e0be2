use Rattle.std.proofs.Common.{inl, inr, refl}
use Rattle.std.proofs.lemmas.Result.{IfOk-weaker}
use Rattle.lexdfa_lib.proofs.answer.find.Goals as goal

pub returns-in-Ok-Some : goal.returns-in-Ok-Some
returns-in-Ok-Some c =
    let e = c.in-Ok-Some.ensures in
    let longest = rw c.in-Ok-Some.field-0-is at e.longest in
    λ bytes are. inr (_, (_, (record { terminals = are; no_fault = e.no_fault; no_clash = e.no_clash }, (c.in-Ok-Some.matched.now, (rw c.index.ensures.value longest, refl)))))

pub returns-in-Ok-None : goal.returns-in-Ok-None
returns-in-Ok-None c =
    let e = c.in-Ok-None.ensures in
    let longest = rw c.in-Ok-None.field-0-is at e.longest in
    λ bytes are. inr (_, (_, (record { terminals = are; no_fault = e.no_fault; no_clash = e.no_clash }, longest)))

pub returns-in-Err : goal.returns-in-Err
returns-in-Err c = IfOk-weaker c.outcome_of_error.result _ _ (λ outcome reports bytes are. inl (reports bytes _ _ are c.in-Err.ensures.report)) c.outcome_of_error.ensures.ok
