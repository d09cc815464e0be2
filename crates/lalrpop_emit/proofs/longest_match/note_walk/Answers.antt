use Rattle.std.proofs.Common.{◌/◌, inl, inr, arith}
use Rattle.std.proofs.lemmas.Bool.{cases_lt}
use Rattle.lalrpop_emit.specs.Internal.Lists.{ahead_numbers, list_numbers}
use Rattle.lalrpop_emit.proofs.MemoCosts.{paid_start, paid_on, paid_pass, paid_done, step_short, vain_goes_on}
use Rattle.lalrpop_emit.proofs.Steps.{nothing_behind, passed}
use Rattle.lalrpop_emit.proofs.longest_match.note_walk.Goals as goal

pub again-init : goal.again-init
again-init c = record {
  row = c.requires.row;
  nothing = c.requires.nothing;
  memo = c.requires.memo;
  paid = λ roomy vain.
      paid_start (ahead_numbers c.args.ahead.now) (list_numbers c.args.table.now) c.args.text.now c.args.memo.now c.args.memo.now c.args.end c.args.from.at c.args.from.row c.args.from.at vain;
}

pub returns-in_default-clause-paid : goal.returns-in_default-clause-paid
returns-in_default-clause-paid c = λ roomy vain.
    absurd (vain_goes_on (ahead_numbers c.args.ahead.now) (list_numbers c.args.table.now) c.args.text.now c.args.end c.again.memo c.again.walk.row c.again.walk.at
    (c.again.invariant.paid roomy vain).left (omega (arith, c.again-test.true)) c.in_default.ensures.step)

pub passes-requires-clause-short : goal.passes-requires-clause-short
passes-requires-clause-short c =
    step_short (ahead_numbers c.args.ahead.now) (list_numbers c.args.table.now) c.args.text.now c.again.walk.row c.again.walk.at c.in-Some.next.row c.in-Some.next.at c.in-Some.ensures.step

pub note-requires-clause-passed : goal.note-requires-clause-passed
note-requires-clause-passed c =
    passed (ahead_numbers c.args.ahead.now) (list_numbers c.args.table.now) c.args.text.now c.again.walk.row c.again.walk.at c.in-Some.next.row c.in-Some.next.at c.in-Some.ensures.step
    (c.passes.ensures.0 c.if-passes.true)

pub note-requires-clause-place : goal.note-requires-clause-place
note-requires-clause-place c = (let passes = c.passes.ensures.0 c.if-passes.true in omega (arith, passes), c.in-Some.ensures.place.1)

pub again-preserved-then-passes : goal.again-preserved-then-passes
again-preserved-then-passes c =
    let a = ahead_numbers c.args.ahead.now in
    let t = list_numbers c.args.table.now in
    let text = c.args.text.now in
    let walk = c.again.walk in
    let next = c.in-Some.next in
    let nothing = nothing_behind a t text walk.row walk.at next.row next.at c.in-Some.ensures.step c.again.invariant.nothing in
    record {
      row = c.in-Some.ensures.row.0;
      nothing = nothing;
      memo = c.note.ensures.right t nothing c.again.invariant.memo;
      paid = λ roomy vain.
          paid_pass a t text c.args.memo.now c.again.memo c.args.end c.args.from.at walk.row walk.at next.row next.at (c.again.invariant.paid roomy vain) (omega (arith, c.again-test.true))
          c.in-Some.ensures.step c.note.new.memo c.requires.ahead c.again.invariant.row (c.passes.ensures.0 c.if-passes.true) c.note.ensures.others c.note.ensures.never_fewer
          (λ waits. c.note.ensures.one_more waits (omega (arith, roomy, c.again.auto.memo)));
    }

pub again-preserved : goal.again-preserved
again-preserved c =
    let a = ahead_numbers c.args.ahead.now in
    let t = list_numbers c.args.table.now in
    let text = c.args.text.now in
    let walk = c.again.walk in
    let next = c.in-Some.next in
    record {
      row = c.in-Some.ensures.row.0;
      nothing = nothing_behind a t text walk.row walk.at next.row next.at c.in-Some.ensures.step c.again.invariant.nothing;
      memo = c.again.invariant.memo;
      paid = λ roomy vain.
          paid_on a t text c.args.memo.now c.again.memo c.args.end c.args.from.at walk.row walk.at next.row next.at (c.again.invariant.paid roomy vain) (omega (arith, c.again-test.true))
          c.in-Some.ensures.step (elim (cases_lt (walk.at / 64) (next.at / 64)) [
            | inl passes ↦ let holds = c.passes.ensures.1 passes in let fails = c.if-passes.false in cc
            | inr same ↦ same
          ]);
    }

pub returns-clause-paid : goal.returns-clause-paid
returns-clause-paid c = λ roomy vain.
    paid_done (ahead_numbers c.args.ahead.now) (list_numbers c.args.table.now) c.args.text.now c.args.memo.now c.again.memo c.args.end c.args.from.at c.again.walk.row c.again.walk.at
    (c.again.invariant.paid roomy vain) (omega (arith, c.again-test.false))
