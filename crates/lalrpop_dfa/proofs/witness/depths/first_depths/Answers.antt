use Rattle.std.proofs.Common.{◌≡◌, ◌∙◌, ap, get_or, length, Bool, false, sym, arith}
use Rattle.std.specs.Prelude.{cond}
use Rattle.lalrpop_dfa.specs.Internal.Marks.{AreWaitingFor}
use Rattle.lalrpop_dfa.proofs.Depths.{IsFirstDepth, deep_at_first, first_read, ranks_pushed}
use Rattle.lalrpop_dfa.proofs.witness.depths.first_depths.Goals as goal
use Rattle.lalrpop_dfa.proofs.witness.depths.first_depths.Goals.{then-is_waiting, else-is_waiting}

pub loop-is_waiting-preserved : goal.loop-is_waiting-preserved
loop-is_waiting-preserved c =
    let d = c.args.dfa.now in
    let i = c.loop-is_waiting.invariant in
    let k = c.loop-is_waiting.is_waiting-index in
    let marks = c.deref-is_waiting-items.result.now in
    let are : AreWaitingFor d 0 marks = rw c.deref-is_waiting-items.ensures.value c.in_ok-waiting.ensures.marks in
    let value : c.if-is_waiting.push ≡ cond (get_or marks k false) c.args.most 0 =
    elim c.if-is_waiting.branch [
      | then-is_waiting w ↦ w.push-is ∙ sym (ap (λ (b : Bool). cond b c.args.most 0) w.if-is_waiting.true)
      | else-is_waiting w ↦ w.push-is ∙ sym (ap (λ (b : Bool). cond b c.args.most 0) w.if-is_waiting.false)
    ] in
    let step = ranks_pushed (IsFirstDepth d c.args.most) c.loop-is_waiting.depths.items c.push.new.self.items k c.if-is_waiting.push i.same_length i.each
    (first_read d marks c.args.most k c.if-is_waiting.push are c.loop-is_waiting-test.true value) c.in_ok-push.ensures.items in
    record { same_length = step.0; each = step.1 }

pub returns-clause-depths : goal.returns-clause-depths
returns-clause-depths c =
    let d = c.args.dfa.now in
    let i = c.loop-is_waiting.invariant in
    let all : c.loop-is_waiting.is_waiting-index ≡ length d =
    omega (arith, c.in_ok-waiting.ensures.marks.same_length, ap length c.deref-is_waiting-items.ensures.value, c.loop-is_waiting-test.false, c.loop-is_waiting.auto.is_waiting-index-end) in
    deep_at_first d c.args.most c.loop-is_waiting.depths.items (i.same_length ∙ all) (λ p l. i.each p (omega (arith, l, all)))
