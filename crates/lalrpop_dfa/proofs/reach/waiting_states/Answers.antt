use Rattle.std.proofs.Common.{◌<◌, ◌∙◌, false, length, ap, arith}
use Rattle.std.specs.Prelude.{Some, not}
use Rattle.lalrpop_dfa.specs.Internal.Marks.{WaitsFor}
use Rattle.lalrpop_dfa.proofs.Marking.{mark_at, marks_pushed}
use Rattle.lalrpop_dfa.proofs.Reaching.{waits_else, waits_if}
use Rattle.lalrpop_dfa.proofs.reach.waiting_states.Goals as goal
use Rattle.lalrpop_dfa.proofs.reach.waiting_states.Goals.{then-index, else-index}

pub loop-number-preserved : goal.loop-number-preserved
loop-number-preserved c =
    let d = c.args.dfa.now in
    let live = c.in_ok-live.live.items in
    let accepting = c.in_ok-accepting.accepting.items in
    let are = c.in_ok-live.ensures.marks in
    let acc = c.in_ok-accepting.ensures.marks in
    let n = c.loop-number.number in
    let i = c.loop-number.invariant in
    let within : n < length live = omega (arith, c.loop-number-test.true, c.len-number-end.ensures, c.in_ok-live.live.ok.0) in
    let here : n < length d = omega (arith, within, are.same_length) in
    let at = mark_at live n c.index.result.now within c.index.ensures in
    elim c.if-index.branch [
      | then-index w ↦
          (let b = w.index-then-index.result.now in
          let other = mark_at accepting n b (omega (arith, here, acc.same_length)) w.index-then-index.ensures in
          let step = marks_pushed (WaitsFor d 0) c.loop-number.marks.items c.push.new.self.items n (not b) i.same_length i.each
          (waits_if d n live accepting are acc here b (at ∙ ap (λ x. Some x) w.if-index.true) other) (rw w.push-is at c.in_ok-push.ensures.items) in
          record { same_length = step.0; each = step.1 })
      | else-index w ↦
          (let step = marks_pushed (WaitsFor d 0) c.loop-number.marks.items c.push.new.self.items n false i.same_length i.each
          (waits_else d n live accepting are acc here (at ∙ ap (λ x. Some x) w.if-index.false)) (rw (w.push-is, w.if-index.false) at c.in_ok-push.ensures.items) in
          record { same_length = step.0; each = step.1 })
    ]
