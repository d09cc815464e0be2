use Rattle.std.proofs.Common.{◌<◌, ◌⊎◌, ◌↔◌, ℕ, length, subst, arith}
use Rattle.lalrpop_dfa.specs.Internal.Marks.{LeadsTo, Marked}
use Rattle.lalrpop_dfa.proofs.Marking.{marked_read, read_marked}
use Rattle.lalrpop_dfa.proofs.Reaching.{on_end, on_marked, on_stays}
use Rattle.lalrpop_dfa.proofs.reach.mark_followers.Goals as goal
use Rattle.lalrpop_dfa.proofs.reach.mark_followers.Goals.{then-marks-number, else-marks-number}

pub loop-number-preserved : goal.loop-number-preserved
loop-number-preserved c =
    let d = c.args.dfa.now in
    let old = c.args.marks.now in
    let new = c.loop-number.marks in
    let n = c.loop-number.number in
    let within : n < length new = omega (arith, c.loop-number-test.true, c.loop-number.auto.marks) in
    elim c.if-marks-number.branch [
      | then-marks-number w ↦
          rw w.marks-is
          (on_marked d old new n c.loop-number.invariant w.mark_targets.new.marks w.mark_targets.ensures.same_length
          (subst (λ k. (q : ℕ) → Marked w.mark_targets.new.marks q ↔ (Marked new q ⊎ LeadsTo d k q)) w.new.ensures.value w.mark_targets.ensures.marked)
          (marked_read new n within w.if-marks-number.true))
      | else-marks-number w ↦
          rw w.marks-is (on_stays d old new n c.loop-number.invariant (λ m. let yes = read_marked new n m in let no = w.if-marks-number.false in cc))
    ]

pub returns : goal.returns
returns c = on_end c.args.dfa.now c.args.marks.now c.loop-number.marks c.loop-number.number c.loop-number-test.false c.loop-number.invariant
