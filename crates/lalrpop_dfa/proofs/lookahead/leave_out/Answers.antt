use Rattle.std.proofs.Common.{◌≡◌, ◌-◌, ◌+◌, ◌<◌, length, set, false, sym, subst, arith}
use Rattle.lalrpop_dfa.specs.Internal.Marks.{LeadsInto}
use Rattle.lalrpop_dfa.proofs.LeftOut.{IsLeavingOut, out_left, out_stays}
use Rattle.lalrpop_dfa.proofs.Marking.{marked_read, read_marked}
use Rattle.lalrpop_dfa.proofs.lookahead.leave_out.Goals as goal
use Rattle.lalrpop_dfa.proofs.lookahead.leave_out.Goals.{then-marks-number+then-not-leads_into, else-marks-number, else-marks-number-via-then-marks-number+else-not-leads_into, else-marks-number-via-else-marks-number}

pub loop-back-preserved : goal.loop-back-preserved
loop-back-preserved c =
    let d = c.args.dfa.now in
    let old = c.args.marks.now in
    let new = c.loop-back.marks in
    let place = length old - 1 - c.loop-back.back in
    let next = length old - c.loop-back.back in
    let on : next ≡ place + 1 = omega (arith, c.loop-back-test.true) in
    let within : place < length new = omega (arith, c.loop-back-test.true, c.loop-back.auto.marks) in
    let h = c.loop-back.invariant in
    let there : place ≡ length old - (c.loop-back.back + 1) = omega arith in
    elim c.if-marks-number.branch [
      | then-marks-number+then-not-leads_into w ↦
          rw w.marks-is
          (subst (λ k. IsLeavingOut d old (set new place false) k) there
          (out_left d old new place next on h within (marked_read new place within w.if-marks-number.true) (λ into.
          let yes = w.leads_into.ensures.1 (subst (LeadsInto d new) (sym w.new.ensures.value) into) in let not = w.if-not-leads_into.true in cc)))
      | else-marks-number w ↦
          rw w.marks-is
          (subst (λ k. IsLeavingOut d old new k) there
          (out_stays d old new place next on h
          (elim w.else-marks-number.branch [
            | else-marks-number-via-then-marks-number+else-not-leads_into v ↦
                (λ m. subst (LeadsInto d new) v.new.ensures.value (v.leads_into.ensures.0 v.if-not-leads_into.false))
            | else-marks-number-via-else-marks-number v ↦ (λ m. absurd (let yes = read_marked new place m in let not = v.if-marks-number.false in cc))
          ])))
    ]
