use Rattle.std.proofs.Common.{◌≡◌, ◌-◌, ◌+◌, ◌<◌, inl, inr, length, set, true, sym, subst, arith}
use Rattle.lalrpop_dfa.specs.Internal.Marks.{LeadsInto}
use Rattle.lalrpop_dfa.proofs.Marking.{marked_read}
use Rattle.lalrpop_dfa.proofs.Reaching.{IsGoingBack, back_marked, back_stays}
use Rattle.lalrpop_dfa.proofs.reach.mark_sources.Goals as goal
use Rattle.lalrpop_dfa.proofs.reach.mark_sources.Goals.{then-not-marks-number+then-leads_into, else-not-marks-number, else-not-marks-number-via-then-not-marks-number+else-leads_into, else-not-marks-number-via-else-not-marks-number}

pub loop-back-preserved : goal.loop-back-preserved
loop-back-preserved c =
    let d = c.args.dfa.now in
    let old = c.args.marks.now in
    let new = c.loop-back.marks in
    let place = length old - 1 - c.loop-back.back in
    let next = length old - c.loop-back.back in
    let on : next ≡ place + 1 = omega (arith, c.loop-back-test.true) in
    let within : place < length new = omega (arith, c.loop-back-test.true, c.loop-back.auto.marks) in
    let h = c.loop-back.invariant in
    let there : place ≡ length old - (c.loop-back.back + 1) = omega arith in
    elim c.if-not-marks-number.branch [
      | then-not-marks-number+then-leads_into w ↦
          rw w.marks-is
          (subst (λ k. IsGoingBack d old (set new place true) k) there
          (back_marked d old new place next on h within (subst (LeadsInto d new) w.new.ensures.value (w.leads_into.ensures.0 w.if-leads_into.true))))
      | else-not-marks-number w ↦
          rw w.marks-is
          (subst (λ k. IsGoingBack d old new k) there
          (back_stays d old new place next on h
          (elim w.else-not-marks-number.branch [
            | else-not-marks-number-via-then-not-marks-number+else-leads_into v ↦
                inr (λ into. let yes = v.leads_into.ensures.1 (subst (LeadsInto d new) (sym v.new.ensures.value) into) in let no = v.if-leads_into.false in cc)
            | else-not-marks-number-via-else-not-marks-number v ↦ inl (marked_read new place within v.if-not-marks-number.false)
          ])))
    ]
