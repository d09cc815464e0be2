use Rattle.std.proofs.Common.{◌≡◌, ap, length, subst, arith}
use Rattle.lalrpop_dfa.specs.Internal.Marks.{AreLeftOut}
use Rattle.lalrpop_dfa.proofs.LeftOut.{left_end, left_fewer, left_first}
use Rattle.lalrpop_dfa.proofs.Ranked.{written}
use Rattle.lalrpop_dfa.proofs.Reaching.{same_copy, unchanged}
use Rattle.lalrpop_dfa.proofs.lookahead.ever_waiting.Goals as goal

pub loop-marks-init : goal.loop-marks-init
loop-marks-init c = (0, left_first c.args.dfa.now c.in_ok-marks.marks.items c.in_ok-marks.ensures.marks)

pub returns-then-eq-clause-marks : goal.returns-then-eq-clause-marks
returns-then-eq-clause-marks c =
    let d = c.args.dfa.now in
    let old = c.loop-marks.marks.items in
    let new = c.leave_out.new.marks in
    let out : AreLeftOut d old new = subst (λ m. AreLeftOut d m new) c.deref_mut.ensures.value c.leave_out.ensures in
    let count : c.loop-marks.marks.len ≡ length old = omega (arith, c.deref_mut.ensures.len, ap length c.deref_mut.ensures.value) in
    let is = written new old c.loop-marks.marks.len out.same_length count in
    let same = unchanged old new c.in_ok-before.before.items (same_copy old c.in_ok-before.before.items c.in_ok-before.ensures.cases.0) c.eq.result (rw is at c.eq.ensures) c.if-eq.true in
    rw (is, same) (left_end d c.loop-marks.invariant.0 old c.loop-marks.invariant.1 (subst (AreLeftOut d old) same out))

pub loop-marks-smaller : goal.loop-marks-smaller
loop-marks-smaller c =
    let d = c.args.dfa.now in
    let old = c.loop-marks.marks.items in
    let new = c.leave_out.new.marks in
    let out : AreLeftOut d old new = subst (λ m. AreLeftOut d m new) c.deref_mut.ensures.value c.leave_out.ensures in
    let count : c.loop-marks.marks.len ≡ length old = omega (arith, c.deref_mut.ensures.len, ap length c.deref_mut.ensures.value) in
    let is = written new old c.loop-marks.marks.len out.same_length count in
    rw is
    (left_fewer old new c.in_ok-before.before.items (same_copy old c.in_ok-before.before.items c.in_ok-before.ensures.cases.0) c.eq.result (rw is at c.eq.ensures) c.if-eq.false out.same_length out.kept)

pub loop-marks-preserved : goal.loop-marks-preserved
loop-marks-preserved c =
    let d = c.args.dfa.now in
    let old = c.loop-marks.marks.items in
    let new = c.leave_out.new.marks in
    let out : AreLeftOut d old new = subst (λ m. AreLeftOut d m new) c.deref_mut.ensures.value c.leave_out.ensures in
    let count : c.loop-marks.marks.len ≡ length old = omega (arith, c.deref_mut.ensures.len, ap length c.deref_mut.ensures.value) in
    rw (written new old c.loop-marks.marks.len out.same_length count) (out.left c.loop-marks.invariant.0 c.loop-marks.invariant.1)
