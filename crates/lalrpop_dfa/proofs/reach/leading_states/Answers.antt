use Rattle.std.proofs.Common.{◌≡◌, ◌≤◌, ap, length, subst, arith}
use Rattle.lalrpop_dfa.specs.Internal.Marks.{AreMarkedBack}
use Rattle.lalrpop_dfa.proofs.Marking.{count_at_most, marked_count}
use Rattle.lalrpop_dfa.proofs.Ranked.{written}
use Rattle.lalrpop_dfa.proofs.Reaching.{changed, growing_end, growing_first, growing_more, same_copy, unchanged}
use Rattle.lalrpop_dfa.proofs.reach.leading_states.Goals as goal

pub loop-marks-init : goal.loop-marks-init
loop-marks-init c = growing_first c.args.dfa.now c.args.goals.items c.requires.same_length

pub returns-then-eq : goal.returns-then-eq
returns-then-eq c =
    let d = c.args.dfa.now in
    let old = c.loop-marks.marks.items in
    let new = c.mark_sources.new.marks in
    let more : AreMarkedBack d old new = subst (λ m. AreMarkedBack d m new) c.deref_mut.ensures.value c.mark_sources.ensures in
    let count : c.loop-marks.marks.len ≡ length old = omega (arith, c.deref_mut.ensures.len, ap length c.deref_mut.ensures.value) in
    let is = written new old c.loop-marks.marks.len more.same_length count in
    let same = unchanged old new c.in_ok-before.before.items (same_copy old c.in_ok-before.before.items c.in_ok-before.ensures.cases.0) c.eq.result (rw is at c.eq.ensures) c.if-eq.true in
    rw (is, same) (growing_end d c.requires.well_formed c.args.goals.items old c.loop-marks.invariant (subst (AreMarkedBack d old) same more))

pub loop-marks-smaller : goal.loop-marks-smaller
loop-marks-smaller c =
    let d = c.args.dfa.now in
    let old = c.loop-marks.marks.items in
    let new = c.mark_sources.new.marks in
    let more : AreMarkedBack d old new = subst (λ m. AreMarkedBack d m new) c.deref_mut.ensures.value c.mark_sources.ensures in
    let count : c.loop-marks.marks.len ≡ length old = omega (arith, c.deref_mut.ensures.len, ap length c.deref_mut.ensures.value) in
    let is = written new old c.loop-marks.marks.len more.same_length count in
    let grows = changed old new c.in_ok-before.before.items (same_copy old c.in_ok-before.before.items c.in_ok-before.ensures.cases.0) c.eq.result (rw is at c.eq.ensures) c.if-eq.false more.same_length more.kept in
    let most : marked_count new ≤ length d = omega (arith, count_at_most new, more.same_length, c.loop-marks.invariant.same_length) in
    rw is (omega (arith, grows, most))

pub loop-marks-preserved : goal.loop-marks-preserved
loop-marks-preserved c =
    let d = c.args.dfa.now in
    let old = c.loop-marks.marks.items in
    let new = c.mark_sources.new.marks in
    let more : AreMarkedBack d old new = subst (λ m. AreMarkedBack d m new) c.deref_mut.ensures.value c.mark_sources.ensures in
    let count : c.loop-marks.marks.len ≡ length old = omega (arith, c.deref_mut.ensures.len, ap length c.deref_mut.ensures.value) in
    rw (written new old c.loop-marks.marks.len more.same_length count) (growing_more d c.args.goals.items old new c.loop-marks.invariant more)
