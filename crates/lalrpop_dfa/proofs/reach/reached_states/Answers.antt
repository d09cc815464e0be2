use Rattle.std.proofs.Common.{◌≡◌, ◌≤◌, ◌⊎◌, ◌↔◌, ℕ, false, ap, ◌∙◌, length, subst, arith}
use Rattle.std.specs.Prelude.{replicate}
use Rattle.std.proofs.lemmas.List.{length-replicate}
use Rattle.lalrpop_dfa.specs.Internal.Marks.{AreMarkedOn, LeadsTo, Marked}
use Rattle.lalrpop_dfa.proofs.Marking.{count_at_most, marked_count}
use Rattle.lalrpop_dfa.proofs.Ranked.{written}
use Rattle.lalrpop_dfa.proofs.Reaching.{changed, reached_end, reached_first, reached_more, same_copy, unchanged}
use Rattle.lalrpop_dfa.proofs.reach.reached_states.Goals as goal

pub loop-marks-init : goal.loop-marks-init
loop-marks-init c =
    let d = c.args.dfa.now in
    let old = c.in_ok-marks.marks.items in
    let new = c.mark_targets.new.marks in
    let long = c.states.ensures.states.same_length in
    let none : old ≡ replicate (length d) false = c.in_ok-marks.ensures.items_if_clones_equal (λ y e. e) ∙ ap (λ n. replicate n false) long in
    let start = c.deref_mut.ensures.value ∙ none in
    let same : length new ≡ length old = omega (arith, c.mark_targets.ensures.same_length, ap length c.deref_mut.ensures.value) in
    let count : c.in_ok-marks.marks.len ≡ length old = omega (arith, c.deref_mut.ensures.len, ap length c.deref_mut.ensures.value) in
    rw (written new old c.in_ok-marks.marks.len same count)
    (reached_first d new (omega (arith, same, ap length none, length-replicate (length d) false)) (subst (λ m. (q : ℕ) → Marked new q ↔ (Marked m q ⊎ LeadsTo d 0 q)) start c.mark_targets.ensures.marked))

pub returns-then-eq : goal.returns-then-eq
returns-then-eq c =
    let d = c.args.dfa.now in
    let old = c.loop-marks.marks.items in
    let new = c.mark_followers.new.marks in
    let more : AreMarkedOn d old new = subst (λ m. AreMarkedOn d m new) c.deref_mut-in-loop-marks.ensures.value c.mark_followers.ensures in
    let count : c.loop-marks.marks.len ≡ length old = omega (arith, c.deref_mut-in-loop-marks.ensures.len, ap length c.deref_mut-in-loop-marks.ensures.value) in
    let is = written new old c.loop-marks.marks.len more.same_length count in
    let same = unchanged old new c.in_ok-before.before.items (same_copy old c.in_ok-before.before.items c.in_ok-before.ensures.cases.0) c.eq.result (rw is at c.eq.ensures) c.if-eq.true in
    rw (is, same) (reached_end d old c.loop-marks.invariant (subst (AreMarkedOn d old) same more))

pub loop-marks-smaller : goal.loop-marks-smaller
loop-marks-smaller c =
    let d = c.args.dfa.now in
    let old = c.loop-marks.marks.items in
    let new = c.mark_followers.new.marks in
    let more : AreMarkedOn d old new = subst (λ m. AreMarkedOn d m new) c.deref_mut-in-loop-marks.ensures.value c.mark_followers.ensures in
    let count : c.loop-marks.marks.len ≡ length old = omega (arith, c.deref_mut-in-loop-marks.ensures.len, ap length c.deref_mut-in-loop-marks.ensures.value) in
    let is = written new old c.loop-marks.marks.len more.same_length count in
    let grows = changed old new c.in_ok-before.before.items (same_copy old c.in_ok-before.before.items c.in_ok-before.ensures.cases.0) c.eq.result (rw is at c.eq.ensures) c.if-eq.false more.same_length more.kept in
    let most : marked_count new ≤ length d = omega (arith, count_at_most new, more.same_length, c.loop-marks.invariant.same_length) in
    rw is (omega (arith, grows, most))

pub loop-marks-preserved : goal.loop-marks-preserved
loop-marks-preserved c =
    let d = c.args.dfa.now in
    let old = c.loop-marks.marks.items in
    let new = c.mark_followers.new.marks in
    let more : AreMarkedOn d old new = subst (λ m. AreMarkedOn d m new) c.deref_mut-in-loop-marks.ensures.value c.mark_followers.ensures in
    let count : c.loop-marks.marks.len ≡ length old = omega (arith, c.deref_mut-in-loop-marks.ensures.len, ap length c.deref_mut-in-loop-marks.ensures.value) in
    rw (written new old c.loop-marks.marks.len more.same_length count) (reached_more d old new c.loop-marks.invariant more)
