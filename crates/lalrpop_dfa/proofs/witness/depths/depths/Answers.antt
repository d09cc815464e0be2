use Rattle.std.proofs.Common.{◌≡◌, ◌∙◌, ap, length, subst, arith}
use Rattle.lalrpop_dfa.specs.Internal.Ranks.{AreShallower}
use Rattle.lalrpop_dfa.proofs.Depths.{depths_end}
use Rattle.lalrpop_dfa.proofs.Ranked.{written}
use Rattle.lalrpop_dfa.proofs.Totals.{copied, told_apart, told_same, total_less}
use Rattle.lalrpop_dfa.proofs.witness.depths.depths.Goals as goal

pub returns-then-eq : goal.returns-then-eq
returns-then-eq c =
    let d = c.args.dfa.now in
    let old = c.loop-depths.depths.items in
    let new = c.rise.new.depths in
    let on : AreShallower d old new = subst (λ m. AreShallower d m new) c.deref_mut.ensures.value c.rise.ensures in
    let count : c.loop-depths.depths.len ≡ length old = omega (arith, c.deref_mut.ensures.len, ap length c.deref_mut.ensures.value) in
    let is = written new old c.loop-depths.depths.len on.same_length count in
    let same : new ≡ old = told_same new c.in_ok-before.before.items c.eq.result (rw is at c.eq.ensures) c.if-eq.true ∙ copied old c.in_ok-before.before.items c.in_ok-before.ensures.cases.0 in
    rw (is, same) (depths_end d c.args.most old c.in_ok-depths.ensures.well_formed (omega (arith, c.ranges.most.fits)) c.loop-depths.invariant (subst (AreShallower d old) same on))

pub loop-depths-smaller : goal.loop-depths-smaller
loop-depths-smaller c =
    let d = c.args.dfa.now in
    let old = c.loop-depths.depths.items in
    let new = c.rise.new.depths in
    let on : AreShallower d old new = subst (λ m. AreShallower d m new) c.deref_mut.ensures.value c.rise.ensures in
    let count : c.loop-depths.depths.len ≡ length old = omega (arith, c.deref_mut.ensures.len, ap length c.deref_mut.ensures.value) in
    let is = written new old c.loop-depths.depths.len on.same_length count in
    let copy = copied old c.in_ok-before.before.items c.in_ok-before.ensures.cases.0 in
    rw is
    (total_less old new on.same_length (λ p l. on.most p (omega (arith, l, c.loop-depths.invariant.same_length)))
    (λ e. told_apart new c.in_ok-before.before.items c.eq.result (rw is at c.eq.ensures) c.if-eq.false (rw copy e)))

pub loop-depths-preserved : goal.loop-depths-preserved
loop-depths-preserved c =
    let d = c.args.dfa.now in
    let old = c.loop-depths.depths.items in
    let new = c.rise.new.depths in
    let on : AreShallower d old new = subst (λ m. AreShallower d m new) c.deref_mut.ensures.value c.rise.ensures in
    let count : c.loop-depths.depths.len ≡ length old = omega (arith, c.deref_mut.ensures.len, ap length c.deref_mut.ensures.value) in
    rw (written new old c.loop-depths.depths.len on.same_length count) (on.deep c.args.most c.loop-depths.invariant)
