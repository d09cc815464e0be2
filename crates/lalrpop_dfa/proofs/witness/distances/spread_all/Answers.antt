use Rattle.std.proofs.Common.{◌≡◌, ◌∙◌, ap, length, subst, arith}
use Rattle.lalrpop_dfa.specs.Internal.Ranks.{AreNearer}
use Rattle.lalrpop_dfa.proofs.Distances.{passes_more}
use Rattle.lalrpop_dfa.proofs.Ranked.{written}
use Rattle.lalrpop_dfa.proofs.Totals.{copied, told_apart, told_same, total_less}
use Rattle.lalrpop_dfa.proofs.witness.distances.spread_all.Goals as goal

pub returns-then-eq-clause-ways : goal.returns-then-eq-clause-ways
returns-then-eq-clause-ways c =
    let d = c.args.dfa.now in
    let old = c.loop-distances.distances.items in
    let new = c.spread.new.distances in
    let on : AreNearer d old new = subst (λ m. AreNearer d m new) c.deref_mut.ensures.value c.spread.ensures in
    let count : c.loop-distances.distances.len ≡ length old = omega (arith, c.deref_mut.ensures.len, ap length c.deref_mut.ensures.value) in
    rw (written new old c.loop-distances.distances.len on.same_length count) (λ n a. on.ways n (c.loop-distances.invariant.ways n a))

pub returns-then-eq-clause-still : goal.returns-then-eq-clause-still
returns-then-eq-clause-still c =
    let d = c.args.dfa.now in
    let old = c.loop-distances.distances.items in
    let new = c.spread.new.distances in
    let on : AreNearer d old new = subst (λ m. AreNearer d m new) c.deref_mut.ensures.value c.spread.ensures in
    let count : c.loop-distances.distances.len ≡ length old = omega (arith, c.deref_mut.ensures.len, ap length c.deref_mut.ensures.value) in
    let is = written new old c.loop-distances.distances.len on.same_length count in
    let same : new ≡ old = told_same new c.in_ok-before.before.items c.eq.result (rw is at c.eq.ensures) c.if-eq.true ∙ copied old c.in_ok-before.before.items c.in_ok-before.ensures.cases.0 in
    rw (is, same) (subst (AreNearer d old) same on).least

pub loop-distances-smaller : goal.loop-distances-smaller
loop-distances-smaller c =
    let d = c.args.dfa.now in
    let old = c.loop-distances.distances.items in
    let new = c.spread.new.distances in
    let on : AreNearer d old new = subst (λ m. AreNearer d m new) c.deref_mut.ensures.value c.spread.ensures in
    let count : c.loop-distances.distances.len ≡ length old = omega (arith, c.deref_mut.ensures.len, ap length c.deref_mut.ensures.value) in
    let is = written new old c.loop-distances.distances.len on.same_length count in
    let copy = copied old c.in_ok-before.before.items c.in_ok-before.ensures.cases.0 in
    rw is
    (total_less old new on.same_length (λ p l. on.most p (omega (arith, l, c.loop-distances.invariant.same_length)))
    (λ e. told_apart new c.in_ok-before.before.items c.eq.result (rw is at c.eq.ensures) c.if-eq.false (rw copy e)))

pub loop-distances-preserved : goal.loop-distances-preserved
loop-distances-preserved c =
    let d = c.args.dfa.now in
    let old = c.loop-distances.distances.items in
    let new = c.spread.new.distances in
    let on : AreNearer d old new = subst (λ m. AreNearer d m new) c.deref_mut.ensures.value c.spread.ensures in
    let count : c.loop-distances.distances.len ≡ length old = omega (arith, c.deref_mut.ensures.len, ap length c.deref_mut.ensures.value) in
    rw (written new old c.loop-distances.distances.len on.same_length count) (passes_more d c.args.first.items old new c.loop-distances.invariant on)
