use Rattle.std.proofs.Common.{◌≡◌, ◌∙◌, ap, length, subst, arith}
use Rattle.lalrpop_dfa.proofs.Ranked.{written}
use Rattle.lalrpop_dfa.proofs.Totals.{copied, told_apart, told_same, total_less}
use Rattle.lalrpop_verdicts.specs.Internal.Classes.{AreWithin}
use Rattle.lalrpop_verdicts.specs.Internal.Longest.{AreLowered}
use Rattle.lalrpop_verdicts.proofs.LongestLaws.{lower_end, lower_first, lower_more}
use Rattle.lalrpop_verdicts.proofs.classes.longest.longest.Goals as goal

pub loop-lengths-init : goal.loop-lengths-init
loop-lengths-init c = lower_first c.args.table.now c.args.stops.items

pub lower_all-requires-clause-within : goal.lower_all-requires-clause-within
lower_all-requires-clause-within c =
    let long : length c.args.stops.items ≡ length c.deref_mut.result.now = omega (arith, ap length c.deref_mut.ensures.value, c.loop-lengths.invariant.same_length) in
    λ v m. subst (AreWithin v.items) long (c.requires.within v m)

pub returns-then-eq : goal.returns-then-eq
returns-then-eq c =
    let table = c.args.table.now in
    let old = c.loop-lengths.lengths.items in
    let new = c.lower_all.new.lengths in
    let on : AreLowered table old new = subst (λ m. AreLowered table m new) c.deref_mut.ensures.value c.lower_all.ensures in
    let count : c.loop-lengths.lengths.len ≡ length old = omega (arith, c.deref_mut.ensures.len, ap length c.deref_mut.ensures.value) in
    let is = written new old c.loop-lengths.lengths.len on.same_length count in
    let same : new ≡ old = told_same new c.in_ok-before.before.items c.eq.result (rw is at c.eq.ensures) c.if-eq.true ∙ copied old c.in_ok-before.before.items c.in_ok-before.ensures.cases.0 in
    rw (is, same) (lower_end table c.args.stops.items old c.loop-lengths.invariant (subst (AreLowered table old) same on))

pub loop-lengths-smaller : goal.loop-lengths-smaller
loop-lengths-smaller c =
    let table = c.args.table.now in
    let old = c.loop-lengths.lengths.items in
    let new = c.lower_all.new.lengths in
    let on : AreLowered table old new = subst (λ m. AreLowered table m new) c.deref_mut.ensures.value c.lower_all.ensures in
    let count : c.loop-lengths.lengths.len ≡ length old = omega (arith, c.deref_mut.ensures.len, ap length c.deref_mut.ensures.value) in
    let is = written new old c.loop-lengths.lengths.len on.same_length count in
    let copy = copied old c.in_ok-before.before.items c.in_ok-before.ensures.cases.0 in
    rw is (total_less old new on.same_length on.most (λ e. told_apart new c.in_ok-before.before.items c.eq.result (rw is at c.eq.ensures) c.if-eq.false (rw copy e)))

pub loop-lengths-preserved : goal.loop-lengths-preserved
loop-lengths-preserved c =
    let table = c.args.table.now in
    let old = c.loop-lengths.lengths.items in
    let new = c.lower_all.new.lengths in
    let on : AreLowered table old new = subst (λ m. AreLowered table m new) c.deref_mut.ensures.value c.lower_all.ensures in
    let count : c.loop-lengths.lengths.len ≡ length old = omega (arith, c.deref_mut.ensures.len, ap length c.deref_mut.ensures.value) in
    rw (written new old c.loop-lengths.lengths.len on.same_length count) (lower_more table c.args.stops.items old new c.loop-lengths.invariant on)
