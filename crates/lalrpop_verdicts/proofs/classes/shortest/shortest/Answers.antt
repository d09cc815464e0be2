use Rattle.std.proofs.Common.{◌≡◌, ◌∙◌, ap, length, subst, arith}
use Rattle.lalrpop_dfa.proofs.Ranked.{written}
use Rattle.lalrpop_dfa.proofs.Totals.{copied, told_apart, told_same, total_less}
use Rattle.lalrpop_verdicts.specs.Internal.Classes.{AreWithin}
use Rattle.lalrpop_verdicts.specs.Internal.Shortest.{AreShortened}
use Rattle.lalrpop_verdicts.proofs.ShortestLaws.{passes_end, passes_first, passes_more}
use Rattle.lalrpop_verdicts.proofs.classes.shortest.shortest.Goals as goal

pub loop-lengths-init : goal.loop-lengths-init
loop-lengths-init c = passes_first c.args.table.now c.args.starts.items

pub shorten-requires-clause-within : goal.shorten-requires-clause-within
shorten-requires-clause-within c =
    let long : length c.args.starts.items ≡ length c.deref_mut.result.now = omega (arith, ap length c.deref_mut.ensures.value, c.loop-lengths.invariant.same_length) in
    λ v m. subst (AreWithin v.items) long (c.requires.within v m)

pub returns-then-eq : goal.returns-then-eq
returns-then-eq c =
    let table = c.args.table.now in
    let old = c.loop-lengths.lengths.items in
    let new = c.shorten.new.lengths in
    let on : AreShortened table old new = subst (λ m. AreShortened table m new) c.deref_mut.ensures.value c.shorten.ensures in
    let count : c.loop-lengths.lengths.len ≡ length old = omega (arith, c.deref_mut.ensures.len, ap length c.deref_mut.ensures.value) in
    let is = written new old c.loop-lengths.lengths.len on.same_length count in
    let same : new ≡ old = told_same new c.in_ok-before.before.items c.eq.result (rw is at c.eq.ensures) c.if-eq.true ∙ copied old c.in_ok-before.before.items c.in_ok-before.ensures.cases.0 in
    rw (is, same) (passes_end table c.args.starts.items old c.loop-lengths.invariant (subst (AreShortened table old) same on))

pub loop-lengths-smaller : goal.loop-lengths-smaller
loop-lengths-smaller c =
    let table = c.args.table.now in
    let old = c.loop-lengths.lengths.items in
    let new = c.shorten.new.lengths in
    let on : AreShortened table old new = subst (λ m. AreShortened table m new) c.deref_mut.ensures.value c.shorten.ensures in
    let count : c.loop-lengths.lengths.len ≡ length old = omega (arith, c.deref_mut.ensures.len, ap length c.deref_mut.ensures.value) in
    let is = written new old c.loop-lengths.lengths.len on.same_length count in
    let copy = copied old c.in_ok-before.before.items c.in_ok-before.ensures.cases.0 in
    rw is (total_less old new on.same_length on.most (λ e. told_apart new c.in_ok-before.before.items c.eq.result (rw is at c.eq.ensures) c.if-eq.false (rw copy e)))

pub loop-lengths-preserved : goal.loop-lengths-preserved
loop-lengths-preserved c =
    let table = c.args.table.now in
    let old = c.loop-lengths.lengths.items in
    let new = c.shorten.new.lengths in
    let on : AreShortened table old new = subst (λ m. AreShortened table m new) c.deref_mut.ensures.value c.shorten.ensures in
    let count : c.loop-lengths.lengths.len ≡ length old = omega (arith, c.deref_mut.ensures.len, ap length c.deref_mut.ensures.value) in
    rw (written new old c.loop-lengths.lengths.len on.same_length count) (passes_more table c.args.starts.items old new c.loop-lengths.invariant on)
