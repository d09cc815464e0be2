use Rattle.std.proofs.Common.{◌≡◌, ◌-◌, ◌+◌, ◌<◌, get_or, length, set, subst, sym, arith}
use Rattle.lalrpop_verdicts.specs.Internal.Classes.{AreWithin}
use Rattle.lalrpop_verdicts.specs.Internal.Longest.{IsLowered}
use Rattle.lalrpop_verdicts.specs.Internal.Shortest.{targets_at}
use Rattle.lalrpop_verdicts.proofs.LongestLaws.{IsLowering, lowering_end, lowering_more}
use Rattle.lalrpop_verdicts.proofs.ShortestLaws.{read_targets}
use Rattle.lalrpop_verdicts.proofs.classes.longest.lower_all.Goals as goal

pub lower-requires : goal.lower-requires
lower-requires c =
    let place = length c.args.lengths.now - 1 - c.loop-back.back in
    let v = c.index-table-number.result in
    let within : place < length c.args.table.now = omega (arith, c.loop-back-test.true, c.requires.same_length) in
    let long : length c.args.lengths.now ≡ length c.loop-back.lengths = omega (arith, c.loop-back.auto.lengths) in
    rw c.deref.ensures.value (subst (AreWithin v.items) long (c.requires.within v (place, within, sym c.index-table-number.is)))

pub loop-back-preserved : goal.loop-back-preserved
loop-back-preserved c =
    let table = c.args.table.now in
    let old = c.args.lengths.now in
    let new = c.loop-back.lengths in
    let place = length old - 1 - c.loop-back.back in
    let next = length old - c.loop-back.back in
    let value = c.lower.result in
    let v = c.index-table-number.result in
    let on : next ≡ place + 1 = omega (arith, c.loop-back-test.true) in
    let within : place < length new = omega (arith, c.loop-back-test.true, c.loop-back.auto.lengths) in
    let in_table : place < length table = omega (arith, c.loop-back-test.true, c.requires.same_length) in
    let long : length old ≡ length new = omega (arith, c.loop-back.auto.lengths) in
    let read : targets_at table place ≡ v.items = read_targets table place v in_table c.index-table-number.is in
    let targets : AreWithin (targets_at table place) (length new) = rw read (subst (AreWithin v.items) long (c.requires.within v (place, in_table, sym c.index-table-number.is))) in
    let less : IsLowered new (targets_at table place) (get_or new place 0) value = rw read (subst (λ ts. IsLowered new ts (get_or new place 0) value) c.deref.ensures.value c.lower.ensures) in
    let there : place ≡ length old - (c.loop-back.back + 1) = omega arith in
    subst (λ k. IsLowering table old (set new place value) k) there (lowering_more table old new place next value on c.loop-back.invariant within targets less)

pub returns : goal.returns
returns c =
    let old = c.args.lengths.now in
    let new = c.loop-back.lengths in
    let none : length old - c.loop-back.back ≡ 0 = omega (arith, c.loop-back-test.false) in
    lowering_end c.args.table.now old new (subst (λ k. IsLowering c.args.table.now old new k) none c.loop-back.invariant)
