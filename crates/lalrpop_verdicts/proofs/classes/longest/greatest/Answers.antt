use Rattle.std.proofs.Common.{◌<◌, length, get_or, rules, arith}
use Rattle.std.proofs.lemmas.List.Elements.{Contains-get_or}
use Rattle.lalrpop_verdicts.proofs.classes.longest.greatest.Goals as goal

pub offset_bounds-lengths-targets : goal.offset_bounds-lengths-targets
offset_bounds-lengths-targets c =
    let target = get_or c.args.targets.now c.loop-place.place 0 in
    let there : c.loop-place.place < length c.args.targets.now = omega (arith, c.loop-place-test.true) in
    let within : target < length c.args.lengths.now = c.requires target (Contains-get_or c.args.targets.now c.loop-place.place 0 there) in
    search rules

pub bounds-lengths-targets : goal.bounds-lengths-targets
bounds-lengths-targets c =
    let target = get_or c.args.targets.now c.loop-place.place 0 in
    let there : c.loop-place.place < length c.args.targets.now = omega (arith, c.loop-place-test.true) in
    c.requires target (Contains-get_or c.args.targets.now c.loop-place.place 0 there)
