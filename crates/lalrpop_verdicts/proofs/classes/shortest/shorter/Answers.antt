use Rattle.std.proofs.Common.{◌<◌, length, get_or, rules}
use Rattle.std.proofs.lemmas.List.Elements.{Contains-get_or}
use Rattle.lalrpop_verdicts.proofs.classes.shortest.shorter.Goals as goal

pub offset_bounds-lengths-target : goal.offset_bounds-lengths-target
offset_bounds-lengths-target c =
    let target = get_or c.args.targets.now c.loop-target.target-index 0 in
    let within : target < length c.args.lengths.now = c.requires target (Contains-get_or c.args.targets.now c.loop-target.target-index 0 c.loop-target-test.true) in
    search rules

pub bounds-lengths-target : goal.bounds-lengths-target
bounds-lengths-target c =
    let target = get_or c.args.targets.now c.loop-target.target-index 0 in
    c.requires target (Contains-get_or c.args.targets.now c.loop-target.target-index 0 c.loop-target-test.true)
