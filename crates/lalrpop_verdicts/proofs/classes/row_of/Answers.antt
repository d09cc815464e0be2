use Rattle.std.proofs.Common.{◌<◌, length, get_or, rules}
use Rattle.std.proofs.lemmas.List.Elements.{Contains-get_or}
use Rattle.lalrpop_verdicts.proofs.classes.row_of.Goals as goal

pub offset_bounds-classes-target : goal.offset_bounds-classes-target
offset_bounds-classes-target c =
    let target = get_or c.args.targets.now c.loop-target.target-index 0 in
    let within : target < length c.args.classes.now = c.requires target (Contains-get_or c.args.targets.now c.loop-target.target-index 0 c.loop-target-test.true) in
    search rules

pub bounds-classes-target : goal.bounds-classes-target
bounds-classes-target c =
    let target = get_or c.args.targets.now c.loop-target.target-index 0 in
    c.requires target (Contains-get_or c.args.targets.now c.loop-target.target-index 0 c.loop-target-test.true)
