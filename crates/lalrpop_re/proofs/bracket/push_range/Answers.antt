use Rattle.lalrpop_re.proofs.ItemLaws.{range_pushed}
use Rattle.lalrpop_re.proofs.bracket.push_range.Goals as goal

pub returns : goal.returns
returns c =
    range_pushed c.args.flags c.args.start.part c.args.end.part c.in-Character.low c.in-Character-part.high c.args.ranges.now.items c.push_leaf.new.ranges.items
    c.in-Character.is c.in-Character-part.is c.if-low-high.false c.in_ok-push_leaf.ensures
