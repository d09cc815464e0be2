use Rattle.lalrpop_re.specs.CharacterSet.{just, range}
use Rattle.lalrpop_re.specs.Bracket.{leaf}
use Rattle.lalrpop_re.proofs.ItemLaws.{where_ok, Gains-same, leaf-just}
use Rattle.lalrpop_re.proofs.bracket.push_character.Goals as goal

pub returns : goal.returns
returns c =
    where_ok c.push_leaf.result c.push_leaf.ensures
    (Gains-same c.args.ranges.now.items c.push_leaf.new.ranges.items (leaf c.args.flags (range c.args.c c.args.c)) (leaf c.args.flags (just c.args.c)) (leaf-just c.args.flags c.args.c))
