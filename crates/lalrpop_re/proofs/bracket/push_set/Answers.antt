use Rattle.lalrpop_re.specs.Bracket.{leaf_or_complement}
use Rattle.lalrpop_re.proofs.ItemLaws.{where_ok}
use Rattle.lalrpop_re.proofs.bracket.push_set.Goals as goal

pub returns : goal.returns
returns c = where_ok c.push_class.result c.push_class.ensures (λ g s h. g (leaf_or_complement c.args.flags s c.args.negated) (c.in_ok-leaf.ensures.runs s h))
