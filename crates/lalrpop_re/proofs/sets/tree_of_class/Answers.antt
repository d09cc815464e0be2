use Rattle.std.proofs.Common.{◌∙◌}
use Rattle.lalrpop_re.proofs.SetLaws.{tree-of_set}
use Rattle.lalrpop_re.proofs.sets.tree_of_class.Goals as goal

pub returns : goal.returns
returns c = record { tree = λ s k. c.class.ensures.tree ∙ tree-of_set c.args.class s k }
