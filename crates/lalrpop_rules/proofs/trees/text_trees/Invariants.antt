use Rattle.std.proofs.Common.{take}
use Rattle.lalrpop_rules.specs.RuleSet.{AreTrees}
use Rattle.lalrpop_rules.proofs.trees.text_trees.Given as goal

abbrev pub invariant-loop-index : goal.invariant-loop-index
invariant-loop-index l = AreTrees (take l.index l.rules) l.trees.items
