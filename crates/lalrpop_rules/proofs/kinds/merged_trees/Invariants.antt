use Rattle.std.proofs.Common.{◌≡◌, ◌++◌, take, drop}
use Rattle.lalrpop_rules.specs.Kinds.{merged, merged_behind}
use Rattle.lalrpop_rules.proofs.kinds.merged_trees.Given as goal

abbrev pub invariant-loop-index : goal.invariant-loop-index
invariant-loop-index l = l.all.items ++ merged_behind (take l.index l.kinds) (drop l.index l.kinds) (drop l.index l.trees) ≡ merged l.kinds l.trees
