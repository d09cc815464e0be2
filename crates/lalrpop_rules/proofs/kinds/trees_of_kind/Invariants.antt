use Rattle.std.proofs.Common.{◌≡◌, take}
use Rattle.lalrpop_rules.specs.Kinds.{trees_of_kind}
use Rattle.lalrpop_rules.proofs.kinds.trees_of_kind.Given as goal

abbrev pub invariant-loop-index : goal.invariant-loop-index
invariant-loop-index l = l.all.items ≡ trees_of_kind l.kind (take l.index l.kinds) (take l.index l.trees)
