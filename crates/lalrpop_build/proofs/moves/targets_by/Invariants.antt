use Rattle.lalrpop_build.proofs.TakenEdges.{IsWalked}
use Rattle.lalrpop_build.proofs.moves.targets_by.Given as goal

abbrev pub invariant-loop-item : goal.invariant-loop-item
invariant-loop-item l = IsWalked l.nfas l.items l.transitions l.item-index l.from l.targets.items
