use Rattle.lalrpop_build.proofs.StageLaws.{expansion_numbers}
use Rattle.lalrpop_build.proofs.build.Expansion.begin.Goals as goal

pub clear-requires : goal.clear-requires
clear-requires c = rw c.deref.ensures.value (expansion_numbers _ _ _ _ _ _ c.self.invariant)

pub fill-requires-clause-inside : goal.fill-requires-clause-inside
fill-requires-clause-inside c = rw (← c.self.view_is) at c.requires.inside
