use Rattle.lalrpop_build.specs.Internal.BreadthFirst.{word}
use Rattle.lalrpop_build.specs.Internal.Ties.{ArePairsOf, HasTiesTo}
use Rattle.lalrpop_build.proofs.ties.Ties.add_all.Given as goal

abbrev pub invariant-loop-upper : goal.invariant-loop-upper
invariant-loop-upper l = record {
  added : HasTiesTo l.strongest (word l.origins l.number) l.fn.self.clashes.items l.self.clashes.items l.upper 0;
  pairs : ArePairsOf l.self.pairs l.self.clashes.items;
}

abbrev pub invariant-loop-lower : goal.invariant-loop-lower
invariant-loop-lower l = record {
  added : HasTiesTo l.strongest (word l.origins l.number) l.fn.self.clashes.items l.self.clashes.items l.upper l.lower;
  pairs : ArePairsOf l.self.pairs l.self.clashes.items;
}
