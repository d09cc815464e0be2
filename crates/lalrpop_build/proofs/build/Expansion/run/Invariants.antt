use Rattle.std.proofs.Common.{◌≡◌, ◌-◌, ◌^◌, length}
use Rattle.lalrpop_build.specs.Internal.Subsets.{all_items}
use Rattle.lalrpop_build.specs.Internal.Stage.{IsBuilt}
use Rattle.lalrpop_build.proofs.build.Expansion.run.Given as goal

abbrev pub invariant-loop-set : goal.invariant-loop-set
invariant-loop-set l = record {
  built : IsBuilt l.self;
  place : l.self.kernels.place ≡ length l.self.written.rows;
  automata : l.self.automata ≡ l.fn.self.automata;
  precedences : l.self.precedences ≡ l.fn.self.precedences;
}

abbrev pub decreases-loop-set : goal.decreases-loop-set
decreases-loop-set l = 2 ^ length (all_items l.self.automata.graphs) - length l.self.written.rows
