use Rattle.lalrpop_build.specs.Internal.Built.{subset_automaton}
use Rattle.lalrpop_build.specs.Internal.Ties.{ArePairsOf}
use Rattle.lalrpop_build.proofs.ClashLists.{AreListedTo}
use Rattle.lalrpop_build.proofs.AllClashes.{AreTiedIn}
use Rattle.lalrpop_build.proofs.all_clashes.clashes_in.Given as goal
use Rattle.std.proofs.Common.{map}

abbrev pub invariant-loop-number : goal.invariant-loop-number
invariant-loop-number l = record {
  listed : AreListedTo (subset_automaton l.expansion.automata.graphs) l.expansion.kernels.list l.expansion.origins (AreTiedIn (map (λ p. p.0) l.precedences)) l.number l.ties.clashes.items;
  pairs : ArePairsOf l.ties.pairs l.ties.clashes.items;
}
