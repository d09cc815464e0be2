use Rattle.std.proofs.Common.{◌≡◌, ◌++◌, drop}
use Rattle.lalrpop_build.specs.Internal.Subsets.{starts_from}
use Rattle.lalrpop_build.proofs.build.automata.starts_of.Given as goal

abbrev pub invariant-loop-index : goal.invariant-loop-index
invariant-loop-index l = l.starts.items ++ starts_from l.index (drop l.index l.nfas) ≡ starts_from 0 l.nfas
