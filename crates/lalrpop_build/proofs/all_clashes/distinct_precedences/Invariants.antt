use Rattle.std.proofs.Common.{map}
use Rattle.lalrpop_build.specs.Internal.Ties.{AreOwn}
use Rattle.lalrpop_build.proofs.all_clashes.distinct_precedences.Given as goal

abbrev pub invariant-loop-index : goal.invariant-loop-index
invariant-loop-index l = AreOwn l.index (map (λ p. p.0) l.precedences.items)
