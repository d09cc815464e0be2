use Rattle.std.proofs.Common.{◌≡◌, map, take}
use Rattle.lalrpop_verdicts.specs.Internal.Shortest.{start_of}
use Rattle.lalrpop_verdicts.proofs.classes.shortest.starts.Given as goal

abbrev pub invariant-loop-state : goal.invariant-loop-state
invariant-loop-state l = l.starts.items ≡ map (λ s. start_of s.kind) (take l.state-index l.state-items)
