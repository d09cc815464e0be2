use Rattle.std.proofs.Common.{◌≡◌, map, take}
use Rattle.lalrpop_verdicts.specs.Internal.Longest.{stop_at}
use Rattle.lalrpop_verdicts.proofs.classes.longest.stops.Given as goal

abbrev pub invariant-loop-length : goal.invariant-loop-length
invariant-loop-length l = l.stops.items ≡ map stop_at (take l.length-index l.shortest)
