use Rattle.std.proofs.Common.{length}
use Rattle.bajofeki.proofs.found_ahead.FoundAhead.forget.Given as goal

abbrev pub invariant-forgetting : goal.invariant-forgetting
invariant-forgetting l = Unit {0}

-- those that are ahead
abbrev pub decreases-forgetting : goal.decreases-forgetting
decreases-forgetting l = length l.self.ends
