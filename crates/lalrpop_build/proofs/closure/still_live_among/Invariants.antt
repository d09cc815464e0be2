use Rattle.lalrpop_build.proofs.StillLive.{IsStillLive}
use Rattle.lalrpop_build.proofs.closure.still_live_among.Given as goal

abbrev pub invariant-loop-pattern : goal.invariant-loop-pattern
invariant-loop-pattern l = IsStillLive l.items l.live_patterns l.pattern-index l.place l.still.items
