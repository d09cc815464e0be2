use Rattle.std.proofs.Common.{◌≡◌, take}
use Rattle.lalrpop_dfa.specs.LiveItems.{live_of}
use Rattle.lalrpop_build.proofs.closure.live_among.Given as goal

abbrev pub invariant-loop-item : goal.invariant-loop-item
invariant-loop-item l = l.live.items ≡ live_of (take l.item-index l.items)
