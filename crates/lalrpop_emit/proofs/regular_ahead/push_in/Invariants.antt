use Rattle.std.proofs.Common.{◌≡◌, ◌++◌, map}
use Rattle.std.specs.List.{range_with_len}
use Rattle.lalrpop_emit.specs.Ahead.{In}
use Rattle.lalrpop_emit.specs.Internal.Standings.{live_row}
use Rattle.lalrpop_emit.proofs.regular_ahead.push_in.Given as goal

-- the rows so far
abbrev pub invariant-loop-number : goal.invariant-loop-number
invariant-loop-number l = l.standings.items ≡ l.initial.standings.items ++ map (λ k. In (live_row l.shape k)) (range_with_len 0 l.number)
