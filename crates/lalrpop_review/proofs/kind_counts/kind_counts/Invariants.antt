use Rattle.std.proofs.Common.{◌≡◌, ℕ}
use Rattle.std.specs.Prelude.{Some, slice_get}
use Rattle.lalrpop_review.specs.Internal.Kinds.{IsCount}
use Rattle.lalrpop_review.proofs.kind_counts.kind_counts.Given as goal

-- the rules before this one are counted
abbrev pub invariant-loop-index : goal.invariant-loop-index
invariant-loop-index l =
    (k c : ℕ) → slice_get l.counts.items k ≡ Some c → IsCount l.lexer l.mode l.index k c
