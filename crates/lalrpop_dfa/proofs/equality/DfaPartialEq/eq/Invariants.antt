use Rattle.std.proofs.Common.{◌≡◌, ℕ, ◌<◌, true, Some, slice_get}
use Rattle.lalrpop_dfa.specs.Dfa.{Row}
use Rattle.lalrpop_dfa.specs.SameAutomata.{same_row}
use Rattle.lalrpop_dfa.proofs.equality.DfaPartialEq.eq.Given as goal

abbrev pub invariant-loop-number : goal.invariant-loop-number
invariant-loop-number l = (p : ℕ) (r s : Row) → p < l.number → slice_get l.self p ≡ Some r → slice_get l.other p ≡ Some s → same_row r s ≡ true
