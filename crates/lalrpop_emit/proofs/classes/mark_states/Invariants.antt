use Rattle.std.proofs.Common.{◌≡◌, ℕ, ◌<◌, length}
use Rattle.std.specs.Prelude.{slice_get, Some}
use Rattle.lalrpop_dfa.specs.Dfa.{Row}
use Rattle.lalrpop_emit.specs.Internal.Classes.{AreBetweenMarks}
use Rattle.lalrpop_emit.proofs.classes.mark_states.Given as goal

-- the edges of the states so far are between marks
abbrev pub invariant-loop-number : goal.invariant-loop-number
invariant-loop-number l = record {
  all : length l.marks ≡ 1114112;
  each : (p : ℕ) (r : Row) → p < l.number → slice_get l.dfa p ≡ Some r → AreBetweenMarks l.marks r.tests;
}
