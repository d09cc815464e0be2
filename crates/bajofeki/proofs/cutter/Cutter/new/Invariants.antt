use Rattle.std.proofs.Common.{◌≡◌, ℕ, ◌<◌, List, length}
use Rattle.std.specs.Prelude.{slice_get, Some}
use Rattle.lalrpop_dfa.specs.Dfa.{Row}
use Rattle.bajofeki.specs.declared.walker.Walker.{Walker}
use Rattle.bajofeki.specs.Internal.Walking.{HasOnePlace, IsRight, IsWalkerOf}
use Rattle.bajofeki.proofs.cutter.Cutter.new.Given as goal

abbrev pub invariant-loop-mode : goal.invariant-loop-mode
invariant-loop-mode l = record {
  count : length l.walkers.items ≡ l.mode;
  each : (m : ℕ) (w : Walker) → slice_get l.walkers.items m ≡ Some w → IsRight w × ((d : List Row) → slice_get l.lexer.automata m ≡ Some d → IsWalkerOf w d × HasOnePlace w d);
  automata : (m : ℕ) → m < l.mode → (d : List Row) × (slice_get l.lexer.automata m ≡ Some d);
}
