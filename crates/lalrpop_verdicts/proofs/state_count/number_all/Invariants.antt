use Rattle.std.proofs.Common.{◌≡◌, ◌<◌, ℕ}
use Rattle.std.specs.Prelude.{slice_index}
use Rattle.std.specs.List.{Contains}
use Rattle.lalrpop_verdicts.specs.Internal.ClassRows.{AreMet, AreNumbered, IsMetClass}
use Rattle.lalrpop_verdicts.proofs.state_count.number_all.Given as goal

abbrev pub invariant-loop-state : goal.invariant-loop-state
invariant-loop-state l = record {
  classes : l.met.classes.items ≡ l.fn.met.classes.items;
  numbered : AreNumbered l.fn.met.classes.items l.met.numbers.items l.met.states.items;
  met : AreMet (Contains l.states) l.fn.met.states.items l.met.states.items;
  all : (k : ℕ) → k < l.state-index → IsMetClass l.fn.met.classes.items l.met.states.items (slice_index l.states k);
}
