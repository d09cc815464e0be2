use Rattle.std.proofs.Common.{ℕ, ◌↔◌}
use Rattle.lalrpop_hir.specs.Range.{Covered}
use Rattle.lalrpop_re.specs.Internal.Edges.{between, AreSound}
use Rattle.lalrpop_re.proofs.Rows.{AddsStepsBelow, LeadsOnBelow}
use Rattle.lalrpop_re.proofs.search.add_steps.Given as goal

abbrev pub invariant-loop-i : goal.invariant-loop-i
invariant-loop-i l = record {
  words : AddsStepsBelow l.end l.state l.i (between l.initial.edges.items) (between l.edges.items);
  ranges : (c : ℕ) → Covered l.ranges.items c ↔ LeadsOnBelow l.end l.state l.i c;
  sound : AreSound l.initial.edges.items → AreSound l.edges.items;
}
