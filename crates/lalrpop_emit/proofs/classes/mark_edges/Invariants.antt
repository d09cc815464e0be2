use Rattle.std.proofs.Common.{ℕ, take}
use Rattle.lalrpop_emit.specs.Internal.Classes.{AreBetweenMarks, IsMarked}
use Rattle.lalrpop_emit.proofs.classes.mark_edges.Given as goal

-- the ranges of the edges so far are between marks
abbrev pub invariant-loop-test : goal.invariant-loop-test
invariant-loop-test l = record {
  between : AreBetweenMarks l.marks (take l.test-index l.edges);
  kept : (c : ℕ) → IsMarked l.initial.marks c → IsMarked l.marks c;
}
