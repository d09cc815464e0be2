use Rattle.std.proofs.Common.{◌≡◌, ℕ, true, false}
use Rattle.std.specs.List.{Contains}
use Rattle.lalrpop_hir.specs.Range.{Range, Covers}
use Rattle.lalrpop_nfa.specs.declared.edge.Edge.{Edge}
use Rattle.lalrpop_nfa.specs.Internal.Reads.{Tests}
use Rattle.lalrpop_nfa.proofs.StateSetLemmas.{IsGoing}
use Rattle.lalrpop_nfa.proofs.state_set.StateSet.add_read.Given as goal

abbrev pub invariant-loop-test_edge : goal.invariant-loop-test_edge
invariant-loop-test_edge l = record {
  going : IsGoing l.fn.from l.nfa.edges.tests l.test_edge-iterator (λ x. Covers x.label l.fn.value) l.initial.self l.self;
  tested : l.is_tested ≡ true → (q : ℕ) × Tests l.nfa.edges l.fn.from l.fn.value q;
  untested : l.is_tested ≡ false → (x : Edge Range) → Contains l.nfa.edges.tests x → x.from ≡ l.fn.from → Covers x.label l.fn.value → Contains l.test_edge-iterator x;
}

abbrev pub invariant-loop-other_edge : goal.invariant-loop-other_edge
invariant-loop-other_edge l = IsGoing l.fn.from l.fn.nfa.edges.others l.other_edge-iterator (λ x. Unit {0}) l.initial.self l.self
