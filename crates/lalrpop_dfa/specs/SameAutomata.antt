-- cases: proofs/Cases/SameAutomata.antt
-- When two automata are equal.
use Rattle.std.specs.Prelude.{◌≡◌, ℕ, Bool, true, false, ◌&&◌, ◌==◌, List, length, slice_get, Some}
use Rattle.std.specs.Cmp.Lexicographic.{pointwise}
use Rattle.lalrpop_hir.specs.Range.{Range}
use Rattle.lalrpop_dfa.specs.Dfa.{Row}
use Rattle.lalrpop_dfa.specs.declared.Kind.{Kind}
use Rattle.lalrpop_dfa.specs.declared.Kind.TheVariants.{Accepts, Reject, Neither}

-- the kinds are equal
abbrev pub same_kind : Kind → Kind → Bool
same_kind (Accepts i) (Accepts j) = i == j
same_kind Reject Reject = true
same_kind Neither Neither = true
same_kind k l = false

-- the test edges are equal: the ends of their ranges, and where they lead
abbrev pub same_test : Range × ℕ → Range × ℕ → Bool
same_test t u = (t.0.start == u.0.start) && (t.0.end == u.0.end) && (t.1 == u.1)

-- the states are equal: their kinds and their other edges
abbrev pub same_state : Row → Row → Bool
same_state r s = same_kind r.kind s.kind && (r.other == s.other)

-- the states are equal, and so are their test edges
abbrev pub same_row : Row → Row → Bool
same_row r s = same_state r s && pointwise same_test r.tests s.tests

-- the automata are equal: they have the same number of states, and at each number equal states with equal test edges
abbrev pub same_automaton : List Row → List Row → Bool
same_automaton d e = pointwise same_row d e

-- what equal states agree in
pub record IsSameState (r s : Row) : Type 0 where
  pub kind : r.kind ≡ s.kind
  pub other : r.other ≡ s.other

-- what equal automata agree in
pub record IsSameAutomaton (d e : List Row) : Type 0 where
  pub same_length : length d ≡ length e
  pub states : (p : ℕ) (r s : Row) → slice_get d p ≡ Some r → slice_get e p ≡ Some s → IsSameState r s
  pub tests : (p : ℕ) (r s : Row) → slice_get d p ≡ Some r → slice_get e p ≡ Some s → r.tests ≡ s.tests
