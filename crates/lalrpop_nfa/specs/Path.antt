-- cases: proofs/Cases/Path.antt
-- How steps lead from state to state of an automaton and read a word.
use Rattle.std.specs.Prelude.{◌≡◌, ℕ, List, [], ◌∷◌}
use Rattle.std.specs.List.{Contains}
use Rattle.lalrpop_hir.specs.Range.{Range, Covers}
use Rattle.lalrpop_nfa.specs.Graph.{Lists}
use Rattle.lalrpop_nfa.specs.declared.edge.Edge.{Edge}
use Rattle.lalrpop_nfa.specs.declared.edge.Noop.{Noop}
use Rattle.lalrpop_nfa.specs.declared.edge.Other.{Other}

-- the edge from p to q that reads nothing
abbrev pub noop : ℕ → ℕ → Edge Noop
noop p q = record { from = p; label = record {}; to = q }

-- the edge from p to q that reads a value of the range
abbrev pub test : ℕ → Range → ℕ → Edge Range
test p r q = record { from = p; label = r; to = q }

-- the edge from p to q that reads a value that no test of p covers
abbrev pub other : ℕ → ℕ → Edge Other
other p q = record { from = p; label = record {}; to = q }

-- no test edge of the state covers the value
abbrev pub IsUntested : Lists → ℕ → ℕ → Type 0
IsUntested e p c = (r : Range) (q : ℕ) → Contains e.tests (test p r q) → Covers r c → ⊥

-- steps lead from a state to the last one and read a word
pub data Path (e : Lists) (last : ℕ) : ℕ → List ℕ → Type 0 where
  -- no steps
  here : (p : ℕ) → p ≡ last → Path e last p []
  -- a `Noop` edge reads nothing
  epsilon : (p q : ℕ) (w : List ℕ) → Contains e.noops (noop p q) → Path e last q w → Path e last p w
  -- a `Test` edge reads a value of its range
  read : (p q : ℕ) (w : List ℕ) (r : Range) (c : ℕ) → Contains e.tests (test p r q) → Covers r c → Path e last q w → Path e last p (c ∷ w)
  -- an `Other` edge reads a value that no test edge of its state covers
  otherwise : (p q : ℕ) (w : List ℕ) (c : ℕ) → Contains e.others (other p q) → IsUntested e p c → Path e last q w → Path e last p (c ∷ w)
