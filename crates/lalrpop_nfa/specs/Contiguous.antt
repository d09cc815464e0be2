-- cases: proofs/Cases/Contiguous.antt
-- The edges of one state are contiguous in a list; and the kinds of states.
use Rattle.std.specs.Prelude.{◌≡◌, ℕ, Bool, cond, List, [], ◌∷◌, Option, Some, None, drop, map}
use Rattle.std.specs.List.{filter}
use Rattle.lalrpop_nfa.specs.declared.edge.Edge.{Edge}
use Rattle.lalrpop_nfa.specs.declared.edge.State.{State}
use Rattle.lalrpop_nfa.specs.declared.edge.StateKind.{StateKind}
use Rattle.lalrpop_nfa.specs.Graph.{Lists}
use Rattle.lalrpop_nfa.specs.Firsts.{LabelKind, Noops, Tests, Others}
use Rattle.lalrpop_nfa.specs.Walk.{leaves}

-- the elements at the front that pass the test
abbrev pub walk : {X : Type 0} → (X → Bool) → List X → List X
walk p [] = []
walk p (x ∷ xs) = cond (p x) (x ∷ walk p xs) []

-- what a walk from an index gives, or nothing if there is no index
abbrev pub walk_at : {L : Type 0} → ℕ → List (Edge L) → Option ℕ → List (Edge L)
walk_at q es None = []
walk_at q es (Some i) = walk (leaves q) (drop i es)

-- an edge that leaves this state is at the index, if there is an index
abbrev pub IsAt : {L : Type 0} → ℕ → List (Edge L) → Option ℕ → Type 0
IsAt q es None = Unit {0}
IsAt {L} q es (Some i) = (e : Edge L) × (others : List (Edge L)) × (drop i es ≡ e ∷ others) × (e.from ≡ q)

-- the edges of this state are contiguous, from the index on
pub record IsContiguous {L : Type 0} (q : ℕ) (es : List (Edge L)) (first : Option ℕ) : Type 0 where
  pub at : IsAt q es first
  pub all : filter (leaves q) es ≡ walk_at q es first

-- the edges of this kind that leave state q are contiguous, from the state's index on
abbrev pub AreContiguous : LabelKind → Lists → State → ℕ → Type 0
AreContiguous Noops e s q = IsContiguous q e.noops s.first_noop_edge
AreContiguous Tests e s q = IsContiguous q e.tests s.first_test_edge
AreContiguous Others e s q = IsContiguous q e.others s.first_other_edge

-- the kinds of the states
abbrev pub kinds_of : List State → List StateKind
kinds_of states = map (λ s. s.kind) states
