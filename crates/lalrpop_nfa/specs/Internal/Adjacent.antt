-- The edges of one state are contiguous: in every `Nfa`, and where an edge is pushed.
use Rattle.std.specs.Prelude.{◌≡◌, ℕ, List, [], ◌∷◌, ◌++◌, ◌⊎◌, None, slice_index_or}
use Rattle.std.specs.List.{filter}
use Rattle.lalrpop_nfa.specs.declared.edge.Edge.{Edge}
use Rattle.lalrpop_nfa.specs.declared.edge.State.{State}
use Rattle.lalrpop_nfa.specs.declared.edge.StateKind.{StateKind}
use Rattle.lalrpop_nfa.specs.declared.edge.StateKind.TheVariants.{Neither}
use Rattle.lalrpop_nfa.specs.Graph.{Lists}
use Rattle.lalrpop_nfa.specs.Firsts.{LabelKind}
use Rattle.lalrpop_nfa.specs.Walk.{leaves}
use Rattle.lalrpop_nfa.specs.Contiguous.{AreContiguous}

-- a state that no edge leaves
abbrev pub edgeless : StateKind → State
edgeless kind = record { kind = kind; first_noop_edge = None; first_test_edge = None; first_other_edge = None }

-- the state of this number, or one that no edge leaves if there is none
abbrev pub state_at : List State → ℕ → State
state_at states q = slice_index_or states q (edgeless Neither)

-- for each state and kind, the edges are contiguous from the state's index on, and no edge leaves a number
-- past the last state
abbrev pub AllContiguous : List State → Lists → Type 0
AllContiguous states e = (k : LabelKind) (q : ℕ) → AreContiguous k e (state_at states q) q

-- another edge of this state may be pushed: the list has none, or one of them is last
abbrev pub IsOpen : {L : Type 0} → ℕ → List (Edge L) → Type 0
IsOpen {L} q es = (filter (leaves q) es ≡ []) ⊎ ((before : List (Edge L)) × (e : Edge L) × (es ≡ before ++ e ∷ []) × (e.from ≡ q))
