-- The states that a word leads to, as the run of one automaton lists and marks them.
use Rattle.std.specs.Prelude.{◌≡◌, ℕ, ◌<◌, ◌⊎◌, ◌↔◌, Bool, true, false, List, [], ◌∷◌, ◌++◌, length, slice_index_or, slice_get, Option, Some, None}
use Rattle.std.specs.List.{Contains, count_by}
use Rattle.lalrpop_nfa.specs.Graph.{Graph, Lists}
use Rattle.lalrpop_nfa.specs.Path.{Path, noop}
use Rattle.lalrpop_nfa.specs.Internal.Reads.{Reads}
use Rattle.lalrpop_nfa.specs.declared.edge.StateKind.TheVariants.{Accept, Reject}

-- a set of states: the listed ones, and the number below which they all are
pub record StateList : Type 0 where
  pub states : List ℕ
  pub room : ℕ

-- one state, with room for the states below n
abbrev pub only : ℕ → ℕ → StateList
only q n = record { states = q ∷ []; room = n }

-- the marked states are the listed ones, and each is listed once
pub record IsStateSet (states : List ℕ) (marks : List Bool) : Type 0 where
  pub marked : (q : ℕ) → Contains states q ↔ (slice_index_or marks q false ≡ true)
  pub once : length states ≡ count_by (λ b. b) marks

-- one edge that reads nothing leads from p to q
abbrev pub IsEpsilonEdge : Lists → ℕ → ℕ → Type 0
IsEpsilonEdge e p q = Contains e.noops (noop p q)

-- states were added at the end: only states that T holds of, and all of those that there is room for
pub record IsGrown (old new : StateList) (T : ℕ → Type 0) : Type 0 where
  pub room : new.room ≡ old.room
  pub kept : (more : List ℕ) × (new.states ≡ old.states ++ more)
  pub sound : (q : ℕ) → Contains new.states q → Contains old.states q ⊎ T q
  pub complete : (q : ℕ) → T q → q < old.room → Contains new.states q

-- with each state, the states below n that edges lead to by reading nothing are listed too
abbrev pub IsClosed : Lists → ℕ → List ℕ → Type 0
IsClosed e n states = (p q : ℕ) → Contains states p → IsEpsilonEdge e p q → q < n → Contains states q

-- the states that the given ones lead to by reading nothing, as far as there is room for them
pub record IsClosure (e : Lists) (given all : StateList) : Type 0 where
  pub room : all.room ≡ given.room
  pub kept : (q : ℕ) → Contains given.states q → q < given.room → Contains all.states q
  pub sound : (q : ℕ) → Contains all.states q → (p : ℕ) × (Contains given.states p × Path e q p [])
  pub closed : IsClosed e given.room all.states

-- the states that the given ones lead to by reading the value, as far as there is room for them
pub record IsMove (e : Lists) (c : ℕ) (given all : StateList) : Type 0 where
  pub room : all.room ≡ given.room
  pub sound : (q : ℕ) → Contains all.states q → (p : ℕ) × (Contains given.states p × Path e q p (c ∷ []))
  pub complete : (p q : ℕ) → Contains given.states p → Reads e p c q → q < given.room → Contains all.states q
  pub closed : IsClosed e given.room all.states

-- an automaton, and the states that a prefix leads to in it
pub record Visited : Type 0 where
  pub graph : Graph
  pub states : StateList

-- some listed state is accepting
abbrev pub Accepts : Visited → Type 0
Accepts v = (q : ℕ) × (Contains v.states.states q × (slice_get v.graph.kinds q ≡ Some Accept))

-- each listed state is rejecting
abbrev pub Rejects : Visited → Type 0
Rejects v = (q : ℕ) → Contains v.states.states q → slice_get v.graph.kinds q ≡ Some Reject

-- the text, if some listed state is accepting
abbrev pub IsIfAccepted : Visited → List ℕ → Option (List ℕ) → Type 0
IsIfAccepted v text None = ¬ Accepts v
IsIfAccepted v text (Some found) = Accepts v × (found ≡ text)
