-- cases: proofs/Cases/Smallest.antt
-- Automata with as few states as their answers allow.
use Rattle.std.specs.Prelude.{◌≡◌, ℕ, suc, ◌+◌, ◌<◌, ◌≤◌, ◌⊎◌, ◌↔◌, List, [], ◌∷◌, length, slice_get, Some, None}
use Rattle.lalrpop_hir.specs.Range.{Range}
use Rattle.lalrpop_dfa.specs.Dfa.{Row, IsWellFormed}
use Rattle.lalrpop_dfa.specs.declared.Kind.TheVariants.{Reject}
use Rattle.lalrpop_verdicts.specs.Answers.{answer, answer_from}

-- the automata answer each word alike
abbrev pub AnswerAlike : List Row → List Row → Type 0
AnswerAlike d e = (w : List ℕ) → answer d w ≡ answer e w

-- no automaton that answers each word alike has fewer states
abbrev pub IsSmallest : List Row → Type 0
IsSmallest d = (e : List Row) → IsWellFormed e → AnswerAlike d e → length d ≤ length e

-- n is the least number of states of a well-formed automaton that answers each word alike
abbrev pub IsLeastCount : List Row → ℕ → Type 0
IsLeastCount d n = (least : List Row) × (IsWellFormed least × AnswerAlike d least × IsSmallest least × (length least ≡ n))

-- a state rejects exactly if no tree is accepted from it on
abbrev pub RejectsAtOnce : List Row → Type 0
RejectsAtOnce d = (p : ℕ) (r : Row) → slice_get d p ≡ Some r → (r.kind ≡ Reject) ↔ ((w : List ℕ) → answer_from d p w ≡ None)

-- no test leads where all other values lead, and two that touch lead to different states
abbrev pub AreFewestTests : ℕ → List (Range × ℕ) → Type 0
AreFewestTests other [] = Unit {0}
AreFewestTests other (t ∷ []) = ¬ (t.1 ≡ other)
AreFewestTests other (t ∷ u ∷ ts) = ¬ (t.1 ≡ other) × (u.0.start ≡ t.0.end + 1 → ¬ (u.1 ≡ t.1)) × AreFewestTests other (u ∷ ts)

-- no state has an edge more than it needs
abbrev pub HasFewestEdges : List Row → Type 0
HasFewestEdges d = (p : ℕ) (r : Row) → slice_get d p ≡ Some r → AreFewestTests r.other r.tests

-- no two states answer alike
abbrev pub AreApart : List Row → Type 0
AreApart d = (p q : ℕ) → p < length d → q < length d → ((w : List ℕ) → answer_from d p w ≡ answer_from d q w) → p ≡ q

-- ---- numbers in the order of a breadth first walk

-- where the edges of a state lead, in their order
abbrev pub edges_of : List (Range × ℕ) → ℕ → List ℕ
edges_of [] other = other ∷ []
edges_of (t ∷ ts) other = t.1 ∷ edges_of ts other

-- n states were met before these, and m with them: each that wasn't met before is the next
abbrev pub AreNext : ℕ → List ℕ → ℕ → Type 0
AreNext n [] m = n ≡ m
AreNext n (q ∷ qs) m = ((q < n) × AreNext n qs m) ⊎ ((q ≡ n) × AreNext (suc n) qs m)

-- the states are numbered as a walk from state 0 meets them that takes the states in turn, and the edges of each in their order
pub record AreInOrder (d : List Row) : Type 0 where
  -- how many are met before the row is looked at
  pub met : ℕ → ℕ
  pub first : met 0 ≡ 1
  pub before : (p : ℕ) (r : Row) → slice_get d p ≡ Some r → p < met p
  pub each : (p : ℕ) (r : Row) → slice_get d p ≡ Some r → AreNext (met p) (edges_of r.tests r.other) (met (suc p))

-- two of these that answer each word alike are equal, but for their items: `one_smallest` of proofs/OneSmallest.antt
pub record IsCanonical (d : List Row) : Type 0 where
  pub well_formed : IsWellFormed d
  pub rejects : RejectsAtOnce d
  pub edges : HasFewestEdges d
  pub apart : AreApart d
  pub order : AreInOrder d
