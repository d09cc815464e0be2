-- The automaton of the classes of states that answer alike: of each class one state, by the state by which a walk met it first.
use Rattle.std.specs.Prelude.{◌≡◌, ℕ, suc, ◌<◌, ◌≤◌, ◌↔◌, List, [], ◌∷◌, ◌++◌, ◌+◌, ◌⊎◌, length, slice_get, slice_index, Option, Some, None}
use Rattle.lalrpop_hir.specs.Range.{Range}
use Rattle.lalrpop_dfa.specs.Dfa.{Row, edge_target, step, after, AreAscendingTests}
use Rattle.lalrpop_dfa.specs.declared.Kind.{Kind}
use Rattle.lalrpop_dfa.specs.declared.Kind.TheVariants.{Reject}
use Rattle.lalrpop_verdicts.specs.Answers.{accepted_by, answer_from}
use Rattle.lalrpop_verdicts.specs.Smallest.{AreNext, edges_of}

-- the states met so far, each of another class: its place among them is the number of its class
pub record AreNumbered (classes : List ℕ) (numbers : List (Option ℕ)) (states : List ℕ) : Type 0 where
  pub room : (p : ℕ) → p < length classes → slice_index classes p < length numbers
  pub within : (i : ℕ) → i < length states → slice_index states i < length classes
  pub numbered : (i : ℕ) → i < length states → slice_get numbers (slice_index classes (slice_index states i)) ≡ Some (Some i)
  pub back : (k n : ℕ) → slice_get numbers k ≡ Some (Some n) → (n < length states) × (slice_index classes (slice_index states n) ≡ k)

-- n is the number of the class of p
pub record IsNumberOf (classes states : List ℕ) (p n : ℕ) : Type 0 where
  pub within : n < length states
  pub same : slice_index classes (slice_index states n) ≡ slice_index classes p

-- the class of p was met
abbrev pub IsMetClass : List ℕ → List ℕ → ℕ → Type 0
IsMetClass classes states p = (n : ℕ) × IsNumberOf classes states p n

-- the old states stay in place, and those that were met since have the property W
pub record AreMet (W : ℕ → Type 0) (old new : List ℕ) : Type 0 where
  pub longer : length old ≤ length new
  pub kept : (i : ℕ) → i < length old → slice_index new i ≡ slice_index old i
  pub since : (i : ℕ) → length old ≤ i → i < length new → W (slice_index new i)

-- some value leads from p to q
abbrev pub LeadsTo : List Row → ℕ → ℕ → Type 0
LeadsTo d p q = (c : ℕ) × (step d p c ≡ q)

-- each value leads from p into the class of p
abbrev pub StaysInClass : List Row → List ℕ → ℕ → Type 0
StaysInClass d classes p = (c : ℕ) → slice_index classes (step d p c) ≡ slice_index classes p

-- the kind of p's class: it accepts what p does, and rejects where p accepts nothing and no value leads out of the class
pub record IsClassKind (d : List Row) (classes : List ℕ) (p : ℕ) (kind : Kind) : Type 0 where
  pub accepted : accepted_by kind ≡ answer_from d p []
  pub rejects : (kind ≡ Reject) ↔ ((answer_from d p [] ≡ None) × StaysInClass d classes p)

-- the tests have the same ranges one by one, and lead to the numbers of the classes
abbrev pub LeadAlike : List ℕ → List ℕ → List (Range × ℕ) → List (Range × ℕ) → Type 0
LeadAlike classes states [] [] = Unit {0}
LeadAlike classes states [] (u ∷ us) = ⊥
LeadAlike classes states (t ∷ ts) [] = ⊥
LeadAlike classes states (t ∷ ts) (u ∷ us) = (u.0 ≡ t.0) × IsNumberOf classes states t.1 u.1 × LeadAlike classes states ts us

-- the classes of where values lead are f's: no test leads into the class of the other edge's target, and two that touch lead
-- into different classes
abbrev pub AreFewTests : (ℕ → ℕ) → ℕ → List (Range × ℕ) → Type 0
AreFewTests f other [] = Unit {0}
AreFewTests f other (t ∷ []) = ¬ (f t.1 ≡ f other)
AreFewTests f other (t ∷ u ∷ ts) = ¬ (f t.1 ≡ f other) × (u.0.start ≡ t.0.end + 1 → ¬ (f u.1 ≡ f t.1)) × AreFewTests f other (u ∷ ts)

-- the tests lead each value into the class that the given tests do, and are few; each ends where a given one does, and leads
-- to the same state
pub record AreJoined (f : ℕ → ℕ) (other : ℕ) (given tests : List (Range × ℕ)) : Type 0 where
  pub alike : (c : ℕ) → f (edge_target tests other c) ≡ f (edge_target given other c)
  pub ascending : AreAscendingTests tests
  pub few : AreFewTests f other tests
  pub each : (k : ℕ) (u : Range × ℕ) → slice_get tests k ≡ Some u → (j : ℕ) × (t : Range × ℕ) × (slice_get given j ≡ Some t) × (t.0.end ≡ u.0.end) × (t.1 ≡ u.1)

-- the last test was made longer by t, which touches it and leads into the same class
pub record IsLengthened (f : ℕ → ℕ) (old : List (Range × ℕ)) (t : Range × ℕ) (new : List (Range × ℕ)) : Type 0 where
  pub front : List (Range × ℕ)
  pub last : Range × ℕ
  pub was : old ≡ front ++ last ∷ []
  pub now : new ≡ front ++ (record { start = last.0.start; end = t.0.end }, t.1) ∷ []
  pub touches : t.0.start ≡ last.0.end + 1
  pub same : f t.1 ≡ f last.1

-- t is after the tests, the last of which it doesn't touch, or which leads into another class
pub record IsBehind (f : ℕ → ℕ) (old : List (Range × ℕ)) (t : Range × ℕ) (new : List (Range × ℕ)) : Type 0 where
  pub now : new ≡ old ++ t ∷ []
  pub apart : (front : List (Range × ℕ)) (last : Range × ℕ) → old ≡ front ++ last ∷ [] → t.0.start ≡ last.0.end + 1 → ¬ (f t.1 ≡ f last.1)

-- t is added to the tests
abbrev pub IsAdded : (ℕ → ℕ) → List (Range × ℕ) → Range × ℕ → List (Range × ℕ) → Type 0
IsAdded f old t new = IsLengthened f old t new ⊎ IsBehind f old t new

-- the row of p's class
pub record IsClassRow (d : List Row) (classes states : List ℕ) (p : ℕ) (s : Row) : Type 0 where
  pub row : Row
  pub here : slice_get d p ≡ Some row
  pub joined : List (Range × ℕ)
  pub are_joined : AreJoined (slice_index classes) row.other row.tests joined
  pub tests : LeadAlike classes states joined s.tests
  pub other : IsNumberOf classes states row.other s.other
  pub kind : IsClassKind d classes p s.kind

-- ---- numbers in the order of a breadth first walk
-- where the tests lead, in their order
abbrev pub targets_of : List (Range × ℕ) → List ℕ
targets_of [] = []
targets_of (t ∷ ts) = t.1 ∷ targets_of ts

-- the numbers were looked up one after another: the old states were met before the first of them, and the new ones are met
-- after the last. A state that wasn't met before got the next number
abbrev pub AreMetInTurn : List ℕ → List ℕ → List ℕ → Type 0
AreMetInTurn old numbers new = AreNext (length old) numbers (length new)

-- the rows so far are in order, and `count` states are met after the last of them
pub record AreRowsInOrder (rows : List Row) (count : ℕ) : Type 0 where
  -- how many were met before each row was looked at, and after the last
  pub met : List ℕ
  pub same_length : length met ≡ length rows + 1
  pub first : slice_index met 0 ≡ 1
  pub last : slice_index met (length rows) ≡ count
  pub before : (p : ℕ) → p < length rows → p < slice_index met p
  pub each : (p : ℕ) (s : Row) → slice_get rows p ≡ Some s → AreNext (slice_index met p) (edges_of s.tests s.other) (slice_index met (suc p))

-- state 0 and others that a word leads to, at most one of each class
pub record AreReached (d : List Row) (classes states : List ℕ) : Type 0 where
  pub some : 0 < length states
  pub start : slice_index states 0 ≡ 0
  pub within : (i : ℕ) → i < length states → slice_index states i < length d
  pub apart : (i j : ℕ) → i < length states → j < length states → slice_index classes (slice_index states i) ≡ slice_index classes (slice_index states j) → i ≡ j
  pub reached : (i : ℕ) → i < length states → (w : List ℕ) × (after d w ≡ slice_index states i)

-- the states that a walk from state 0 has met, and the rows of the first of them
pub record IsWalk (d : List Row) (classes states : List ℕ) (rows : List Row) : Type 0 where
  pub reached : AreReached d classes states
  pub few : length rows ≤ length states
  pub order : AreRowsInOrder rows (length states)
  pub each : (i : ℕ) (s : Row) → slice_get rows i ≡ Some s → IsClassRow d classes states (slice_index states i) s

-- a row for each class that some word leads into
abbrev pub AreClassRows : List Row → List ℕ → List Row → Type 0
AreClassRows d classes rows = (states : List ℕ) × (IsWalk d classes states rows × (length rows ≡ length states))
