-- cases: proofs/Cases/Dfa.antt
-- The automaton of a list of trees, and what it recognizes.
use Rattle.std.specs.Prelude.{◌≡◌, ℕ, ◌<◌, ◌≤◌, List, [], ◌∷◌, length, slice_get, Option, Some, None, nat_le, ◌&&◌, if◌then◌else◌, IsSomeAnd}
use Rattle.std.specs.List.{Contains}
use Rattle.lalrpop_hir.specs.Range.{Range}
use Rattle.lalrpop_hir.specs.Tree.{Tree}
use Rattle.lalrpop_hir.specs.Winners.{IsOnlyStrongest, Matched}
use Rattle.lalrpop_hir.specs.Word.{IsWord}
use Rattle.lalrpop_dfa.specs.declared.Kind.{Kind}
use Rattle.lalrpop_dfa.specs.declared.Kind.TheVariants.{Accepts, Reject, Neither}

-- a state: its kind, where its tests lead, where all other values lead, and the items that it holds,
-- each the index of a tree in the list and a state of that tree's automaton
pub record Row : Type 0 where
  pub kind : Kind
  pub tests : List (Range × ℕ)
  pub other : ℕ
  pub items : List (ℕ × ℕ)

-- a state as its automaton stores it: its test edges are in a list of all test edges, `count` of them from the place
-- `first` on
pub record StoredState : Type 0 where
  pub kind : Kind
  pub other : ℕ
  pub items : List (ℕ × ℕ)
  pub first : ℕ
  pub count : ℕ

-- the state without its test edges
abbrev pub bare : StoredState → Row
bare s = record { kind = s.kind; tests = []; other = s.other; items = s.items }

-- the same state
pub record IsStored (r : Row) (s : StoredState) : Type 0 where
  pub kind : s.kind ≡ r.kind
  pub other : s.other ≡ r.other
  pub items : s.items ≡ r.items
  pub count : s.count ≡ length r.tests

-- the same states
pub record AreStored (d : List Row) (states : List StoredState) : Type 0 where
  pub same_length : length states ≡ length d
  pub each : (p : ℕ) (r : Row) (s : StoredState) → slice_get d p ≡ Some r → slice_get states p ≡ Some s → IsStored r s

-- the state that the value leads to
abbrev pub edge_target : List (Range × ℕ) → ℕ → ℕ → ℕ
edge_target [] other c = other
edge_target (t ∷ ts) other c = if nat_le t.0.start c && nat_le c t.0.end then t.1 else edge_target ts other c

-- the state that the value leads to from the state p
abbrev pub step : List Row → ℕ → ℕ → ℕ
step d p c = step_row (slice_get d p) c
  where
    step_row : Option Row → ℕ → ℕ
    step_row None c = 0
    step_row (Some r) c = edge_target r.tests r.other c

-- the state that the word leads to from the state p
abbrev pub run : List Row → ℕ → List ℕ → ℕ
run d p [] = p
run d p (c ∷ w) = run d (step d p c) w

-- the state after the word
abbrev pub after : List Row → List ℕ → ℕ
after d w = run d 0 w

-- what a state of this kind says of the word that leads to it
abbrev pub IsRightKind : List Tree → List ℕ → List ℕ → Kind → Type 0
IsRightKind ts ps w (Accepts i) = IsOnlyStrongest ts ps w i
IsRightKind ts ps w Reject = ¬ Matched ts w
IsRightKind ts ps w Neither = ¬ Matched ts w

-- the state is a reject state
abbrev pub IsReject : List Row → ℕ → Type 0
IsReject d p = IsSomeAnd (slice_get d p) (λ r. r.kind ≡ Reject)

-- after each word the kind is right, and no value of a word leads out of a reject state
pub record Recognizes (d : List Row) (ts : List Tree) (ps : List ℕ) : Type 0 where
  pub kinds : (w : List ℕ) → IsWord w → IsSomeAnd (slice_get d (after d w)) (λ r. IsRightKind ts ps w r.kind)
  pub stays : (p c : ℕ) → c ≤ 4294967295 → IsReject d p → IsReject d (step d p c)

-- the same of all numbers, whether they fit 32 bits or not
pub record RecognizesAll (d : List Row) (ts : List Tree) (ps : List ℕ) : Type 0 where
  pub kinds : (w : List ℕ) → IsSomeAnd (slice_get d (after d w)) (λ r. IsRightKind ts ps w r.kind)
  pub stays : (p c : ℕ) → IsReject d p → IsReject d (step d p c)

-- the ranges are nonempty, and each ends before the next begins
abbrev pub AreAscendingTests : List (Range × ℕ) → Type 0
AreAscendingTests [] = Unit {0}
AreAscendingTests (t ∷ []) = t.0.start ≤ t.0.end
AreAscendingTests (t ∷ u ∷ ts) = (t.0.start ≤ t.0.end) × (t.0.end < u.0.start) × AreAscendingTests (u ∷ ts)

-- what holds of the states of every automaton: there is at least one, and each edge leads to a state
pub record IsWellFormed (d : List Row) : Type 0 where
  pub some : 0 < length d
  pub ascending : (p : ℕ) (r : Row) → slice_get d p ≡ Some r → AreAscendingTests r.tests
  pub tests_in : (p : ℕ) (r : Row) (t : Range × ℕ) → slice_get d p ≡ Some r → Contains r.tests t → t.1 < length d
  pub others_in : (p : ℕ) (r : Row) → slice_get d p ≡ Some r → r.other < length d
