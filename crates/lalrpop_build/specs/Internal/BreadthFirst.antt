-- Sets of items numbered in the order in which they are first met.
use Rattle.std.specs.Prelude.{◌≡◌, ℕ, ◌<◌, ◌≤◌, ◌⊎◌, List, [], ◌∷◌, ◌++◌, length, Bool, true}
use Rattle.std.proofs.Common.{get_or, zero, suc}
use Rattle.lalrpop_hir.specs.Word.{Shortlex}

-- the word is at most the other in the shortlex order
abbrev pub ShortlexAtMost : List ℕ → List ℕ → Type 0
ShortlexAtMost v w = (v ≡ w) ⊎ Shortlex v w

-- sets, the set that a set leads to by a value, and which sets are dead
pub record Automaton (S : Type 0) : Type 0 where
  pub start : S
  pub move : S → ℕ → S
  pub dead : S → Bool

-- the set after a word
abbrev pub after : {S : Type 0} → Automaton S → S → List ℕ → S
after m s [] = s
after m s (c ∷ w) = after m (m.move s c) w

-- each move of a dead set is to a dead set
abbrev pub DeadStays : {S : Type 0} → Automaton S → Type 0
DeadStays {S} m = (s : S) (c : ℕ) → m.dead s ≡ true → m.dead (m.move s c) ≡ true

-- the set with number k
abbrev pub nth : {S : Type 0} → Automaton S → List S → ℕ → S
nth m sets k = get_or sets k m.start

-- where number k was first met: from which number, by which value
abbrev pub from_of : List (ℕ × ℕ) → ℕ → ℕ
from_of origins k = (get_or origins k (0, 0)).0

abbrev pub value_of : List (ℕ × ℕ) → ℕ → ℕ
value_of origins k = (get_or origins k (0, 0)).1

-- the place (o, x) is before (p, y): a smaller number, or the same number and a smaller value
abbrev pub Before : ℕ → ℕ → ℕ → ℕ → Type 0
Before o x p y = (o < p) ⊎ ((o ≡ p) × (x < y))

abbrev pub NotAfter : ℕ → ℕ → ℕ → ℕ → Type 0
NotAfter o x p y = (o < p) ⊎ ((o ≡ p) × (x ≤ y))

-- the move from number i by c was examined: it leads to a dead set, or to one that has a number
-- and was first met here or before
abbrev pub Covered : {S : Type 0} → Automaton S → List S → List (ℕ × ℕ) → ℕ → ℕ → Type 0
Covered m sets origins i c =
    (m.dead (m.move (nth m sets i) c) ≡ true)
    ⊎ ((j : ℕ) × (j < length sets) × (nth m sets j ≡ m.move (nth m sets i) c)
    × ((j ≡ 0) ⊎ NotAfter (from_of origins j) (value_of origins j) i c))

-- the numbering up to the place (n, v): all moves from numbers below n were examined, and those
-- from n by values below v
pub record IsBreadthFirst {S : Type 0} (m : Automaton S) (sets : List S) (origins : List (ℕ × ℕ)) (n v : ℕ) : Type 0 where
  pub same_length : length origins ≡ length sets
  pub some : 0 < length sets
  pub first : nth m sets 0 ≡ m.start
  pub distinct : (i j : ℕ) → i < length sets → j < length sets → nth m sets i ≡ nth m sets j → i ≡ j
  pub earlier : (k : ℕ) → 0 < k → k < length sets → from_of origins k < k
  pub reached : (k : ℕ) → 0 < k → k < length sets → m.move (nth m sets (from_of origins k)) (value_of origins k) ≡ nth m sets k
  pub ascending : (j k : ℕ) → 0 < j → j < k → k < length sets → Before (from_of origins j) (value_of origins j) (from_of origins k) (value_of origins k)
  pub behind : (k : ℕ) → 0 < k → k < length sets → Before (from_of origins k) (value_of origins k) n v
  pub covered : (i c : ℕ) → i < length sets → Before i c n v → Covered m sets origins i c

-- each number but 0 was first met from a smaller one
abbrev pub AreEarlier : List (ℕ × ℕ) → Type 0
AreEarlier origins = (k : ℕ) → 0 < k → k < length origins → from_of origins k < k

-- the word of number k, with at least k as its fuel
abbrev pub word_of : List (ℕ × ℕ) → ℕ → ℕ → List ℕ
word_of origins zero k = []
word_of origins (suc f) zero = []
word_of origins (suc f) (suc k) = word_of origins f (from_of origins (suc k)) ++ value_of origins (suc k) ∷ []

abbrev pub word : List (ℕ × ℕ) → ℕ → List ℕ
word origins k = word_of origins k k

-- what adding a set does: it already has a number, or gets the next one with its origin
abbrev pub Added : {S : Type 0} → Automaton S → List S → List (ℕ × ℕ) → ℕ → ℕ → S → ℕ → List S → List (ℕ × ℕ) → Type 0
Added m sets origins n v t j sets2 origins2 =
    ((j < length sets) × (nth m sets j ≡ t) × (sets2 ≡ sets) × (origins2 ≡ origins))
    ⊎ (((k : ℕ) → k < length sets → nth m sets k ≡ t → ⊥) × (j ≡ length sets)
    × (sets2 ≡ sets ++ t ∷ []) × (origins2 ≡ origins ++ (n, v) ∷ []))

-- a word leads to a dead set, or to a number below n whose word is at most it
abbrev pub Settled : {S : Type 0} → Automaton S → List S → List (ℕ × ℕ) → ℕ → List ℕ → Type 0
Settled m sets origins n w =
    (m.dead (after m m.start w) ≡ true)
    ⊎ ((i : ℕ) × (i < n) × (nth m sets i ≡ after m m.start w) × ShortlexAtMost (word origins i) w)

-- the shortlex-least word that leads to a set with q
pub record IsLeast {S : Type 0} (m : Automaton S) (q : S → Bool) (w : List ℕ) : Type 0 where
  pub holds : q (after m m.start w) ≡ true
  pub least : (v : List ℕ) → Shortlex v w → q (after m m.start v) ≡ true → ⊥
