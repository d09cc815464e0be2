-- cases: proofs/Cases/ClashList.antt
-- All clashes of a list of trees: each pair that ties on some word, with the least such word.
use Rattle.std.specs.Prelude.{◌≡◌, ℕ, ◌<◌, ◌⊎◌, List, slice_get, Some}
use Rattle.std.specs.List.{Contains}
use Rattle.lalrpop_hir.specs.Word.{IsWord, Shortlex}
use Rattle.lalrpop_hir.specs.Tree.{Tree}
use Rattle.lalrpop_hir.specs.Winners.{IsStrongest}

-- tree i and the lower tree j are two of the strongest on the word
abbrev pub AreTied : List Tree → List ℕ → List ℕ → ℕ → ℕ → Type 0
AreTied ts ps w i j = (j < i) × IsStrongest ts ps w i × IsStrongest ts ps w j

-- two trees and a word
pub record Entry : Type 0 where
  pub match0 : ℕ
  pub match1 : ℕ
  pub word : List ℕ

-- the two trees tie on the word and on no smaller one
pub record IsFirstTie (ts : List Tree) (ps : List ℕ) (c : Entry) : Type 0 where
  pub word : IsWord c.word
  pub tie : AreTied ts ps c.word c.match0 c.match1
  pub least : (v : List ℕ) → Shortlex v c.word → ¬ AreTied ts ps v c.match0 c.match1

-- ordered by word, then by the first tree, greatest first, then by the second tree, greatest first
abbrev pub StandsBefore : Entry → Entry → Type 0
StandsBefore c d = Shortlex c.word d.word
    ⊎ ((c.word ≡ d.word) × ((d.match0 < c.match0) ⊎ ((c.match0 ≡ d.match0) × (d.match1 < c.match1))))

-- each entry stands before all later ones
abbrev pub AreInOrder : List Entry → Type 0
AreInOrder cs = (p q : ℕ) (c d : Entry) → p < q → slice_get cs p ≡ Some c → slice_get cs q ≡ Some d → StandsBefore c d

-- each entry is a first tie, each pair that ties on some word has an entry, and they are in order
pub record AreClashes (ts : List Tree) (ps : List ℕ) (cs : List Entry) : Type 0 where
  pub each : (c : Entry) → Contains cs c → IsFirstTie ts ps c
  pub all : (w : List ℕ) (i j : ℕ) → AreTied ts ps w i j
      → (c : Entry) × (Contains cs c × (c.match0 ≡ i) × (c.match1 ≡ j))
  pub in_order : AreInOrder cs
