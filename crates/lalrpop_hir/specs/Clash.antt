-- cases: proofs/Cases/Clash.antt
-- The clash of a list of trees.
use Rattle.std.specs.Prelude.{ℕ, ◌<◌, ◌≤◌, List}
use Rattle.lalrpop_hir.specs.Word.{IsWord, Shortlex}
use Rattle.lalrpop_hir.specs.Tree.{Tree}
use Rattle.lalrpop_hir.specs.Winners.{IsStrongest, Ambiguous}

-- no word is ambiguous
abbrev pub NoClash : List Tree → List ℕ → Type 0
NoClash ts ps = (w : List ℕ) → ¬ Ambiguous ts ps w

-- w is the least ambiguous word, i the greatest index of its strongest trees and j the second greatest
pub record IsClash (ts : List Tree) (ps w : List ℕ) (i j : ℕ) : Type 0 where
  pub word : IsWord w
  pub least : (v : List ℕ) → Shortlex v w → ¬ Ambiguous ts ps v
  pub greatest : IsStrongest ts ps w i
  pub second : IsStrongest ts ps w j
  pub less : j < i
  pub others : (k : ℕ) → IsStrongest ts ps w k → k < i → k ≤ j
  pub above : (k : ℕ) → IsStrongest ts ps w k → k ≤ i
