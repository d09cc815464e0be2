-- cases: proofs/Cases/Witness.antt
-- The least match that some values after it leave open, and the least such values.
use Rattle.std.specs.Prelude.{ℕ, List}
use Rattle.lalrpop_hir.specs.Language.{Words}
use Rattle.lalrpop_hir.specs.Word.{IsWord, Shortlex}
use Rattle.lalrpop_dfa.specs.Lookahead.{LeavesOpen}

-- a match, and the values after it
pub record OpenMatch : Type 0 where
  pub word : List ℕ
  pub after : List ℕ

-- the n values x after the word v of L leave it open; all values fit in 32 bits
pub record IsOpenMatch (L : Words) (n : ℕ) (v x : List ℕ) : Type 0 where
  pub word : IsWord v
  pub values : IsWord x
  pub leaves_open : LeavesOpen L n v x

-- the word has the property, and none that is less in the shortlex order has it
pub record IsLeast (P : Words) (w : List ℕ) : Type 0 where
  pub holds : P w
  pub least : (u : List ℕ) → Shortlex u w → ¬ P u

-- v is the least word of L that some n values after it leave open, and x the least such values
pub record IsWitness (L : Words) (n : ℕ) (v x : List ℕ) : Type 0 where
  pub word : IsLeast (λ u. (y : List ℕ) × IsOpenMatch L n u y) v
  pub after : IsLeast (IsOpenMatch L n v) x
