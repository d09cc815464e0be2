-- cases: proofs/Cases/Renumbered.antt
-- The same rules under other numbers.
use Rattle.std.specs.Prelude.{◌≡◌, ℕ, ◌<◌, ◌≤◌, ◌↔◌, List, length, slice_index, Result, Ok, Err}
use Rattle.lalrpop_hir.specs.Tree.{Tree}
use Rattle.lalrpop_hir.specs.Winners.{TreeMatches}
use Rattle.lalrpop_hir.specs.declared.token.Token.{Token}
use Rattle.lalrpop_hir.specs.declared.token.TokenFault.{TokenFault}

-- tree i of the one list is tree f i of the other, and g leads back: both match the same words, and the precedences are in the same order
pub record AreRenumbered (f g : ℕ → ℕ) (ts : List Tree) (ps : List ℕ) (us : List Tree) (qs : List ℕ) : Type 0 where
  pub there : (i : ℕ) → i < length ts → (f i < length us) × (g (f i) ≡ i)
  pub back : (k : ℕ) → k < length us → (g k < length ts) × (f (g k) ≡ k)
  pub words : (i : ℕ) (w : List ℕ) → i < length ts → TreeMatches ts w i ↔ TreeMatches us w (f i)
  pub order : (i j : ℕ) → i < length ts → j < length ts
      → (slice_index ps i ≤ slice_index ps j) ↔ (slice_index qs (f i) ≤ slice_index qs (f j))

-- tree by tree they match the same words, and the precedences are in the same order
abbrev pub AreAlike : List Tree → List ℕ → List Tree → List ℕ → Type 0
AreAlike ts ps us qs = AreRenumbered (λ i. i) (λ i. i) ts ps us qs

-- the token of tree f i in the place of one of tree i
abbrev pub renumbered : (ℕ → ℕ) → Result Token TokenFault → Result Token TokenFault
renumbered f (Ok token) = Ok (record token { index = f token.index })
renumbered f (Err fault) = Err fault
