-- The values of a slice of 32 bits are a word.
use Rattle.std.proofs.Common.{ℕ, suc, Fits, List, [], ◌∷◌, get_or, arith}
use mir.Syntax.{w32}
use Rattle.lalrpop_hir.specs.Word.{IsWord}

pub is_word : (w : List ℕ) → ((i : ℕ) → Fits w32 (get_or w i 0)) → IsWord w
is_word [] fit = tt
is_word (n ∷ w) fit = let first : Fits w32 n = fit 0 in (omega (arith, first), is_word w (λ i. fit (suc i)))
