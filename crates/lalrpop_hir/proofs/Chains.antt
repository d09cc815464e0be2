-- Laws of chains.
use Rattle.std.proofs.Common.{◌≡◌, ℕ, zero, suc, ◌+◌, List, [], ◌∷◌, ◌++◌, refl, subst}
use Rattle.std.specs.Prelude.{Some, slice_get}
use Rattle.lalrpop_hir.specs.Chain.{Chain}

-- pieces in two parts: the others begin where the first ones end
pub chain_split : {A : Type 0} (size : A → ℕ) (Is : ℕ → A → Type 0) (Ends : ℕ → Type 0) (at : ℕ) (xs ys : List A)
    → Chain size Is Ends at (xs ++ ys) → Chain size Is (λ p. Chain size Is Ends p ys) at xs
chain_split size Is Ends at [] ys are = are
chain_split size Is Ends at (x ∷ xs) ys are = (are.0, chain_split size Is Ends (at + size x) xs ys are.1)

pub chain_join : {A : Type 0} (size : A → ℕ) (Is : ℕ → A → Type 0) (Stops Ends : ℕ → Type 0) (at : ℕ) (xs ys : List A)
    → Chain size Is Stops at xs → ((p : ℕ) → Stops p → Chain size Is Ends p ys) → Chain size Is Ends at (xs ++ ys)
chain_join size Is Stops Ends at [] ys are on = on at are
chain_join size Is Stops Ends at (x ∷ xs) ys are on = (are.0, chain_join size Is Stops Ends (at + size x) xs ys are.1 on)

-- each piece is right at some place
pub chain_at : {A : Type 0} (size : A → ℕ) (Is : ℕ → A → Type 0) (Ends : ℕ → Type 0) (at i : ℕ) (xs : List A) (x : A)
    → Chain size Is Ends at xs → slice_get xs i ≡ Some x → (p : ℕ) × Is p x
chain_at size Is Ends at i [] x are is = absurd (cc)
chain_at size Is Ends at zero (y ∷ xs) x are is = let same : y ≡ x = cc in (at, subst (λ z. Is at z) same are.0)
chain_at size Is Ends at (suc i) (y ∷ xs) x are is = chain_at size Is Ends (at + size y) i xs x are.1 is

-- where no piece is right, there are none
pub chain_over : {A : Type 0} (size : A → ℕ) (Is : ℕ → A → Type 0) (Ends : ℕ → Type 0) (at : ℕ) → ((x : A) → ¬ Is at x) → (xs : List A)
    → Chain size Is Ends at xs → xs ≡ []
chain_over size Is Ends at none [] are = refl
chain_over size Is Ends at none (x ∷ xs) are = absurd (none x are.0)
