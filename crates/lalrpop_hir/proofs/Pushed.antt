-- A list with one more element at the end.
use Rattle.std.proofs.Common.{◌≡◌, ℕ, zero, suc, List, [], ◌∷◌, ◌++◌, length, refl, ap, ◌⊎◌, inl, inr}
use Rattle.std.specs.Prelude.{Some, slice_get}

pub pushed_cases : {X : Type 0} (xs : List X) (y : X) (q : ℕ) (x : X) → slice_get (xs ++ y ∷ []) q ≡ Some x → (slice_get xs q ≡ Some x) ⊎ ((q ≡ length xs) × (x ≡ y))
pushed_cases [] y zero x h = inr (refl, cc)
pushed_cases [] y (suc q) x h = cc
pushed_cases (z ∷ xs) y zero x h = inl h
pushed_cases (z ∷ xs) y (suc q) x h = elim (pushed_cases xs y q x h) [ inl k ↦ inl k | inr k ↦ inr (ap (λ n. suc n) k.0, k.1) ]

pub pushed_keeps : {X : Type 0} (xs : List X) (y : X) (q : ℕ) (x : X) → slice_get xs q ≡ Some x → slice_get (xs ++ y ∷ []) q ≡ Some x
pushed_keeps [] y q x h = cc
pushed_keeps (z ∷ xs) y zero x h = h
pushed_keeps (z ∷ xs) y (suc q) x h = pushed_keeps xs y q x h

pub pushed_last : {X : Type 0} (xs : List X) (y : X) → slice_get (xs ++ y ∷ []) (length xs) ≡ Some y
pushed_last [] y = refl
pushed_last (z ∷ xs) y = pushed_last xs y
