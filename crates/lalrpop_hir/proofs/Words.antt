-- Shortlex is a strict total order.
use Rattle.std.proofs.Common.{◌≡◌, ℕ, ◌<◌, ◌⊎◌, inl, inr, List, [], ◌∷◌, length, refl, sym, ◌∙◌, arith}
use Rattle.std.proofs.lemmas.Bool.{cases_lt}
use Rattle.lalrpop_hir.specs.Word.{FirstDifferenceLess, Shortlex}

cases_order : (m n : ℕ) → (m < n) ⊎ ((m ≡ n) ⊎ (n < m))
cases_order m n =
    elim (cases_lt m n) [ inl h ↦ inl h | inr h ↦ elim (cases_lt n m) [ inl g ↦ inr (inr g) | inr g ↦ inr (inl (omega arith)) ] ]

not_less_self : (w : List ℕ) → ¬ FirstDifferenceLess w w
not_less_self [] h = h
not_less_self (c ∷ w) (inl h) = omega arith
not_less_self (c ∷ w) (inr h) = not_less_self w h.1

less_through : (u v w : List ℕ) → FirstDifferenceLess u v → FirstDifferenceLess v w → FirstDifferenceLess u w
less_through [] v w h g = absurd h
less_through (b ∷ u) [] w h g = absurd h
less_through (b ∷ u) (c ∷ v) [] h g = absurd g
less_through (b ∷ u) (c ∷ v) (d ∷ w) (inl h) (inl g) = inl (omega arith)
less_through (b ∷ u) (c ∷ v) (d ∷ w) (inl h) (inr g) = inl (omega (arith, g.0))
less_through (b ∷ u) (c ∷ v) (d ∷ w) (inr h) (inl g) = inl (omega (arith, h.0))
less_through (b ∷ u) (c ∷ v) (d ∷ w) (inr h) (inr g) = inr (h.0 ∙ g.0, less_through u v w h.1 g.1)

less_or_not : (v w : List ℕ) → length v ≡ length w → FirstDifferenceLess v w ⊎ ((v ≡ w) ⊎ FirstDifferenceLess w v)
less_or_not [] [] e = inr (inl refl)
less_or_not [] (d ∷ w) e = absurd (omega arith)
less_or_not (c ∷ v) [] e = absurd (omega arith)
less_or_not (c ∷ v) (d ∷ w) e = first (cases_order c d) (less_or_not v w (omega arith))
  where
    rest : c ≡ d → FirstDifferenceLess v w ⊎ ((v ≡ w) ⊎ FirstDifferenceLess w v) → FirstDifferenceLess (c ∷ v) (d ∷ w) ⊎ ((c ∷ v ≡ d ∷ w) ⊎ FirstDifferenceLess (d ∷ w) (c ∷ v))
    rest f (inl h) = inl (inr (f, h))
    rest f (inr (inl h)) = inr (inl (cc))
    rest f (inr (inr h)) = inr (inr (inr (sym f, h)))

    first : (c < d) ⊎ ((c ≡ d) ⊎ (d < c)) → FirstDifferenceLess v w ⊎ ((v ≡ w) ⊎ FirstDifferenceLess w v) → FirstDifferenceLess (c ∷ v) (d ∷ w) ⊎ ((c ∷ v ≡ d ∷ w) ⊎ FirstDifferenceLess (d ∷ w) (c ∷ v))
    first (inl h) o = inl (inl h)
    first (inr (inl f)) o = rest f o
    first (inr (inr h)) o = inr (inr (inl h))

pub Shortlex-irreflexive : (w : List ℕ) → ¬ Shortlex w w
Shortlex-irreflexive w (inl h) = omega arith
Shortlex-irreflexive w (inr h) = not_less_self w h.1

pub Shortlex-transitive : (u v w : List ℕ) → Shortlex u v → Shortlex v w → Shortlex u w
Shortlex-transitive u v w (inl h) (inl g) = inl (omega arith)
Shortlex-transitive u v w (inl h) (inr g) = inl (omega (arith, g.0))
Shortlex-transitive u v w (inr h) (inl g) = inl (omega (arith, h.0))
Shortlex-transitive u v w (inr h) (inr g) = inr (h.0 ∙ g.0, less_through u v w h.1 g.1)

pub Shortlex-total : (v w : List ℕ) → Shortlex v w ⊎ ((v ≡ w) ⊎ Shortlex w v)
Shortlex-total v w = by_length (cases_order (length v) (length w))
  where
    by_place : length v ≡ length w → FirstDifferenceLess v w ⊎ ((v ≡ w) ⊎ FirstDifferenceLess w v) → Shortlex v w ⊎ ((v ≡ w) ⊎ Shortlex w v)
    by_place e (inl h) = inl (inr (e, h))
    by_place e (inr (inl h)) = inr (inl h)
    by_place e (inr (inr h)) = inr (inr (inr (sym e, h)))

    by_length : (length v < length w) ⊎ ((length v ≡ length w) ⊎ (length w < length v)) → Shortlex v w ⊎ ((v ≡ w) ⊎ Shortlex w v)
    by_length (inl h) = inl (inl h)
    by_length (inr (inl e)) = by_place e (less_or_not v w e)
    by_length (inr (inr h)) = inr (inr (inl h))
