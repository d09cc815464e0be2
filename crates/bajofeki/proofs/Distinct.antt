-- Lists in which nothing stands twice.
use Rattle.std.proofs.Common.{◌≡◌, ℕ, suc, ◌+◌, ◌≤◌, ◌⊎◌, inl, inr, List, [], ◌∷◌, ◌++◌, length, refl, sym, subst, ◌∙◌, arith}
use Rattle.std.specs.List.{Contains}
use Rattle.std.proofs.lemmas.List.Elements.{Contains-append_cases}
use Rattle.bajofeki.specs.Internal.Paying.{AreDistinct}

-- it stands in the list
abbrev pub StandsIn : {Y : Type 0} → List Y → Y → Type 0
StandsIn [] y = ⊥
StandsIn (x ∷ ys) y = (x ≡ y) ⊎ StandsIn ys y

pub stands_left : {Y : Type 0} (xs ys : List Y) (y : Y) → StandsIn xs y → StandsIn (xs ++ ys) y
stands_left [] ys y at = absurd at
stands_left (x ∷ xs) ys y (inl here) = inl here
stands_left (x ∷ xs) ys y (inr later) = inr (stands_left xs ys y later)

pub stands_right : {Y : Type 0} (xs ys : List Y) (y : Y) → StandsIn ys y → StandsIn (xs ++ ys) y
stands_right [] ys y at = at
stands_right (x ∷ xs) ys y at = inr (stands_right xs ys y at)

-- the list without one of its elements
without : {Y : Type 0} (ys : List Y) (y : Y) → StandsIn ys y
    → (zs : List Y) × ((length ys ≡ 1 + length zs) × ((z : Y) → (y ≡ z → ⊥) → StandsIn ys z → StandsIn zs z))
without [] y at = absurd at
without {Y} (x ∷ ys) y (inl here) = (ys, (omega arith, by_place))
  where
    by_place : (z : Y) → (y ≡ z → ⊥) → StandsIn (x ∷ ys) z → StandsIn ys z
    by_place z other (inl same) = absurd (other (sym here ∙ same))
    by_place z other (inr later) = later
without {Y} (x ∷ ys) y (inr later) =
    let rest = without ys y later in (x ∷ rest.0, (omega (arith, rest.1.0), by_place rest.0 rest.1.1))
  where
    by_place : (zs : List Y) → ((z : Y) → (y ≡ z → ⊥) → StandsIn ys z → StandsIn zs z) → (z : Y) → (y ≡ z → ⊥) → StandsIn (x ∷ ys) z → StandsIn (x ∷ zs) z
    by_place zs others z other (inl same) = inl same
    by_place zs others z other (inr there) = inr (others z other there)

contains_later : (x z : ℕ × (ℕ × ℕ)) (xs : List (ℕ × (ℕ × ℕ))) → Contains xs z → Contains (x ∷ xs) z
contains_later x z xs at = (suc at.0, omega (arith, at.1), at.2)

-- where each of them has an image in the other list, and no two the same one, they are no more than those of that list
pub no_more : {Y : Type 0} (R : ℕ × (ℕ × ℕ) → Y → Type 0) → ((x z : ℕ × (ℕ × ℕ)) (y : Y) → R x y → R z y → x ≡ z) → (xs : List (ℕ × (ℕ × ℕ))) (ys : List Y) → AreDistinct xs
    → ((x : ℕ × (ℕ × ℕ)) → Contains xs x → (y : Y) × (R x y × StandsIn ys y)) → length xs ≤ length ys
no_more R one [] ys distinct image = omega arith
no_more {Y} R one (x ∷ xs) ys distinct image =
    let first = image x (0, omega arith, refl) in
    let left = without ys first.0 first.1.1 in
    omega (arith, left.1.0, no_more R one xs left.0 distinct.1 (image_left first.0 first.1.0 left.0 left.1.1))
  where
    image_left : (y : Y) → R x y → (zs : List Y) → ((z : Y) → (y ≡ z → ⊥) → StandsIn ys z → StandsIn zs z) → (z : ℕ × (ℕ × ℕ)) → Contains xs z → (w : Y) × (R z w × StandsIn zs w)
    image_left y is zs others z at =
        let i = image z (contains_later x z xs at) in
        (i.0, (i.1.0, others i.0 (λ same. distinct.0 (subst (Contains xs) (one z x i.0 i.1.0 (subst (R x) same is)) at)) i.1.1))

-- two lists that have nothing in common
pub distinct_both : (xs ys : List (ℕ × (ℕ × ℕ))) → AreDistinct xs → AreDistinct ys → ((x : ℕ × (ℕ × ℕ)) → Contains xs x → ¬ Contains ys x) → AreDistinct (xs ++ ys)
distinct_both [] ys distinct too apart = too
distinct_both (x ∷ xs) ys distinct too apart = (not_twice, distinct_both xs ys distinct.1 too (λ z at. apart z (contains_later x z xs at)))
  where
    not_twice : ¬ Contains (xs ++ ys) x
    not_twice at = by_place (Contains-append_cases xs ys x at)
      where
        by_place : Contains xs x ⊎ Contains ys x → ⊥
        by_place (inl here) = distinct.0 here
        by_place (inr there) = apart x (0, omega arith, refl) there
