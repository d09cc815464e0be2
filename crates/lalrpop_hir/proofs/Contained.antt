-- The elements of a list, from the front on.
use Rattle.std.proofs.Common.{◌≡◌, ℕ, ◌<◌, zero, suc, ◌⊎◌, ⊎_elim, inl, inr, Bool, true, false, cond, List, [], ◌∷◌, map, length, get_or, refl, ap, ◌∙◌, subst, arith}
use Rattle.std.specs.List.{Contains, filter}
use Rattle.std.proofs.lemmas.List.{get_or_default}
use Rattle.std.proofs.lemmas.List.Elements.{All-contains, All-contains_itself, All-filter, filter_passes}

pub contains_none : {X : Type 0} (x : X) → Contains [] x → ⊥
contains_none x h = omega (arith, h.1)

pub contains_cases : {X : Type 0} (y : X) (ys : List X) (x : X) → Contains (y ∷ ys) x → (y ≡ x) ⊎ Contains ys x
contains_cases y ys x (zero, h, e) = inl e
contains_cases y ys x (suc k, h, e) = inr (k, omega (arith, h), e)

pub contains_first : {X : Type 0} (x : X) (ys : List X) → Contains (x ∷ ys) x
contains_first x ys = (0, omega arith, refl)

pub contains_later : {X : Type 0} (y : X) (ys : List X) (x : X) → Contains ys x → Contains (y ∷ ys) x
contains_later y ys x h = (suc h.0, omega (arith, h.1), h.2)

pub contains_only : {X : Type 0} (y x : X) → Contains (y ∷ []) x → y ≡ x
contains_only y x h = elim (contains_cases y [] x h) [ inl e ↦ e | inr n ↦ absurd (contains_none x n) ]

pub contains_map : {X Y : Type 0} (f : X → Y) (xs : List X) (x : X) → Contains xs x → Contains (map f xs) (f x)
contains_map f [] x h = absurd (contains_none x h)
contains_map f (y ∷ ys) x h = elim (contains_cases y ys x h) [
  | inl e ↦ (0, omega arith, ap f e)
  | inr k ↦ contains_later (f y) (map f ys) (f x) (contains_map f ys x k)
]

pub contains_from_map : {X Y : Type 0} (f : X → Y) (xs : List X) (y : Y) → Contains (map f xs) y → (x : X) × (Contains xs x × (f x ≡ y))
contains_from_map f [] y h = absurd (contains_none y h)
contains_from_map f (x ∷ xs) y h = elim (contains_cases (f x) (map f xs) y h) [
  | inl e ↦ (x, (contains_first x xs, e))
  | inr k ↦ (let r = contains_from_map f xs y k in (r.0, (contains_later x xs r.0 r.1.0, r.1.1)))
]

-- the elements of a list that pass the test
pub filter_in : {X : Type 0} (p : X → Bool) (xs : List X) (x : X) → Contains xs x → p x ≡ true → Contains (filter p xs) x
filter_in p [] x h t = absurd (contains_none x h)
filter_in {X} p (y ∷ xs) x h t =
    ⊎_elim (λ (a : y ≡ x). first (p y) (ap p a ∙ t) a)
    (λ (a : Contains xs x). later (p y) (filter_in p xs x a t))
    (contains_cases y xs x h)
  where
    first : (b : Bool) → b ≡ true → y ≡ x → Contains (cond b (y ∷ filter p xs) (filter p xs)) x
    first true e a = subst (Contains (y ∷ filter p xs)) a (contains_first y (filter p xs))
    first false e a = absurd cc

    later : (b : Bool) → Contains (filter p xs) x → Contains (cond b (y ∷ filter p xs) (filter p xs)) x
    later true k = contains_later y (filter p xs) x k
    later false k = k

pub filter_out : {X : Type 0} (p : X → Bool) (xs : List X) (x : X) → Contains (filter p xs) x → Contains xs x × (p x ≡ true)
filter_out p xs x h = (
  All-contains (Contains xs) (filter p xs) x (All-filter p (Contains xs) xs (All-contains_itself xs)) h,
  All-contains (λ y. p y ≡ true) (filter p xs) x (filter_passes p xs) h,
)

pub contains_at : (xs : List ℕ) (q : ℕ) → Contains xs q → (k : ℕ) × ((k < length xs) × (get_or xs k 0 ≡ q))
contains_at xs q h = (h.0, (h.1, get_or_default xs h.0 0 q h.1 ∙ h.2))
