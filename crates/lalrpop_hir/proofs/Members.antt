-- Membership in lists, by recursion.
use Rattle.std.proofs.Common.{◌≡◌, ℕ, zero, suc, ◌+◌, ◌<◌, ◌⊎◌, inl, inr, List, [], ◌∷◌, ◌++◌, length, get_or, take, map, refl, ap, sym, ◌∙◌, arith, Bool, true, false, cond, Some}
use Rattle.std.specs.Prelude.{◌↔◌}
use Rattle.std.specs.List.{Contains, list_any, list_all, filter, flat_map, slice_get, AllByRecursion}
use Rattle.std.proofs.lemmas.List.{take_more}
use Rattle.std.proofs.lemmas.List.Elements.{Contains-append_left, Contains-append_right, Contains-append_cases}
use Rattle.lalrpop_hir.proofs.Contained.{contains_only}
use Rattle.std.proofs.lemmas.Bool.{or_cases, or_left, or_right, and_parts, and_from}

-- x is an element
abbrev pub Has : {X : Type 0} → List X → X → Type 0
Has [] x = ⊥
Has (y ∷ ys) x = (y ≡ x) ⊎ Has ys x

module _ {X : Type 0} where
  pub has_from : (xs : List X) (x : X) → Contains xs x → Has xs x
  has_from [] x (k, l, e) = absurd (omega arith)
  has_from (y ∷ ys) x (zero, l, e) = inl e
  has_from (y ∷ ys) x (suc k, l, e) = inr (has_from ys x (k, omega arith, e))

  pub contains_from : (xs : List X) (x : X) → Has xs x → Contains xs x
  contains_from [] x h = absurd h
  contains_from (y ∷ ys) x (inl e) = (0, omega arith, e)
  contains_from (y ∷ ys) x (inr h) = let r : Contains ys x = contains_from ys x h in (suc r.0, omega (arith, r.1), r.2)

  pub has_left : (xs ys : List X) (x : X) → Has xs x → Has (xs ++ ys) x
  has_left [] ys x h = absurd h
  has_left (z ∷ xs) ys x (inl e) = inl e
  has_left (z ∷ xs) ys x (inr h) = inr (has_left xs ys x h)

  pub has_right : (xs ys : List X) (x : X) → Has ys x → Has (xs ++ ys) x
  has_right [] ys x h = h
  has_right (z ∷ xs) ys x h = inr (has_right xs ys x h)

  pub has_cases : (xs ys : List X) (x : X) → Has (xs ++ ys) x → Has xs x ⊎ Has ys x
  has_cases [] ys x h = inr h
  has_cases (z ∷ xs) ys x (inl e) = inl (inl e)
  has_cases (z ∷ xs) ys x (inr h) = elim (has_cases xs ys x h) [ inl a ↦ inl (inr a) | inr b ↦ inr b ]

  pub has_at : (xs : List X) (k : ℕ) (x : X) → slice_get xs k ≡ Some x → Has xs x
  has_at [] k x e = cc
  has_at (y ∷ ys) zero x e = inl cc
  has_at (y ∷ ys) (suc k) x e = inr (has_at ys k x e)

  pub at_has : (xs : List X) (x : X) → Has xs x → (k : ℕ) × (slice_get xs k ≡ Some x)
  at_has [] x h = absurd h
  at_has (y ∷ ys) x (inl e) = (0, ap (λ z. Some z) e)
  at_has (y ∷ ys) x (inr h) = let r : (k : ℕ) × (slice_get ys k ≡ Some x) = at_has ys x h in (suc r.0, r.1)

  pub all_at : (P : X → Type 0) (xs : List X) (x : X) → AllByRecursion P xs → Has xs x → P x
  all_at P [] x a h = absurd h
  all_at P (y ∷ ys) x a (inl e) = rw (← e) a.0
  all_at P (y ∷ ys) x a (inr h) = all_at P ys x a.1 h

  pub all_from : (P : X → Type 0) (xs : List X) → ((x : X) → Has xs x → P x) → AllByRecursion P xs
  all_from P [] f = tt
  all_from P (y ∷ ys) f = (f y (inl refl), all_from P ys (λ x h. f x (inr h)))

module _ {X : Type 0} (p : X → Bool) where
  pub has_filter : (xs : List X) (x : X) → Has xs x → p x ≡ true → Has (filter p xs) x
  has_filter [] x h t = absurd h
  has_filter (y ∷ ys) x (inl e) t = let yes : p y ≡ true = ap p e ∙ t in rw yes (inl e)
  has_filter (y ∷ ys) x (inr h) t = elim (p y) as (λ b. Has (cond b (y ∷ filter p ys) (filter p ys)) x) [ true ↦ inr (has_filter ys x h t) | false ↦ has_filter ys x h t ]

  filter_step : (y : X) (ys : List X) (x : X) → (Has (filter p ys) x → Has ys x × (p x ≡ true)) → (b : Bool) → p y ≡ b → Has (cond b (y ∷ filter p ys) (filter p ys)) x → Has (y ∷ ys) x × (p x ≡ true)
  filter_step y ys x ih true e (inl same) = (inl same, ap p (sym same) ∙ e)
  filter_step y ys x ih true e (inr h) = (inr (ih h).0, (ih h).1)
  filter_step y ys x ih false e h = (inr (ih h).0, (ih h).1)

  pub filter_has : (xs : List X) (x : X) → Has (filter p xs) x → Has xs x × (p x ≡ true)
  filter_has [] x h = absurd h
  filter_has (y ∷ ys) x h = filter_step y ys x (λ k. filter_has ys x k) (p y) refl h

  pub any_from_has : (xs : List X) (x : X) → Has xs x → p x ≡ true → list_any p xs ≡ true
  any_from_has [] x h t = absurd h
  any_from_has (y ∷ ys) x (inl e) t = or_left (p y) (list_any p ys) (ap p e ∙ t)
  any_from_has (y ∷ ys) x (inr h) t = or_right (p y) (list_any p ys) (any_from_has ys x h t)

  pub has_from_any : (xs : List X) → list_any p xs ≡ true → (x : X) × (Has xs x × (p x ≡ true))
  has_from_any [] t = cc
  has_from_any (y ∷ ys) t = elim (or_cases (p y) (list_any p ys) t) [
    | inl here ↦ (y, (inl refl, here))
    | inr there ↦ (let r : (x : X) × (Has ys x × (p x ≡ true)) = has_from_any ys there in (r.0, (inr r.1.0, r.1.1)))
  ]

  pub all_has : (xs : List X) → list_all p xs ≡ true → (x : X) → Has xs x → p x ≡ true
  all_has [] t x h = absurd h
  all_has (y ∷ ys) t x (inl e) = ap p (sym e) ∙ (and_parts (p y) (list_all p ys) t).0
  all_has (y ∷ ys) t x (inr h) = all_has ys (and_parts (p y) (list_all p ys) t).1 x h

  pub all_from_has : (xs : List X) → ((x : X) → Has xs x → p x ≡ true) → list_all p xs ≡ true
  all_from_has [] f = refl
  all_from_has (y ∷ ys) f = and_from (p y) (list_all p ys) (f y (inl refl)) (all_from_has ys (λ x h. f x (inr h)))

module _ {X Y : Type 0} where
  pub has_map : (f : X → Y) (xs : List X) (x : X) → Has xs x → Has (map f xs) (f x)
  has_map f [] x h = absurd h
  has_map f (z ∷ xs) x (inl e) = inl (ap f e)
  has_map f (z ∷ xs) x (inr h) = inr (has_map f xs x h)

  pub map_has : (f : X → Y) (xs : List X) (y : Y) → Has (map f xs) y → (x : X) × (Has xs x × (f x ≡ y))
  map_has f [] y h = absurd h
  map_has f (z ∷ xs) y (inl e) = (z, (inl refl, e))
  map_has f (z ∷ xs) y (inr h) = let r : (x : X) × (Has xs x × (f x ≡ y)) = map_has f xs y h in (r.0, (inr r.1.0, r.1.1))

  pub has_flat_map : (f : X → List Y) (xs : List X) (x : X) (y : Y) → Has xs x → Has (f x) y → Has (flat_map f xs) y
  has_flat_map f [] x y h k = absurd h
  has_flat_map f (z ∷ xs) x y (inl e) k = has_left (f z) (flat_map f xs) y (rw e k)
  has_flat_map f (z ∷ xs) x y (inr h) k = has_right (f z) (flat_map f xs) y (has_flat_map f xs x y h k)

  pub flat_map_has : (f : X → List Y) (xs : List X) (y : Y) → Has (flat_map f xs) y → (x : X) × (Has xs x × Has (f x) y)
  flat_map_has f [] y h = absurd h
  flat_map_has f (z ∷ xs) y h = elim (has_cases (f z) (flat_map f xs) y h) [
    | inl here ↦ (z, (inl refl, here))
    | inr there ↦ (let r : (x : X) × (Has xs x × Has (f x) y) = flat_map_has f xs y there in (r.0, (inr r.1.0, r.1.1)))
  ]

-- the members of the first elements, and of one more
pub taken_more : {X : Type 0} (xs : List X) (k : ℕ) (x y : X) → k < length xs → x ≡ get_or xs k x → (Contains (take k xs) y ⊎ (y ≡ x)) ↔ Contains (take (k + 1) xs) y
taken_more xs k x y l is =
    let more : take (k + 1) xs ≡ take k xs ++ x ∷ [] = take_more xs k x l ∙ ap (λ z. take k xs ++ z ∷ []) (sym is) in (
      λ h. rw more (elim h [ inl a ↦ Contains-append_left (take k xs) (x ∷ []) y a | inr a ↦ Contains-append_right (take k xs) (x ∷ []) y (rw a (0, omega arith, refl)) ]),
      λ h. elim (Contains-append_cases (take k xs) (x ∷ []) y (rw more at h)) [ inl a ↦ inl a | inr a ↦ inr (sym (contains_only x y a)) ],
    )
