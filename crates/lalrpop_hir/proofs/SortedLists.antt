-- Lists that ascend strictly by a total order.
use Rattle.std.proofs.Common.{◌≡◌, ◌≤◌, inl, inr, List, [], ◌∷◌, ◌++◌, length, refl, sym, ◌∙◌, arith}
use Rattle.std.specs.Cmp.{IsTotalOrder}
use Rattle.std.specs.List.Sorted.{IsStrictlySortedBy}
use Rattle.std.specs.declared.cmp.Ordering.{Ordering}
use Rattle.std.specs.declared.cmp.Ordering.TheVariants.{Less, Equal}
use Rattle.std.proofs.lemmas.Cmp.{tied_itself}
use Rattle.std.proofs.lemmas.Map.Keys.{sorted_head, sorted_tail}
use Rattle.lalrpop_hir.proofs.Members.{Has, has_cases, all_at, all_from}

pub sorted_nil : {K : Type 0} (R : K → K → Ordering) → IsStrictlySortedBy R []
unfolding IsStrictlySortedBy
sorted_nil R = tt

pub sorted_cons : {K : Type 0} (R : K → K → Ordering) (x : K) (xs : List K) → ((y : K) → Has xs y → R x y ≡ Less) → IsStrictlySortedBy R xs → IsStrictlySortedBy R (x ∷ xs)
unfolding IsStrictlySortedBy
sorted_cons R x xs below s = (all_from (λ y. R x y ≡ Less) xs below, s)

pub sorted_below : {K : Type 0} (R : K → K → Ordering) (x : K) (xs : List K) → IsStrictlySortedBy R (x ∷ xs) → (y : K) → Has xs y → R x y ≡ Less
sorted_below R x xs s y h = all_at (λ z. R x z ≡ Less) xs y (sorted_head R x xs s) h

pub sorted_append : {K : Type 0} (R : K → K → Ordering) (xs ys : List K) → IsStrictlySortedBy R xs → IsStrictlySortedBy R ys
    → ((x y : K) → Has xs x → Has ys y → R x y ≡ Less) → IsStrictlySortedBy R (xs ++ ys)
sorted_append R [] ys s t apart = t
sorted_append {K} R (x ∷ xs) ys s t apart =
    sorted_cons R x (xs ++ ys) below (sorted_append R xs ys (sorted_tail R x xs s) t (λ a b h k. apart a b (inr h) k))
  where
    below : (y : K) → Has (xs ++ ys) y → R x y ≡ Less
    below y h = elim (has_cases xs ys y h) [ inl a ↦ sorted_below R x xs s y a | inr b ↦ apart x y (inl refl) b ]

module _ {K : Type 0} {R : K → K → Ordering} (total : IsTotalOrder R) where
  pub never_less : (x y : K) → R x y ≡ Less → x ≡ y → ⊥
  never_less x y less e = let same : R x x ≡ Less = rw (← e) at less in let tied : R x x ≡ Equal = tied_itself total x in cc

  apart_ways : (x y : K) → R x y ≡ Less → R y x ≡ Less → ⊥
  apart_ways x y a b = never_less x x (total.trans x y x a b) refl

  -- the heads of two such lists with the same members are equal
  heads_same : (x y : K) (xs ys : List K) → IsStrictlySortedBy R (x ∷ xs) → IsStrictlySortedBy R (y ∷ ys) → Has (y ∷ ys) x → Has (x ∷ xs) y → x ≡ y
  heads_same x y xs ys s t (inl e) k = sym e
  heads_same x y xs ys s t (inr h) (inl e) = e
  heads_same x y xs ys s t (inr h) (inr k) = absurd (apart_ways x y (sorted_below R x xs s y k) (sorted_below R y ys t x h))

  tail_has : (x y z : K) (xs ys : List K) → IsStrictlySortedBy R (x ∷ xs) → y ≡ x → Has xs z → Has (y ∷ ys) z → Has ys z
  tail_has x y z xs ys s e h (inl same) = absurd (never_less x z (sorted_below R x xs s z h) (sym e ∙ same))
  tail_has x y z xs ys s e h (inr k) = k

  -- two such lists with the same members are equal
  pub sorted_same : (xs ys : List K) → IsStrictlySortedBy R xs → IsStrictlySortedBy R ys → ((x : K) → Has xs x → Has ys x) → ((x : K) → Has ys x → Has xs x) → xs ≡ ys
  sorted_same [] [] s t f g = refl
  sorted_same [] (y ∷ ys) s t f g = absurd (g y (inl refl))
  sorted_same (x ∷ xs) [] s t f g = absurd (f x (inl refl))
  sorted_same (x ∷ xs) (y ∷ ys) s t f g =
      let e : x ≡ y = heads_same x y xs ys s t (f x (inl refl)) (g y (inl refl)) in
      let rest : xs ≡ ys = sorted_same xs ys (sorted_tail R x xs s) (sorted_tail R y ys t)
      (λ z h. tail_has x y z xs ys s (sym e) h (f z (inr h)))
      (λ z h. tail_has y x z ys xs t e h (g z (inr h))) in
      cc

  -- such a list is at most as long as one that has its members
  pub sorted_at_most : (ys xs : List K) → IsStrictlySortedBy R xs → IsStrictlySortedBy R ys → ((x : K) → Has xs x → Has ys x) → length xs ≤ length ys
  sorted_at_most ys [] s t f = omega arith
  sorted_at_most [] (x ∷ xs) s t f = absurd (f x (inl refl))
  sorted_at_most (y ∷ ys) (x ∷ xs) s t f = elim (f x (inl refl)) [
    | inl e ↦ (let k : length xs ≤ length ys = sorted_at_most ys xs (sorted_tail R x xs s) (sorted_tail R y ys t) (λ z h. tail_has x y z xs ys s e h (f z (inr h))) in omega arith)
    | inr later ↦ (let k : length (x ∷ xs) ≤ length ys = sorted_at_most ys (x ∷ xs) s (sorted_tail R y ys t) (λ z h. past later z h (f z h)) in omega arith)
  ]
    where
      past : Has ys x → (z : K) → Has (x ∷ xs) z → Has (y ∷ ys) z → Has ys z
      past later z h (inr k) = k
      past later z (inl e) (inl same) = rw (← e) later
      past later z (inr h) (inl same) = absurd (apart_ways y x (sorted_below R y ys t x later) (rw same (sorted_below R x xs s z h)))
