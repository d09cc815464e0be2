-- The list of the runs of a set of ranges is unique.
use Rattle.std.proofs.Common.{◌≡◌, ◌<◌, ◌≤◌, ◌⊎◌, inl, inr, List, [], ◌∷◌, refl, sym, ap, ◌∙◌, arith, zero, suc}
use Rattle.std.specs.List.{Contains}
use Rattle.lalrpop_hir.specs.Range.{Range}
use Rattle.lalrpop_nfa.specs.Partition.{Ranges, AreAscending, IsPartition}

-- no element is empty
abbrev HoldOne : List Range → Type 0
HoldOne xs = (x : Range) → Contains xs x → x.start ≤ x.end

first_in : (x : Range) (xs : List Range) → Contains (x ∷ xs) x
first_in x xs = (0, omega arith, refl)

later_in : (x : Range) (xs : List Range) (z : Range) → Contains xs z → Contains (x ∷ xs) z
later_in x xs z (k, l, e) = (suc k, omega arith, e)

first_or_later : (x : Range) (xs : List Range) (z : Range) → Contains (x ∷ xs) z → (z ≡ x) ⊎ Contains xs z
first_or_later x xs z (zero, l, e) = inl (sym e)
first_or_later x xs z (suc k, l, e) = inr (k, omega arith, e)

none_in : (z : Range) → ¬ Contains [] z
none_in z (k, l, e) = omega arith

pub ascends_later : (x : Range) (xs : List Range) → AreAscending (x ∷ xs) → AreAscending xs
ascends_later x [] a = tt
ascends_later x (y ∷ ys) a = a.1

hold_later : (x : Range) (xs : List Range) → HoldOne (x ∷ xs) → HoldOne xs
hold_later x xs n z h = n z (later_in x xs z h)

-- each later element begins after the first
behind : (x : Range) (xs : List Range) → AreAscending (x ∷ xs) → HoldOne xs → (z : Range) → Contains xs z → x.end < z.start
behind x [] a n z h = absurd (none_in z h)
behind x (y ∷ ys) a n z h = by_place (behind y ys a.1 (hold_later y ys n) z) (first_or_later y ys z h)
  where
    by_place : (Contains ys z → y.end < z.start) → (z ≡ y) ⊎ Contains ys z → x.end < z.start
    by_place later (inl e) = let s : z.start ≡ y.start = ap (λ (r : Range). r.start) e in omega (arith, a.0)
    by_place later (inr k) = omega (arith, a.0, n y (first_in y ys), later k)

module _ (x y : Range) (xs ys : List Range) (a : AreAscending (x ∷ xs)) (b : AreAscending (y ∷ ys)) (n : HoldOne (x ∷ xs)) (m : HoldOne (y ∷ ys)) where
  same_first : (x ≡ y) ⊎ Contains ys x → (y ≡ x) ⊎ Contains xs y → x ≡ y
  same_first (inl e) k = e
  same_first (inr h) (inl e) = sym e
  same_first (inr h) (inr k) =
      absurd (omega (arith, n x (first_in x xs), m y (first_in y ys), behind x xs a (hold_later x xs n) y k, behind y ys b (hold_later y ys m) x h))

  same_rest : x ≡ y → (z : Range) → Contains xs z → (z ≡ y) ⊎ Contains ys z → Contains ys z
  same_rest e z h (inr k) = k
  same_rest e z h (inl f) =
      let s : z.end ≡ x.end = ap (λ (r : Range). r.end) (f ∙ sym e) in
      absurd (omega (arith, n z (later_in x xs z h), behind x xs a (hold_later x xs n) z h))

same_lists : (xs ys : List Range) → AreAscending xs → AreAscending ys → HoldOne xs → HoldOne ys → ((z : Range) → Contains xs z → Contains ys z) → ((z : Range) → Contains ys z → Contains xs z) → xs ≡ ys
same_lists [] [] a b n m f g = refl
same_lists [] (y ∷ ys) a b n m f g = absurd (none_in y (g y (first_in y ys)))
same_lists (x ∷ xs) [] a b n m f g = absurd (none_in x (f x (first_in x xs)))
same_lists (x ∷ xs) (y ∷ ys) a b n m f g =
    let e : x ≡ y = same_first x y xs ys a b n m (first_or_later y ys x (f x (first_in x xs))) (first_or_later x xs y (g y (first_in y ys))) in
    let rest : xs ≡ ys =
    same_lists xs ys (ascends_later x xs a) (ascends_later y ys b) (hold_later x xs n) (hold_later y ys m)
    (λ z h. same_rest x y xs ys a b n m e z h (first_or_later y ys z (f z (later_in x xs z h))))
    (λ z h. same_rest y x ys xs b a m n (sym e) z h (first_or_later x xs z (g z (later_in y ys z h)))) in
    ap (λ (z : Range). z ∷ xs) e ∙ ap (λ (zs : List Range). y ∷ zs) rest

pub partition_unique : (R : Ranges) (xs ys : List Range) → IsPartition R xs → IsPartition R ys → xs ≡ ys
partition_unique R xs ys p q =
    same_lists xs ys p.ascending q.ascending (λ z h. (p.are_blocks z h).uniform.holds_one) (λ z h. (q.are_blocks z h).uniform.holds_one)
    (λ z h. q.all_blocks z (p.are_blocks z h)) (λ z h. p.all_blocks z (q.are_blocks z h))
