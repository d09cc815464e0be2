-- Items pattern by pattern.
use Rattle.std.proofs.Common.{◌≡◌, ◌≢◌, ℕ, zero, suc, ◌+◌, ◌-◌, ◌<◌, ◌≤◌, inl, inr, List, [], ◌∷◌, ◌++◌, length, take, drop, get_or, refl, ap, sym, ◌∙◌, arith}
use Rattle.std.specs.List.{Contains}
use Rattle.std.specs.declared.cmp.Ordering.TheVariants.{Less}
use Rattle.std.proofs.Math.Seq.{take-add}
use Rattle.std.proofs.lemmas.Bool.{cases_lt}
use Rattle.std.proofs.lemmas.Bool.Decides.{nat_tests}
use Rattle.std.proofs.lemmas.Option.{slice_get_within}
use Rattle.lalrpop_nfa.specs.Graph.{Graph}
use Rattle.lalrpop_dfa.specs.Ascending.{Item, item_cmp, AreByPattern}
use Rattle.lalrpop_dfa.proofs.FullSets.{less_place}
use Rattle.lalrpop_build.specs.Internal.Given.{AreItemsOf}
use Rattle.lalrpop_build.specs.Internal.Subsets.{closed, starts_from}
use Rattle.lalrpop_build.specs.Internal.Worklist.{pattern_at}
use Rattle.lalrpop_hir.proofs.Members.{Has, has_from, contains_from, has_left, has_right, has_cases}
use Rattle.lalrpop_hir.proofs.SortedLists.{sorted_append, sorted_same}
use Rattle.lalrpop_build.proofs.Follows.{follows_place}
use Rattle.lalrpop_build.proofs.Sets.{nothing, item_total, closed_ascends, closed_parts, closed_has}

-- ---- lists by pattern
pub by_append : (xs ys : List Item) → AreByPattern xs → AreByPattern ys → ((x y : Item) → Has xs x → Has ys y → x.0 ≤ y.0) → AreByPattern (xs ++ ys)
by_append [] ys s t f = t
by_append (x ∷ xs) ys s t f = (
  λ y h. elim (has_cases xs ys y (has_from (xs ++ ys) y h)) [ inl a ↦ s.0 y (contains_from xs y a) | inr b ↦ f x y (inl refl) b ],
  by_append xs ys s.1 t (λ a b h k. f a b (inr h) k),
)

pub of_one : (i : ℕ) (xs : List Item) → ((x : Item) → Has xs x → x.0 ≡ i) → AreByPattern xs
of_one i [] f = tt
of_one i (x ∷ xs) f = (λ y h. (let a : x.0 ≡ i = f x (inl refl) in let b : y.0 ≡ i = f y (inr (has_from xs y h)) in omega (arith, a, b)), of_one i xs (λ y h. f y (inr h)))

pub less_at_most : (x y : Item) → item_cmp x y ≡ Less → x.0 ≤ y.0
less_at_most x y h = grind (arith, nat_tests)

starts_above : (i : ℕ) (gs : List Graph) (x : Item) → Has (starts_from i gs) x → i ≤ x.0
starts_above i [] x h = absurd h
starts_above i (g ∷ gs) x (inl e) = omega (arith, ap (λ (z : Item). z.0) e)
starts_above i (g ∷ gs) x (inr h) = omega (arith, starts_above (i + 1) gs x h)

pub starts_by_pattern : (i : ℕ) (gs : List Graph) → AreByPattern (starts_from i gs)
starts_by_pattern i [] = tt
starts_by_pattern i (g ∷ gs) = (λ y h. (let l = starts_above (i + 1) gs y (has_from (starts_from (i + 1) gs) y h) in omega (arith, l)), starts_by_pattern (i + 1) gs)

at_has : (xs : List Item) (k : ℕ) (d : Item) → k < length xs → Has xs (get_or xs k d)
at_has [] k d l = absurd (omega arith)
at_has (x ∷ xs) zero d l = inl refl
at_has (x ∷ xs) (suc k) d l = inr (at_has xs k d (omega arith))

by_places : (xs : List Item) (k j : ℕ) → AreByPattern xs → k ≤ j → j < length xs → pattern_at xs k ≤ pattern_at xs j
by_places [] k j s l m = absurd (omega arith)
by_places (x ∷ xs) zero zero s l m = omega arith
by_places (x ∷ xs) zero (suc j) s l m = s.0 (get_or xs j (0, 0)) (contains_from xs (get_or xs j (0, 0)) (at_has xs j (0, 0) (omega arith)))
by_places (x ∷ xs) (suc k) zero s l m = absurd (omega arith)
by_places (x ∷ xs) (suc k) (suc j) s l m = by_places xs k j s.1 (omega arith) (omega arith)

-- ---- closures of two parts
closed_append : (ns : List Graph) (xs ys : List Item) → ((x y : Item) → Has xs x → Has ys y → x.0 < y.0) → closed ns xs ++ closed ns ys ≡ closed ns (xs ++ ys)
closed_append ns xs ys apart =
    sorted_same item_total (closed ns xs ++ closed ns ys) (closed ns (xs ++ ys))
    (sorted_append item_cmp (closed ns xs) (closed ns ys) (closed_ascends ns xs) (closed_ascends ns ys) less) (closed_ascends ns (xs ++ ys)) to from
  where
    place : (zs : List Item) (x : Item) → Has (closed ns zs) x → (z : Item) × (Has zs z × (z.0 ≡ x.0))
    place zs x h = let (item, r) = closed_parts ns zs x h in (r.0, (r.1.0, follows_place ns r.0 x r.1.1))

    less : (x y : Item) → Has (closed ns xs) x → Has (closed ns ys) y → item_cmp x y ≡ Less
    less x y h k = let a = place xs x h in let b = place ys y k in less_place x y (let l : a.0.0 < b.0.0 = apart a.0 b.0 a.1.0 b.1.0 in omega (arith, l, a.1.1, b.1.1))

    to : (x : Item) → Has (closed ns xs ++ closed ns ys) x → Has (closed ns (xs ++ ys)) x
    to x h = elim (has_cases (closed ns xs) (closed ns ys) x h) [
      | inl a ↦ (let (item, r) = closed_parts ns xs x a in closed_has ns (xs ++ ys) x r.0 item (has_left xs ys r.0 r.1.0) r.1.1)
      | inr b ↦ (let (item, r) = closed_parts ns ys x b in closed_has ns (xs ++ ys) x r.0 item (has_right xs ys r.0 r.1.0) r.1.1)
    ]

    from : (x : Item) → Has (closed ns (xs ++ ys)) x → Has (closed ns xs ++ closed ns ys) x
    from x h =
        let (item, r) = closed_parts ns (xs ++ ys) x h in
        elim (has_cases xs ys r.0 r.1.0) [
          | inl a ↦ has_left (closed ns xs) (closed ns ys) x (closed_has ns xs x r.0 item a r.1.1)
          | inr b ↦ has_right (closed ns xs) (closed ns ys) x (closed_has ns ys x r.0 item b r.1.1)
        ]

-- the closure of no items is empty
pub closed_none : (ns : List Graph) → closed ns [] ≡ []
closed_none ns = nothing (closed ns []) (λ x h. (let (item, r) = closed_parts ns [] x h in r.1.0))

pub pattern_within : (ns : List Graph) (items : List Item) (k : ℕ) (x : Item) → AreItemsOf ns items → k < length items → x ≡ get_or items k x → x.0 < length ns
pattern_within ns items k x inside l read = let (g, (at, m)) = inside x (k, l, sym read) in slice_get_within ns x.0 g at

pub take_parts : {X : Type 0} (d : X) (xs : List X) (n : ℕ) (x : X) → Has (take n xs) x → (k : ℕ) × (k < n) × (k < length xs) × (get_or xs k d ≡ x)
take_parts d xs zero x h = absurd h
take_parts d [] (suc n) x h = absurd h
take_parts d (y ∷ xs) (suc n) x (inl e) = (0, omega arith, omega arith, e)
take_parts d (y ∷ xs) (suc n) x (inr h) = let r = take_parts d xs n x h in (suc r.0, omega (arith, r.1), omega (arith, r.2), r.3)

pub drop_parts : {X : Type 0} (d : X) (xs : List X) (n m : ℕ) (x : X) → Has (take m (drop n xs)) x → (j : ℕ) × (n ≤ j) × (j < n + m) × (j < length xs) × (get_or xs j d ≡ x)
drop_parts d xs zero m x h = let r = take_parts d xs m x h in (r.0, omega arith, omega (arith, r.1), r.2, r.3)
drop_parts d [] (suc n) m x h = let r = take_parts d [] m x h in absurd (omega (arith, r.2))
drop_parts d (y ∷ xs) (suc n) m x h = let r = drop_parts d xs n m x h in (suc r.0, omega (arith, r.1), omega (arith, r.2), omega (arith, r.3), r.4)

-- the patterns of the first items come before those of the items after them
pub record AreApart (items : List Item) (from : ℕ) : Type 0 where
  pub apart : (k j : ℕ) → k < from → from ≤ j → j < length items → pattern_at items k < pattern_at items j

pub apart_none : (items : List Item) → AreApart items 0
apart_none items = record { apart = λ k j a b c. absurd (omega arith) }

module _ (items : List Item) (from end : ℕ) (by : AreByPattern items) (l : from < end) (within : end ≤ length items) (apart : AreApart items from)
    (same : (k : ℕ) → from ≤ k → k < end → pattern_at items k ≡ pattern_at items from) where
  pub apart_more : (end < length items → pattern_at items end ≢ pattern_at items from) → AreApart items end
  apart_more next = record {
    apart = λ k j a b c. elim (cases_lt k from) [
      | inl below ↦ apart.apart k j below (omega arith) c
      | inr above ↦
          (let e : pattern_at items k ≡ pattern_at items from = same k above a in
          let up : pattern_at items from ≤ pattern_at items end = by_places items from end by (omega arith) (omega arith) in
          let on : pattern_at items end ≤ pattern_at items j = by_places items end j by b c in
          let differ : pattern_at items end ≢ pattern_at items from = next (omega arith) in
          omega (arith, e, up, on, differ))
    ];
  }

  pub part_pattern : (x : Item) → Contains (take (end - from) (drop from items)) x → x.0 ≡ pattern_at items from
  part_pattern x h =
      let r = drop_parts (0, 0) items from (end - from) x (has_from (take (end - from) (drop from items)) x h) in
      ap (λ (z : Item). z.0) (sym r.4) ∙ same r.0 r.1 (omega (arith, r.2))

  pub closed_more : (ns : List Graph) (found found2 : List Item) → found ≡ closed ns (take from items) → found2 ≡ found ++ closed ns (take (end - from) (drop from items)) → found2 ≡ closed ns (take end items)
  closed_more ns found found2 was is =
      let long : from + (end - from) ≡ end = omega arith in
      let cut : take from items ++ take (end - from) (drop from items) ≡ take end items = sym (take-add from (end - from) items) ∙ ap (λ n. take n items) long in
      is ∙ (ap (λ f. f ++ closed ns (take (end - from) (drop from items))) was
      ∙ (closed_append ns (take from items) (take (end - from) (drop from items)) (λ x y h k. differ x y (take_parts (0, 0) items from x h) (drop_parts (0, 0) items from (end - from) y k)) ∙ ap (closed ns) cut))
    where
      differ : (x y : Item) → (k : ℕ) × (k < from) × (k < length items) × (get_or items k (0, 0) ≡ x) → (j : ℕ) × (from ≤ j) × (j < from + (end - from)) × (j < length items) × (get_or items j (0, 0) ≡ y) → x.0 < y.0
      differ x y a b =
          let l : pattern_at items a.0 < pattern_at items b.0 = apart.apart a.0 b.0 a.1 b.1 b.3 in
          omega (arith, l, ap (λ (z : Item). z.0) a.3, ap (λ (z : Item). z.0) b.4)
