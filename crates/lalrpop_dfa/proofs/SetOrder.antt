-- The order of sets, from their live items and their live patterns.
use Rattle.std.proofs.Common.{◌≡◌, ◌≢◌, ℕ, ◌+◌, ◌<◌, ◌≤◌, Bool, true, false, not, nat_eq, eqb-true, IsTrue, inl, inr, take, get_or, ◌↔◌, List, [], ◌∷◌, length, refl, ap, ap₂, sym, ◌∙◌, subst, arith}
use mathlib.Core.Bool.{beq}
use Rattle.std.specs.List.{Contains}
use Rattle.std.specs.List.Sorted.{IsStrictlySortedBy}
use Rattle.std.specs.Cmp.Lexicographic.{slice_cmp, pointwise, lists_total}
use Rattle.std.specs.Ordering.{nat_cmp, ordering_then, ordering_reverse}
use Rattle.std.specs.declared.cmp.Ordering.{Ordering}
use Rattle.std.specs.declared.cmp.Ordering.TheVariants.{Less, Equal, Greater}
use Rattle.std.proofs.lemmas.Bool.{cases_order, cases_lt, and_parts}
use Rattle.std.proofs.lemmas.Bool.Decides.{nat_tests}
use Rattle.std.proofs.lemmas.Cmp.{nat_cmp_total, tied_itself}
use Rattle.std.proofs.lemmas.List.{get_or-take, get_or_default}
use Rattle.std.proofs.lemmas.Map.Keys.{sorted_tail, Less-from_sorted}
use Rattle.lalrpop_hir.specs.States.{reject_state}
use Rattle.lalrpop_dfa.specs.Ascending.{Item, item_cmp, AreAscendingItems}
use Rattle.lalrpop_dfa.specs.Internal.OrderLaws.{item_total, rejects_total}
use Rattle.lalrpop_dfa.specs.ItemOrder.{rejects_cmp, hash_of, items_cmp, set_cmp}
use Rattle.lalrpop_dfa.specs.LiveItems.{live_of, rejects_of}
use Rattle.lalrpop_dfa.specs.Split.{full, IsSplit, AreAlikeBelow}
use Rattle.lalrpop_hir.proofs.Members.{Has, has_from, contains_from}
use Rattle.lalrpop_hir.proofs.SortedLists.{sorted_below, sorted_same}
use Rattle.lalrpop_hir.proofs.Orders.{then_equal, nat_exact, lists_exact}
use Rattle.lalrpop_dfa.proofs.ItemTies.{item_exact}
use Rattle.lalrpop_dfa.proofs.FullSets.{split_ascends, split_live, full_parts, full_reject, reject_parts, live_is_of, rejects_have, rejects_held, rejects_rise}

abbrev Above : ℕ → List ℕ → Type 0
Above i xs = (j : ℕ) → Has xs j → i < j

less_from : (x y : ℕ) → nat_cmp x y ≡ Less → x < y
less_from x y h = grind (arith, nat_tests)

above_from : (x : ℕ) (xs : List ℕ) → IsStrictlySortedBy nat_cmp (x ∷ xs) → Above x xs
above_from x xs s j h = less_from x j (sorted_below nat_cmp x xs s j h)

back_less : (a b : ℕ) → a < b → (rest : Ordering) → ordering_then (nat_cmp b a) rest ≡ Greater
back_less a b l rest = let e : nat_cmp b a ≡ Greater = grind (arith, nat_tests) in rw e refl

back_same : (a b : ℕ) → a ≡ b → (rest : Ordering) → ordering_then (nat_cmp b a) rest ≡ rest
back_same a b e rest = let f : nat_cmp b a ≡ Equal = grind (arith, nat_tests) in rw f refl

-- the list that has the first number that isn't in both is the greater
first_greater : (xs ys : List ℕ) (i : ℕ) → IsStrictlySortedBy nat_cmp xs → IsStrictlySortedBy nat_cmp ys → ((j : ℕ) → j < i → Has xs j → Has ys j) → ((j : ℕ) → j < i → Has ys j → Has xs j) → Has xs i → (Has ys i → ⊥)
    → slice_cmp (λ a b. nat_cmp b a) xs ys ≡ Greater
first_greater [] ys i s t f g h none = absurd h
first_greater (x ∷ xs) [] i s t f g h none = refl
first_greater (x ∷ xs) (y ∷ ys) i s t f g h none = elim (cases_order x y) [
  | inr (inl less) ↦ back_less x y less (slice_cmp (λ a b. nat_cmp b a) xs ys)
  | inl same ↦
      back_same x y same (slice_cmp (λ a b. nat_cmp b a) xs ys)
      ∙ first_greater xs ys i (sorted_tail nat_cmp x xs s) (sorted_tail nat_cmp y ys t)
      (λ j l k. past ys j (f j l (inr k)) (λ e. omega (arith, above_from x xs s j k, e, same)))
      (λ j l k. past xs j (g j l (inr k)) (λ e. omega (arith, above_from y ys t j k, e, same)))
      (past xs i h (λ e. none (inl (sym same ∙ e))))
      (λ k. none (inr k))
  | inr (inr more) ↦ absurd (at more h)
]
  where
    past : {z : ℕ} (zs : List ℕ) (j : ℕ) → Has (z ∷ zs) j → (z ≡ j → ⊥) → Has zs j
    past zs j (inl e) apart = absurd (apart e)
    past zs j (inr k) apart = k

    -- y is in both
    below : y < x → Has (x ∷ xs) y → ⊥
    below more (inl e) = omega (arith, e)
    below more (inr k) = omega (arith, above_from x xs s y k)

    at : y < x → Has (x ∷ xs) i → ⊥
    at more (inl e) = below more (g y (omega (arith, e)) (inl refl))
    at more (inr k) = below more (g y (omega (arith, above_from x xs s i k)) (inl refl))

-- whether two sets have the same REJECT item
abbrev pub SameReject : List Item → List Item → ℕ → Type 0
SameReject s t i = Contains s (i, reject_state) ↔ Contains t (i, reject_state)

module _ (s t : List Item) (sorted : AreAscendingItems s) (sorted2 : AreAscendingItems t) where
  to : (i : ℕ) → SameReject s t i → Has (rejects_of s) i → Has (rejects_of t) i
  to i same h = rejects_have t i (has_from t (i, reject_state) (same.0 (contains_from s (i, reject_state) (rejects_held s i h))))

  from : (i : ℕ) → SameReject s t i → Has (rejects_of t) i → Has (rejects_of s) i
  from i same h = rejects_have s i (has_from s (i, reject_state) (same.1 (contains_from t (i, reject_state) (rejects_held t i h))))

  pub rejects_greater : (i : ℕ) → ((j : ℕ) → j < i → SameReject s t j) → Contains s (i, reject_state) → (Contains t (i, reject_state) → ⊥) → rejects_cmp s t ≡ Greater
  rejects_greater i same h none =
      first_greater (rejects_of s) (rejects_of t) i (rejects_rise s sorted) (rejects_rise t sorted2) (λ j l k. to j (same j l) k) (λ j l k. from j (same j l) k)
      (rejects_have s i (has_from s (i, reject_state) h)) (λ k. none (contains_from t (i, reject_state) (rejects_held t i k)))

  pub rejects_same : ((j : ℕ) → SameReject s t j) → rejects_of s ≡ rejects_of t
  rejects_same same = sorted_same nat_cmp_total (rejects_of s) (rejects_of t) (rejects_rise s sorted) (rejects_rise t sorted2) (λ j k. to j (same j) k) (λ j k. from j (same j) k)

pub rejects_less : (s t : List Item) → AreAscendingItems s → AreAscendingItems t → (i : ℕ) → ((j : ℕ) → j < i → SameReject s t j) → Contains t (i, reject_state) → (Contains s (i, reject_state) → ⊥) → rejects_cmp s t ≡ Less
rejects_less s t a b i same h none =
    let back : rejects_cmp t s ≡ Greater = rejects_greater t s b a i (λ j l. ((same j l).1, (same j l).0)) h none in
    rejects_total.antisymm s t ∙ ap ordering_reverse back

pub rejects_equal : (s t : List Item) → AreAscendingItems s → AreAscendingItems t → ((j : ℕ) → SameReject s t j) → rejects_cmp s t ≡ Equal
rejects_equal s t a b same = rw (rejects_same s t a b same) (tied_itself rejects_total t)

back_exact : (xs ys : List ℕ) → slice_cmp (λ a b. nat_cmp b a) xs ys ≡ Equal → xs ≡ ys
back_exact [] [] e = refl
back_exact [] (y ∷ ys) e = cc
back_exact (x ∷ xs) [] e = cc
back_exact (x ∷ xs) (y ∷ ys) e = let h = then_equal _ _ e in let a : y ≡ x = nat_exact y x h.0 in let b : xs ≡ ys = back_exact xs ys h.1 in cc

then_apart : (a b : Ordering) → a ≢ Equal → ordering_then a b ≡ a
then_apart Less b h = refl
then_apart Equal b h = absurd (h refl)
then_apart Greater b h = refl

then_same : (a b : Ordering) → (a ≡ Equal → b ≡ Equal) → a ≡ ordering_then a b
then_same Less b f = refl
then_same Equal b f = sym (f refl)
then_same Greater b f = refl

same_from_bools : (b d : Bool) (A B : Type 0) → IsTrue b ↔ A → IsTrue d ↔ B → b ≡ d → A ↔ B
same_from_bools b d A B f g e = ((λ h. g.0 (sym e ∙ f.1 h)), (λ h. f.0 (e ∙ g.1 h)))

pub numbers_same : (xs ys : List ℕ) → pointwise nat_eq xs ys ≡ true → xs ≡ ys
numbers_same [] [] e = refl
numbers_same [] (y ∷ ys) e = cc
numbers_same (x ∷ xs) [] e = cc
numbers_same (x ∷ xs) (y ∷ ys) e =
    let b = and_parts (nat_eq x y) (pointwise nat_eq xs ys) e in
    ap₂ (λ z zs. z ∷ zs) (eqb-true x y b.0) (numbers_same xs ys b.1)

pub bools_apart : (b d : Bool) → not (beq b d) ≡ true → b ≡ d → ⊥
bools_apart true true h e = cc
bools_apart true false h e = cc
bools_apart false true h e = cc
bools_apart false false h e = cc

pub bools_same : (b d : Bool) → not (beq b d) ≡ false → b ≡ d
bools_same true true h = refl
bools_same true false h = cc
bools_same false true h = cc
bools_same false false h = refl

-- two split sets
module _ (n m : ℕ) (live_patterns live_patterns2 : List ℕ) (live live2 : List Item) (is : IsSplit n live_patterns live) (is2 : IsSplit m live_patterns2 live2) (s t : List Item) (view : full n live_patterns live ≡ s) (view2 : full m live_patterns2 live2 ≡ t) where
  s_ascends : AreAscendingItems s
  s_ascends = subst AreAscendingItems view (split_ascends n live_patterns live is)

  t_ascends : AreAscendingItems t
  t_ascends = subst AreAscendingItems view2 (split_ascends m live_patterns2 live2 is2)

  live_patterns_same : n ≡ m → live_patterns ≡ live_patterns2 → (j : ℕ) → SameReject s t j
  live_patterns_same e f j = (
    λ h. (let r = reject_parts n live_patterns live is j (has_from (full n live_patterns live) (j, reject_state) (rw (← view) at h)) in
        subst (λ u. Contains u (j, reject_state)) view2 (contains_from (full m live_patterns2 live2) (j, reject_state) (full_reject live_patterns2 live2 m j (omega (arith, r.0, e)) (λ k. r.1 (rw (← f) at k))))),
    λ h. (let r = reject_parts m live_patterns2 live2 is2 j (has_from (full m live_patterns2 live2) (j, reject_state) (rw (← view2) at h)) in
        subst (λ u. Contains u (j, reject_state)) view (contains_from (full n live_patterns live) (j, reject_state) (full_reject live_patterns live n j (omega (arith, r.0, e)) (λ k. r.1 (rw f at k))))),
  )

  pub told_equal : n ≡ m → live_patterns ≡ live_patterns2 → Equal ≡ rejects_cmp s t
  told_equal e f = sym (rejects_equal s t s_ascends t_ascends (live_patterns_same e f))

  pub live_patterns_alike : n ≡ m → (i : ℕ) → AreAlikeBelow i live_patterns live_patterns2 → (j : ℕ) → j < i → SameReject s t j
  live_patterns_alike e i alike j l = (
    λ h. (let r = reject_parts n live_patterns live is j (has_from (full n live_patterns live) (j, reject_state) (rw (← view) at h)) in
        subst (λ u. Contains u (j, reject_state)) view2 (contains_from (full m live_patterns2 live2) (j, reject_state) (full_reject live_patterns2 live2 m j (omega (arith, r.0, e)) (λ k. r.1 (has_from live_patterns j ((alike j l).1 (contains_from live_patterns2 j k))))))),
    λ h. (let r = reject_parts m live_patterns2 live2 is2 j (has_from (full m live_patterns2 live2) (j, reject_state) (rw (← view2) at h)) in
        subst (λ u. Contains u (j, reject_state)) view (contains_from (full n live_patterns live) (j, reject_state) (full_reject live_patterns live n j (omega (arith, r.0, e)) (λ k. r.1 (has_from live_patterns2 j ((alike j l).0 (contains_from live_patterns j k))))))),
  )

  pub told_same : (i : ℕ) → n ≤ i → m ≤ i → ((j : ℕ) → j < i → SameReject s t j) → Equal ≡ rejects_cmp s t
  told_same i l k same = sym (rejects_equal s t s_ascends t_ascends all)
    where
      all : (j : ℕ) → SameReject s t j
      all j = elim (cases_lt j i) [
        | inl below ↦ same j below
        | inr above ↦ (
          λ h. absurd (omega (arith, (reject_parts n live_patterns live is j (has_from (full n live_patterns live) (j, reject_state) (rw (← view) at h))).0)),
          λ h. absurd (omega (arith, (reject_parts m live_patterns2 live2 is2 j (has_from (full m live_patterns2 live2) (j, reject_state) (rw (← view2) at h))).0)),
        )
      ]

  pub told_greater : (i : ℕ) (b d : Bool) → ((j : ℕ) → j < i → SameReject s t j) → IsTrue b ↔ Contains s (i, reject_state) → IsTrue d ↔ Contains t (i, reject_state) → b ≡ true → (b ≡ d → ⊥) → Greater ≡ rejects_cmp s t
  told_greater i b d same f g e apart = sym (rejects_greater s t s_ascends t_ascends i same (f.0 e) (λ h. apart (e ∙ sym (g.1 h))))

  pub told_less : (i : ℕ) (b d : Bool) → ((j : ℕ) → j < i → SameReject s t j) → IsTrue b ↔ Contains s (i, reject_state) → IsTrue d ↔ Contains t (i, reject_state) → b ≡ false → (b ≡ d → ⊥) → Less ≡ rejects_cmp s t
  told_less i b d same f g e apart = sym (rejects_less s t s_ascends t_ascends i same (g.0 (yes d (λ h. apart (e ∙ sym h)))) (λ h. let k : b ≡ true = f.1 h in let clash : true ≡ false = sym k ∙ e in cc))
    where
      yes : (d : Bool) → (d ≡ false → ⊥) → d ≡ true
      yes true k = refl
      yes false k = absurd (k refl)

  pub told_more : (i : ℕ) (b d : Bool) → ((j : ℕ) → j < i → SameReject s t j) → IsTrue b ↔ Contains s (i, reject_state) → IsTrue d ↔ Contains t (i, reject_state) → b ≡ d → (j : ℕ) → j < i + 1 → SameReject s t j
  told_more i b d same f g e j l = elim (cases_lt j i) [
    | inl below ↦ same j below
    | inr above ↦ (let at : i ≡ j = omega arith in subst (λ k. SameReject s t k) at (same_from_bools b d (Contains s (i, reject_state)) (Contains t (i, reject_state)) f g e))
  ]

  held_too : live ≡ live2 → rejects_of s ≡ rejects_of t → (x : Item) → Has s x → Has t x
  held_too e f x h = elim (full_parts live_patterns live n x (rw (← view) at h)).1 [
    | inl l ↦ subst (λ u. Has u x) view2 (split_live m live_patterns2 live2 is2 x (rw e at l))
    | inr d ↦
        (let is_reject : x ≡ (x.0, reject_state) = ap (λ q. let z : Item = (x.0, q) in z) d.0 in
        let there : Has (rejects_of s) x.0 = rejects_have s x.0 (subst (λ z. Has s z) is_reject h) in
        subst (λ z. Has t z) (sym is_reject) (rejects_held t x.0 (rw f at there)))
  ]

-- ---- the first difference of two ascending lists
module _ (xs ys : List ℕ) (i : ℕ) (same : take i xs ≡ take i ys) (within : i ≤ length ys) (j : ℕ) where
  in_front : (k : ℕ) → k < length xs → get_or xs k j ≡ j → k < i → Contains ys j
  in_front k m is front =
      let e : get_or xs k j ≡ get_or ys k j = sym (get_or-take i xs k j front) ∙ (ap (λ zs. get_or zs k j) same ∙ get_or-take i ys k j front) in
      (k, omega arith, sym e ∙ is)

  -- a number before the place in the first list
  before : IsStrictlySortedBy nat_cmp xs → i < length xs → j < get_or xs i 0 → Contains xs j → Contains ys j
  before sorted l below (k, m, is) = elim (cases_lt k i) [
    | inl front ↦ in_front k m is front
    | inr behind ↦ absurd (let o : get_or xs i 0 ≤ get_or xs k 0 = at_least k behind m in omega (arith, o, get_or_default xs k j 0 m, is))
  ]
    where
      at_least : (k : ℕ) → i ≤ k → k < length xs → get_or xs i 0 ≤ get_or xs k 0
      at_least k behind m = elim (cases_lt i k) [
        | inl less ↦ (let o : get_or xs i 0 < get_or xs k 0 = less_from (get_or xs i 0) (get_or xs k 0) (Less-from_sorted nat_cmp xs i k 0 sorted less m) in omega arith)
        | inr at ↦ (let e : k ≡ i = omega arith in omega (arith, ap (λ n. get_or xs n 0) e))
      ]

  -- any number, if the first list ends at the place
  whole : length xs ≤ i → Contains xs j → Contains ys j
  whole l (k, m, is) = in_front k m is (omega arith)

module _ (xs ys : List ℕ) (i : ℕ) (sorted : IsStrictlySortedBy nat_cmp xs) (sorted2 : IsStrictlySortedBy nat_cmp ys) (same : take i xs ≡ take i ys) (l : i ≤ length xs) (m : i ≤ length ys) where
  pub alike_at : (n : ℕ) → i < length xs → i < length ys → n ≤ get_or xs i 0 → n ≤ get_or ys i 0 → AreAlikeBelow n xs ys
  alike_at n a b c d j h = (λ k. before xs ys i same m j sorted a (omega arith) k, λ k. before ys xs i (sym same) l j sorted2 b (omega arith) k)

  pub alike_left : (n : ℕ) → i < length xs → length ys ≤ i → n ≤ get_or xs i 0 → AreAlikeBelow n xs ys
  alike_left n a b c j h = (λ k. before xs ys i same m j sorted a (omega arith) k, λ k. whole ys xs i (sym same) l j b k)

  pub alike_right : (n : ℕ) → length xs ≤ i → i < length ys → n ≤ get_or ys i 0 → AreAlikeBelow n xs ys
  alike_right n a b c j h = (λ k. whole xs ys i same m j a k, λ k. before ys xs i (sym same) l j sorted2 b (omega arith) k)

pub alike_of : (xs ys zs us : List ℕ) (n : ℕ) → zs ≡ xs → us ≡ ys → AreAlikeBelow n zs us → AreAlikeBelow n xs ys
alike_of xs ys zs us n e f h = subst (λ a. AreAlikeBelow n a ys) e (subst (AreAlikeBelow n zs) f h)

pub alike_none : (n : ℕ) (xs ys : List ℕ) → n ≡ 0 → AreAlikeBelow n xs ys
alike_none n xs ys e j h = absurd (omega (arith, e))

-- the order of two split sets
module _ (n m : ℕ) (live_patterns live_patterns2 : List ℕ) (live live2 : List Item) (is : IsSplit n live_patterns live) (is2 : IsSplit m live_patterns2 live2) (s t : List Item) (view : full n live_patterns live ≡ s) (view2 : full m live_patterns2 live2 ≡ t) where
  all_same : live ≡ live2 → rejects_of s ≡ rejects_of t → s ≡ t
  all_same e f =
      sorted_same item_total s t (subst AreAscendingItems view (split_ascends n live_patterns live is)) (subst AreAscendingItems view2 (split_ascends m live_patterns2 live2 is2))
      (held_too n m live_patterns live_patterns2 live live2 is is2 s t view view2 e f) (held_too m n live_patterns2 live_patterns live2 live is2 is t s view2 view (sym e) (sym f))

  lives : slice_cmp item_cmp (live_of s) (live_of t) ≡ slice_cmp item_cmp live live2
  lives = ap₂ (λ a b. slice_cmp item_cmp a b) (ap live_of (sym view) ∙ live_is_of n live_patterns live is) (ap live_of (sym view2) ∙ live_is_of m live_patterns2 live2 is2)

  pub cmp_apart : (o : Ordering) → o ≡ slice_cmp item_cmp live live2 → o ≢ Equal → o ≡ items_cmp s t
  cmp_apart o e apart =
      let first : slice_cmp item_cmp (live_of s) (live_of t) ≡ o = lives ∙ sym e in
      sym (ap (λ a. ordering_then (ordering_then a (rejects_cmp s t)) (slice_cmp item_cmp s t)) first
      ∙ (ap (λ a. ordering_then a (slice_cmp item_cmp s t)) (then_apart o (rejects_cmp s t) apart) ∙ then_apart o (slice_cmp item_cmp s t) apart))

  pub cmp_same : (o : Ordering) → slice_cmp item_cmp live live2 ≡ Equal → o ≡ rejects_cmp s t → o ≡ items_cmp s t
  cmp_same o e told =
      let first : slice_cmp item_cmp (live_of s) (live_of t) ≡ Equal = lives ∙ e in
      let last : rejects_cmp s t ≡ Equal → slice_cmp item_cmp s t ≡ Equal =
      λ (h : rejects_cmp s t ≡ Equal). subst (λ u. slice_cmp item_cmp s u ≡ Equal) (all_same (lists_exact item_exact live live2 e) (back_exact (rejects_of s) (rejects_of t) h)) (tied_itself (lists_total item_total) s) in
      told ∙ (then_same (rejects_cmp s t) (slice_cmp item_cmp s t) last ∙ sym (ap (λ a. ordering_then (ordering_then a (rejects_cmp s t)) (slice_cmp item_cmp s t)) first))

  module _ (hash hash2 : ℕ) (hashed : hash ≡ hash_of live) (hashed2 : hash2 ≡ hash_of live2) where
    hashes : nat_cmp (hash_of (live_of s)) (hash_of (live_of t)) ≡ nat_cmp hash hash2
    hashes =
        ap₂ nat_cmp (ap hash_of (ap live_of (sym view) ∙ live_is_of n live_patterns live is) ∙ sym hashed)
        (ap hash_of (ap live_of (sym view2) ∙ live_is_of m live_patterns2 live2 is2) ∙ sym hashed2)

    pub hashes_apart : (o : Ordering) → o ≡ nat_cmp hash hash2 → o ≢ Equal → o ≡ set_cmp s t
    hashes_apart o e apart = sym (ap (λ a. ordering_then a (items_cmp s t)) (hashes ∙ sym e) ∙ then_apart o (items_cmp s t) apart)

    pub hashes_same : (o : Ordering) → nat_cmp hash hash2 ≡ Equal → o ≡ items_cmp s t → o ≡ set_cmp s t
    hashes_same o e told = told ∙ sym (ap (λ a. ordering_then a (items_cmp s t)) (hashes ∙ e))
