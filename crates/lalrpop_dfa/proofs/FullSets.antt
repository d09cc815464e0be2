-- The members of the full list of a set's items.
use Rattle.std.proofs.Common.{IsTrue, ◌↔◌, ◌≡◌, ◌≢◌, ℕ, zero, suc, ◌<◌, ◌⊎◌, inl, inr, List, [], ◌∷◌, ◌++◌, map, refl, ap, ap₂, sym, ◌∙◌, subst, arith, Bool, true, false, not, cond, ◌==◌, ◌&&◌, eqb-true, eq-eqb}
use Rattle.std.specs.List.{Contains, filter, list_any}
use Rattle.std.specs.List.Sorted.{IsStrictlySortedBy}
use Rattle.std.specs.Ordering.{nat_cmp}
use Rattle.std.specs.declared.cmp.Ordering.TheVariants.{Less}
use Rattle.std.proofs.lemmas.Bool.{cases_Bool, and_parts, and_from}
use Rattle.std.proofs.lemmas.Bool.Decides.{nat_tests}
use Rattle.std.proofs.lemmas.List.Kept.{IsStrictlySortedBy-filter}
use Rattle.std.proofs.lemmas.Map.Keys.{sorted_tail}
use Rattle.lalrpop_hir.specs.States.{accept_state, reject_state}
use Rattle.lalrpop_dfa.specs.Ascending.{Item, item_cmp, AreAscendingItems}
use Rattle.lalrpop_dfa.specs.Internal.OrderLaws.{item_total}
use Rattle.lalrpop_dfa.specs.LiveItems.{is_live, live_of, rejects_of}
use Rattle.lalrpop_dfa.specs.Split.{reject_of, items_of, full, IsSplit}
use Rattle.lalrpop_hir.proofs.Members.{Has, has_from, contains_from, has_left, has_right, has_cases, has_filter, filter_has, any_from_has, has_from_any, has_map, map_has}
use Rattle.lalrpop_hir.proofs.SortedLists.{sorted_nil, sorted_cons, sorted_append, sorted_below, sorted_same}

-- ---- tests
not_true : (b : Bool) → b ≡ false → not b ≡ true
not_true b e = rw e refl

true_not : (b : Bool) → not b ≡ true → b ≡ false
true_not true e = cc
true_not false e = refl

pub is_live_from : (x : Item) → x.1 ≢ reject_state → is_live x ≡ true
is_live_from x h = elim (cases_Bool (x.1 == reject_state)) [
  | inl t ↦ absurd (h (eqb-true x.1 reject_state t))
  | inr f ↦ not_true (x.1 == reject_state) f
]

pub live_is : (x : Item) → is_live x ≡ true → x.1 ≢ reject_state
live_is x h e = let t : (x.1 == reject_state) ≡ true = eq-eqb x.1 reject_state e in let f : (x.1 == reject_state) ≡ false = true_not (x.1 == reject_state) h in let clash : true ≡ false = sym t ∙ f in cc

pub item_is : (x : Item) (i q : ℕ) → x.0 ≡ i → x.1 ≡ q → x ≡ (i, q)
item_is x i q a b = ap₂ (λ (j p : ℕ). let z : Item = (j, p) in z) a b

live_pattern_any : (live_patterns : List ℕ) (i : ℕ) → Has live_patterns i → list_any (λ j. j == i) live_patterns ≡ true
live_pattern_any live_patterns i h = any_from_has (λ j. j == i) live_patterns i h (eq-eqb i i refl)

any_live_pattern : (live_patterns : List ℕ) (i : ℕ) → list_any (λ j. j == i) live_patterns ≡ true → Has live_patterns i
any_live_pattern live_patterns i h =
    let r : (j : ℕ) × (Has live_patterns j × ((j == i) ≡ true)) = has_from_any (λ j. j == i) live_patterns h in
    subst (λ j. Has live_patterns j) (eqb-true r.0 i r.1.1) r.1.0

-- ---- the items of one pattern
one_reject : (i : ℕ) (x : Item) (b : Bool) → Has (cond b [] ((i, reject_state) ∷ [])) x → (b ≡ false) × ((i, reject_state) ≡ x)
one_reject i x true h = absurd h
one_reject i x false (inl e) = (refl, e)
one_reject i x false (inr h) = absurd h

-- the members of a full list: live items, and REJECT items of patterns that aren't live
abbrev pub IsHeld : List ℕ → List Item → Item → Type 0
IsHeld live_patterns live x = Has live x ⊎ ((x.1 ≡ reject_state) × (Has live_patterns x.0 → ⊥))

module _ (live_patterns : List ℕ) (live : List Item) (i : ℕ) where
  abbrev is_accept : Item → Bool
  is_accept x = (x.0 == i) && (x.1 == accept_state)

  abbrev is_other : Item → Bool
  is_other x = (x.0 == i) && not (x.1 == accept_state)

  rejects_parts : (x : Item) → Has (reject_of live_patterns i) x → (x.0 ≡ i) × (x.1 ≡ reject_state) × (Has live_patterns x.0 → ⊥)
  rejects_parts x h =
      let r : (list_any (λ j. j == i) live_patterns ≡ false) × ((i, reject_state) ≡ x) = one_reject i x (list_any (λ j. j == i) live_patterns) h in
      let at : x.0 ≡ i = ap (λ (z : Item). z.0) (sym r.1) in
      (at, ap (λ (z : Item). z.1) (sym r.1), λ s. let t : list_any (λ j. j == i) live_patterns ≡ true = live_pattern_any live_patterns i (subst (λ j. Has live_patterns j) at s) in let clash : true ≡ false = sym t ∙ r.0 in cc)

  accepts_parts : (x : Item) → Has (filter is_accept live) x → (x.0 ≡ i) × (x.1 ≡ accept_state) × Has live x
  accepts_parts x h =
      let r : Has live x × (is_accept x ≡ true) = filter_has is_accept live x h in
      let b = and_parts (x.0 == i) (x.1 == accept_state) r.1 in
      (eqb-true x.0 i b.0, eqb-true x.1 accept_state b.1, r.0)

  others_parts : (x : Item) → Has (filter is_other live) x → (x.0 ≡ i) × (x.1 ≢ accept_state) × Has live x
  others_parts x h =
      let r : Has live x × (is_other x ≡ true) = filter_has is_other live x h in
      let b = and_parts (x.0 == i) (not (x.1 == accept_state)) r.1 in
      let f : (x.1 == accept_state) ≡ false = true_not (x.1 == accept_state) b.1 in
      (eqb-true x.0 i b.0, λ e. (let t : (x.1 == accept_state) ≡ true = eq-eqb x.1 accept_state e in let clash : true ≡ false = sym t ∙ f in cc), r.0)

  pub items_parts : (x : Item) → Has (items_of live_patterns live i) x → (x.0 ≡ i) × IsHeld live_patterns live x
  items_parts x h = elim (has_cases (filter is_accept live) (reject_of live_patterns i ++ filter is_other live) x h) [
    | inl a ↦ (let r = accepts_parts x a in (r.0, inl r.2))
    | inr b ↦ elim (has_cases (reject_of live_patterns i) (filter is_other live) x b) [
      | inl a ↦ (let r = rejects_parts x a in (r.0, inr (r.1, r.2)))
      | inr c ↦ (let r = others_parts x c in (r.0, inl r.2))
    ]
  ]

  pub items_live : (x : Item) → Has live x → x.0 ≡ i → Has (items_of live_patterns live i) x
  items_live x h e = elim (cases_Bool (x.1 == accept_state)) [
    | inl t ↦ has_left (filter is_accept live) (reject_of live_patterns i ++ filter is_other live) x (has_filter is_accept live x h (and_from (x.0 == i) (x.1 == accept_state) (eq-eqb x.0 i e) t))
    | inr f ↦
        has_right (filter is_accept live) (reject_of live_patterns i ++ filter is_other live) x
        (has_right (reject_of live_patterns i) (filter is_other live) x (has_filter is_other live x h (and_from (x.0 == i) (not (x.1 == accept_state)) (eq-eqb x.0 i e) (not_true (x.1 == accept_state) f))))
  ]

  pub items_reject : (Has live_patterns i → ⊥) → Has (items_of live_patterns live i) (i, reject_state)
  items_reject none = has_right (filter is_accept live) (reject_of live_patterns i ++ filter is_other live) (i, reject_state) (has_left (reject_of live_patterns i) (filter is_other live) (i, reject_state) here)
    where
      here : Has (reject_of live_patterns i) (i, reject_state)
      here = elim (cases_Bool (list_any (λ j. j == i) live_patterns)) [
        | inl t ↦ absurd (none (any_live_pattern live_patterns i t))
        | inr f ↦ rw f (inl refl)
      ]

pub less_place : (x y : Item) → x.0 < y.0 → item_cmp x y ≡ Less
less_place x y h = grind (arith, nat_tests)

less_state : (x y : Item) → x.0 ≡ y.0 → x.1 < y.1 → item_cmp x y ≡ Less
less_state x y e h = grind (arith, nat_tests)

one_ascends : (i : ℕ) (b : Bool) → AreAscendingItems (cond b [] ((i, reject_state) ∷ []))
one_ascends i true = sorted_nil item_cmp
one_ascends i false = sorted_cons item_cmp (i, reject_state) [] (λ y h. absurd h) (sorted_nil item_cmp)

above_one : (q : ℕ) → q ≢ 0 → q ≢ 1 → 1 < q
above_one q a b = omega arith

module _ (live_patterns : List ℕ) (live : List Item) (sorted : AreAscendingItems live) (alive : (x : Item) → Has live x → x.1 ≢ reject_state) where
  items_ascend : (i : ℕ) → AreAscendingItems (items_of live_patterns live i)
  items_ascend i =
      sorted_append item_cmp (filter (is_accept live_patterns live i) live) (reject_of live_patterns i ++ filter (is_other live_patterns live i) live)
      (IsStrictlySortedBy-filter item_cmp (is_accept live_patterns live i) live sorted)
      (sorted_append item_cmp (reject_of live_patterns i) (filter (is_other live_patterns live i) live) (one_ascends i (list_any (λ j. j == i) live_patterns)) (IsStrictlySortedBy-filter item_cmp (is_other live_patterns live i) live sorted) behind)
      before
    where
      behind : (x y : Item) → Has (reject_of live_patterns i) x → Has (filter (is_other live_patterns live i) live) y → item_cmp x y ≡ Less
      behind x y h k =
          let a = rejects_parts live_patterns live i x h in
          let b = others_parts live_patterns live i y k in
          let high : 1 < y.1 = above_one y.1 b.1 (alive y b.2) in
          less_state x y (a.0 ∙ sym b.0) (omega (arith, a.1, high))

      before : (x y : Item) → Has (filter (is_accept live_patterns live i) live) x → Has (reject_of live_patterns i ++ filter (is_other live_patterns live i) live) y → item_cmp x y ≡ Less
      before x y h k =
          let a = accepts_parts live_patterns live i x h in
          elim (has_cases (reject_of live_patterns i) (filter (is_other live_patterns live i) live) y k) [
            | inl r ↦ (let b = rejects_parts live_patterns live i y r in less_state x y (a.0 ∙ sym b.0) (omega (arith, a.1, b.1)))
            | inr o ↦ (let b = others_parts live_patterns live i y o in let high : 1 < y.1 = above_one y.1 b.1 (alive y b.2) in less_state x y (a.0 ∙ sym b.0) (omega (arith, a.1, high)))
          ]

-- ---- the items of all patterns
module _ (live_patterns : List ℕ) (live : List Item) where
  pub full_parts : (n : ℕ) (x : Item) → Has (full n live_patterns live) x → (x.0 < n) × IsHeld live_patterns live x
  unfolding full
  full_parts zero x h = absurd h
  full_parts (suc n) x h = elim (has_cases (full n live_patterns live) (items_of live_patterns live n) x h) [
    | inl a ↦ (let r = full_parts n x a in (omega (arith, r.0), r.1))
    | inr b ↦ (let r = items_parts live_patterns live n x b in (omega (arith, r.0), r.1))
  ]

  pub full_live : (n : ℕ) (x : Item) → Has live x → x.0 < n → Has (full n live_patterns live) x
  unfolding full
  full_live zero x h l = absurd (omega arith)
  full_live (suc n) x h l = elim (cases_Bool (x.0 == n)) [
    | inl t ↦ has_right (full n live_patterns live) (items_of live_patterns live n) x (items_live live_patterns live n x h (eqb-true x.0 n t))
    | inr f ↦ has_left (full n live_patterns live) (items_of live_patterns live n) x (full_live n x h (grind (arith, nat_tests)))
  ]

  pub full_reject : (n i : ℕ) → i < n → (Has live_patterns i → ⊥) → Has (full n live_patterns live) (i, reject_state)
  unfolding full
  full_reject zero i l none = absurd (omega arith)
  full_reject (suc n) i l none = elim (cases_Bool (i == n)) [
    | inl t ↦
        (let e : n ≡ i = sym (eqb-true i n t) in
        has_right (full n live_patterns live) (items_of live_patterns live n) (i, reject_state)
        (subst (λ j. Has (items_of live_patterns live n) (j, reject_state)) e (items_reject live_patterns live n (λ h. none (subst (λ j. Has live_patterns j) e h)))))
    | inr f ↦ has_left (full n live_patterns live) (items_of live_patterns live n) (i, reject_state) (full_reject n i (grind (arith, nat_tests)) none)
  ]

  pub full_ascends : (n : ℕ) → AreAscendingItems live → ((x : Item) → Has live x → x.1 ≢ reject_state) → AreAscendingItems (full n live_patterns live)
  unfolding full
  full_ascends zero sorted alive = sorted_nil item_cmp
  full_ascends (suc n) sorted alive =
      sorted_append item_cmp (full n live_patterns live) (items_of live_patterns live n) (full_ascends n sorted alive) (items_ascend live_patterns live sorted alive n)
      (λ x y h k. less_place x y (let a : x.0 < n = (full_parts n x h).0 in let b : y.0 ≡ n = (items_parts live_patterns live n y k).0 in omega arith))

-- ---- what a split set is
pub rejects_have : (s : List Item) (i : ℕ) → Has s (i, reject_state) → Has (rejects_of s) i
rejects_have s i h = has_map (λ (x : Item). x.0) (filter (λ (x : Item). x.1 == reject_state) s) (i, reject_state) (has_filter (λ (x : Item). x.1 == reject_state) s (i, reject_state) h refl)

pub rejects_held : (s : List Item) (i : ℕ) → Has (rejects_of s) i → Has s (i, reject_state)
rejects_held s i h =
    let (x, m) = map_has (λ (x : Item). x.0) (filter (λ (x : Item). x.1 == reject_state) s) i h in
    let f : Has s x × ((x.1 == reject_state) ≡ true) = filter_has (λ (x : Item). x.1 == reject_state) s x m.0 in
    subst (λ z. Has s z) (item_is x i reject_state m.1 (eqb-true x.1 reject_state f.1)) f.0

same_state_less : (x y : Item) → x.1 ≡ y.1 → item_cmp x y ≡ Less → nat_cmp x.0 y.0 ≡ Less
same_state_less x y e h = grind (arith, nat_tests)

places_rise : (s : List Item) → AreAscendingItems s → ((x : Item) → Has s x → x.1 ≡ reject_state) → IsStrictlySortedBy nat_cmp (map (λ (x : Item). x.0) s)
places_rise [] sorted all = sorted_nil nat_cmp
places_rise (x ∷ s) sorted all =
    sorted_cons nat_cmp x.0 (map (λ (y : Item). y.0) s) below (places_rise s (sorted_tail item_cmp x s sorted) (λ y h. all y (inr h)))
  where
    below : (i : ℕ) → Has (map (λ (y : Item). y.0) s) i → nat_cmp x.0 i ≡ Less
    below i h =
        let (y, m) = map_has (λ (y : Item). y.0) s i h in
        subst (λ j. nat_cmp x.0 j ≡ Less) m.1 (same_state_less x y (all x (inl refl) ∙ sym (all y (inr m.0))) (sorted_below item_cmp x s sorted y m.0))

pub rejects_rise : (s : List Item) → AreAscendingItems s → IsStrictlySortedBy nat_cmp (rejects_of s)
rejects_rise s sorted =
    places_rise (filter (λ (x : Item). x.1 == reject_state) s) (IsStrictlySortedBy-filter item_cmp (λ (x : Item). x.1 == reject_state) s sorted)
    (λ x h. eqb-true x.1 reject_state (filter_has (λ (x : Item). x.1 == reject_state) s x h).1)

module _ (n : ℕ) (live_patterns : List ℕ) (live : List Item) (is : IsSplit n live_patterns live) where
  alive : (x : Item) → Has live x → x.1 ≢ reject_state
  alive x h = is.alive x (contains_from live x h)

  pub split_ascends : AreAscendingItems (full n live_patterns live)
  split_ascends = full_ascends live_patterns live n is.ascending alive

  pub split_live : (x : Item) → Has live x → Has (full n live_patterns live) x
  split_live x h = full_live live_patterns live n x h (is.within x (contains_from live x h))

  -- a list is the full one if it has the same items
  pub split_is : (s : List Item) → AreAscendingItems s → ((x : Item) → Has s x → (x.0 < n) × IsHeld live_patterns live x) → ((x : Item) → Has live x → Has s x) → ((i : ℕ) → i < n → (Has live_patterns i → ⊥) → Has s (i, reject_state)) → full n live_patterns live ≡ s
  split_is s sorted parts lives rejects =
      sorted_same item_total (full n live_patterns live) s split_ascends sorted
      (λ x h. let r = full_parts live_patterns live n x h in elim r.1 [
        | inl a ↦ lives x a
        | inr b ↦ subst (λ z. Has s z) (sym (item_is x x.0 reject_state refl b.0)) (rejects x.0 r.0 b.1)
      ])
      (λ x h. let r = parts x h in elim r.1 [
        | inl a ↦ split_live x a
        | inr b ↦ subst (λ z. Has (full n live_patterns live) z) (sym (item_is x x.0 reject_state refl b.0)) (full_reject live_patterns live n x.0 r.0 b.1)
      ])

  -- the live items of the full list
  pub live_is_of : live_of (full n live_patterns live) ≡ live
  live_is_of =
      sorted_same item_total (live_of (full n live_patterns live)) live (IsStrictlySortedBy-filter item_cmp is_live (full n live_patterns live) split_ascends) is.ascending
      (λ x h. let f : Has (full n live_patterns live) x × (is_live x ≡ true) = filter_has is_live (full n live_patterns live) x h in elim (full_parts live_patterns live n x f.0).1 [
        | inl a ↦ a
        | inr b ↦ absurd (live_is x f.1 b.0)
      ])
      (λ x h. has_filter is_live (full n live_patterns live) x (split_live x h) (is_live_from x (alive x h)))

  -- a pattern has a REJECT item unless it is live
  pub reject_parts : (i : ℕ) → Has (full n live_patterns live) (i, reject_state) → (i < n) × (Has live_patterns i → ⊥)
  reject_parts i h = let r = full_parts live_patterns live n (i, reject_state) h in elim r.1 [
    | inl a ↦ absurd (alive (i, reject_state) a refl)
    | inr b ↦ (r.0, b.1)
  ]

  pub live_pattern_found : (i : ℕ) (b : Bool) (s : List Item) → full n live_patterns live ≡ s → i < n → b ≡ list_any (λ j. j == i) live_patterns → IsTrue (not b) ↔ Contains s (i, reject_state)
  live_pattern_found i b s view l told = subst (λ t. IsTrue (not b) ↔ Contains t (i, reject_state)) view (
    λ h. contains_from (full n live_patterns live) (i, reject_state) (full_reject live_patterns live n i l (λ k. (let e : b ≡ true = told ∙ live_pattern_any live_patterns i k in let clash : not true ≡ true = rw e at h in cc))),
    λ h. elim (cases_Bool b) [
      | inl t ↦ absurd ((reject_parts i (has_from (full n live_patterns live) (i, reject_state) h)).1 (any_live_pattern live_patterns i (sym told ∙ t)))
      | inr f ↦ not_true b f
    ],
  )

  pub reject_below : (i : ℕ) (s : List Item) → full n live_patterns live ≡ s → Contains s (i, reject_state) → i < n
  reject_below i s view h = (reject_parts i (has_from (full n live_patterns live) (i, reject_state) (rw (← view) at h))).0
