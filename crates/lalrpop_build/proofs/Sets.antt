-- Sets of items ascend, and are equal if they have the same members.
use Rattle.std.proofs.Common.{◌≡◌, ℕ, zero, suc, ◌+◌, ◌<◌, ◌≤◌, ◌↔◌, inl, inr, List, [], ◌∷◌, length, refl, ap, sym, subst, arith, true, Some}
use Rattle.std.specs.Cmp.{IsTotalOrder}
use Rattle.std.specs.Ordering.{nat_cmp}
use Rattle.std.specs.List.{Contains, slice_get, list_any, flat_map}
use Rattle.std.specs.declared.cmp.Ordering.TheVariants.{Less, Equal}
use Rattle.std.proofs.lemmas.Bool.{lt-ltb, le-ltb, eq-eqb, cases_lt}
use Rattle.std.proofs.lemmas.Cmp.{nat_cmp_total, on_total, then_total}
use Rattle.std.proofs.lemmas.List.Kept.{IsStrictlySortedBy-filter}
use Rattle.lalrpop_nfa.specs.Graph.{Graph}
use Rattle.lalrpop_dfa.specs.Ascending.{Item, item_cmp, AreAscendingItems}
use Rattle.lalrpop_dfa.proofs.FullSets.{less_place}
use Rattle.lalrpop_build.specs.Internal.Given.{IsItemOf}
use Rattle.lalrpop_build.specs.Internal.Subsets.{items_below, items_from, all_items, follows_by_epsilon, closed, item_targets, move, starts_from, first_set_of}
use Rattle.lalrpop_hir.proofs.Members.{Has, has_from, contains_from, has_left, has_right, has_cases, has_filter, filter_has, any_from_has, has_from_any, has_flat_map, flat_map_has}
use Rattle.lalrpop_hir.proofs.SortedLists.{sorted_nil, sorted_cons, sorted_append, sorted_same, sorted_at_most}

pub item_total : IsTotalOrder item_cmp
item_total = then_total (on_total (λ (x : Item). x.0) nat_cmp_total) (on_total (λ (x : Item). x.1) nat_cmp_total)

pub cmp_less : (a b : ℕ) → a < b → nat_cmp a b ≡ Less
cmp_less a b h = rw (lt-ltb a b h)

cmp_equal : (a b : ℕ) → a ≡ b → nat_cmp a b ≡ Equal
cmp_equal a b h = rw (le-ltb a b (omega arith), eq-eqb a b h)

pub less_state : (x y : Item) → x.0 ≡ y.0 → x.1 < y.1 → item_cmp x y ≡ Less
less_state x y e h = rw (cmp_equal x.0 y.0 e, cmp_less x.1 y.1 h)

pub nothing : (xs : List Item) → ((x : Item) → Has xs x → ⊥) → xs ≡ []
nothing [] f = refl
nothing (x ∷ xs) f = absurd (f x (inl refl))

-- the items of one automaton
below_parts : (i n : ℕ) (x : Item) → Has (items_below i n) x → (x.0 ≡ i) × (x.1 < n)
below_parts i zero x h = absurd h
below_parts i (suc n) x h = elim (has_cases (items_below i n) ((i, n) ∷ []) x h) [
  | inl a ↦ (let r : (x.0 ≡ i) × (x.1 < n) = below_parts i n x a in (r.0, omega (arith, r.1)))
  | inr (inl e) ↦ (ap (λ z. z.0) (sym e), (let k : x.1 ≡ n = ap (λ z. z.1) (sym e) in omega arith))
  | inr (inr e) ↦ absurd e
]

below_has : (i n k : ℕ) → k < n → Has (items_below i n) (i, k)
below_has i zero k l = absurd (omega arith)
below_has i (suc n) k l = elim (cases_lt k n) [
  | inl a ↦ has_left (items_below i n) ((i, n) ∷ []) (i, k) (below_has i n k a)
  | inr a ↦ has_right (items_below i n) ((i, n) ∷ []) (i, k) (inl (let e : n ≡ k = omega arith in ap (λ (j : ℕ). (i, j)) e))
]

below_ascend : (i n : ℕ) → AreAscendingItems (items_below i n)
below_ascend i zero = sorted_nil item_cmp
below_ascend i (suc n) =
    sorted_append item_cmp (items_below i n) ((i, n) ∷ []) (below_ascend i n) (sorted_cons item_cmp (i, n) [] (λ y h. absurd h) (sorted_nil item_cmp)) apart
  where
    apart : (x y : Item) → Has (items_below i n) x → Has ((i, n) ∷ []) y → item_cmp x y ≡ Less
    apart x y h (inl e) = let r : (x.0 ≡ i) × (x.1 < n) = below_parts i n x h in rw (← e) (less_state x (i, n) r.0 r.1)
    apart x y h (inr e) = absurd e

-- the items of the automata from an index on
abbrev IsItemFrom : ℕ → List Graph → Item → Type 0
IsItemFrom i gs x = (j : ℕ) × (g : Graph) × ((x.0 ≡ i + j) × (slice_get gs j ≡ Some g) × (x.1 < length g.kinds))

from_parts : (i : ℕ) (gs : List Graph) (x : Item) → Has (items_from i gs) x → IsItemFrom i gs x
from_parts i [] x h = absurd h
from_parts i (g ∷ gs) x h = elim (has_cases (items_below i (length g.kinds)) (items_from (i + 1) gs) x h) [
  | inl a ↦ (let r : (x.0 ≡ i) × (x.1 < length g.kinds) = below_parts i (length g.kinds) x a in (0, g, (omega (arith, r.0), refl, r.1)))
  | inr b ↦ (let r = from_parts (i + 1) gs x b in (suc r.0, r.1, (omega (arith, r.2.0), r.2.1, r.2.2)))
]

from_has : (gs : List Graph) (i j : ℕ) (g : Graph) (x : Item) → x.0 ≡ i + j → slice_get gs j ≡ Some g → x.1 < length g.kinds → Has (items_from i gs) x
from_has [] i j g x a b l = cc
from_has (f ∷ gs) i zero g x a b l =
    let e : f ≡ g = cc in
    let here : x ≡ (i, x.1) = ap (λ (k : ℕ). (k, x.1)) (let k : x.0 ≡ i = omega arith in k) in
    has_left (items_below i (length f.kinds)) (items_from (i + 1) gs) x
    (subst (λ (z : Item). Has (items_below i (length f.kinds)) z) (sym here) (below_has i (length f.kinds) x.1 (rw e l)))
from_has (f ∷ gs) i (suc j) g x a b l = has_right (items_below i (length f.kinds)) (items_from (i + 1) gs) x (from_has gs (i + 1) j g x (omega arith) b l)

from_ascend : (i : ℕ) (gs : List Graph) → AreAscendingItems (items_from i gs)
from_ascend i [] = sorted_nil item_cmp
from_ascend i (g ∷ gs) =
    sorted_append item_cmp (items_below i (length g.kinds)) (items_from (i + 1) gs) (below_ascend i (length g.kinds)) (from_ascend (i + 1) gs) apart
  where
    apart : (x y : Item) → Has (items_below i (length g.kinds)) x → Has (items_from (i + 1) gs) y → item_cmp x y ≡ Less
    apart x y h k =
        let r : (x.0 ≡ i) × (x.1 < length g.kinds) = below_parts i (length g.kinds) x h in
        let s = from_parts (i + 1) gs y k in
        less_place x y (omega (arith, r.0, s.2.0))

module _ (ns : List Graph) where
  pub all_items_ascend : AreAscendingItems (all_items ns)
  unfolding all_items
  all_items_ascend = from_ascend 0 ns

  pub all_items_parts : (x : Item) → Has (all_items ns) x → IsItemOf ns x
  unfolding all_items
  all_items_parts x h = let r = from_parts 0 ns x h in (r.1, (let e : r.0 ≡ x.0 = omega (arith, r.2.0) in subst (λ (j : ℕ). slice_get ns j ≡ Some r.1) e r.2.1, r.2.2))

  pub all_items_have : (x : Item) → IsItemOf ns x → Has (all_items ns) x
  unfolding all_items
  all_items_have x r = from_has ns 0 x.0 r.0 x (omega arith) r.1.0 r.1.1

  -- the members of a closed set
  pub closed_ascends : (given : List Item) → AreAscendingItems (closed ns given)
  unfolding closed
  closed_ascends given = IsStrictlySortedBy-filter item_cmp (λ x. list_any (λ y. follows_by_epsilon ns y x) given) (all_items ns) all_items_ascend

  pub closed_parts : (given : List Item) (x : Item) → Has (closed ns given) x → IsItemOf ns x × ((y : Item) × (Has given y × (follows_by_epsilon ns y x ≡ true)))
  unfolding closed
  closed_parts given x h =
      let r : Has (all_items ns) x × (list_any (λ y. follows_by_epsilon ns y x) given ≡ true) = filter_has (λ x. list_any (λ y. follows_by_epsilon ns y x) given) (all_items ns) x h in
      (all_items_parts x r.0, has_from_any (λ y. follows_by_epsilon ns y x) given r.1)

  pub closed_has : (given : List Item) (x y : Item) → IsItemOf ns x → Has given y → follows_by_epsilon ns y x ≡ true → Has (closed ns given) x
  unfolding closed
  closed_has given x y h k f =
      has_filter (λ x. list_any (λ y. follows_by_epsilon ns y x) given) (all_items ns) x (all_items_have x h) (any_from_has (λ y. follows_by_epsilon ns y x) given y k f)

  pub contains_closed : (given : List Item) (x : Item) → Contains (closed ns given) x ↔ (IsItemOf ns x × ((y : Item) × (Contains given y × (follows_by_epsilon ns y x ≡ true))))
  contains_closed given x = (
    λ h. (let r : IsItemOf ns x × ((y : Item) × (Has given y × (follows_by_epsilon ns y x ≡ true))) = closed_parts given x (has_from (closed ns given) x h) in (r.0, (r.1.0, (contains_from given r.1.0 r.1.1.0, r.1.1.1)))),
    λ r. contains_from (closed ns given) x (closed_has given x r.1.0 r.0 (has_from given r.1.0 r.1.1.0) r.1.1.1),
  )

  pub first_set_ascends : AreAscendingItems (first_set_of ns)
  unfolding first_set_of
  first_set_ascends = closed_ascends (starts_from 0 ns)

  pub move_ascends : (s : List Item) (c : ℕ) → AreAscendingItems (move ns s c)
  unfolding move
  move_ascends s c = closed_ascends (flat_map (item_targets ns c) s)

  pub first_set_items : (x : Item) → Contains (first_set_of ns) x → IsItemOf ns x
  unfolding first_set_of
  first_set_items x h = ((contains_closed (starts_from 0 ns) x).0 h).0

  pub move_items : (s : List Item) (c : ℕ) (x : Item) → Contains (move ns s c) x → IsItemOf ns x
  unfolding move
  move_items s c x h = ((contains_closed (flat_map (item_targets ns c) s) x).0 h).0

  -- from an item of the set by the value, and then by epsilon edges
  pub move_parts : (s : List Item) (c : ℕ) (x : Item) → Has (move ns s c) x
      → IsItemOf ns x × ((y z : Item) × (Has s y × Has (item_targets ns c y) z × (follows_by_epsilon ns z x ≡ true)))
  unfolding move
  move_parts s c x h =
      let r : IsItemOf ns x × ((z : Item) × (Has (flat_map (item_targets ns c) s) z × (follows_by_epsilon ns z x ≡ true))) = closed_parts (flat_map (item_targets ns c) s) x h in
      let t : (y : Item) × (Has s y × Has (item_targets ns c y) r.1.0) = flat_map_has (item_targets ns c) s r.1.0 r.1.1.0 in
      (r.0, (t.0, r.1.0, (t.1.0, t.1.1, r.1.1.1)))

  pub move_has : (s : List Item) (c : ℕ) (x y z : Item) → IsItemOf ns x → Has s y → Has (item_targets ns c y) z → follows_by_epsilon ns z x ≡ true → Has (move ns s c) x
  unfolding move
  move_has s c x y z i h k f = closed_has (flat_map (item_targets ns c) s) x z i (has_flat_map (item_targets ns c) s y z h k) f

  -- an ascending list of items is no longer than the list of all items
  pub at_most_all_items : (s : List Item) → AreAscendingItems s → ((x : Item) → Contains s x → IsItemOf ns x) → length s ≤ length (all_items ns)
  at_most_all_items s a f = sorted_at_most item_total (all_items ns) s a all_items_ascend (λ x h. all_items_have x (f x (contains_from s x h)))

-- ascending lists with the same items are equal
pub same_items : (s t : List Item) → AreAscendingItems s → AreAscendingItems t → ((x : Item) → Contains s x ↔ Contains t x) → s ≡ t
same_items s t a b f = sorted_same item_total s t a b (λ x h. has_from t x ((f x).0 (contains_from s x h))) (λ x h. has_from s x ((f x).1 (contains_from t x h)))
