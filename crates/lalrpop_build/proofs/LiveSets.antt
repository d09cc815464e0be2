-- Sets of items of which only the live items are followed.
use Rattle.std.proofs.Common.{◌≡◌, ℕ, zero, suc, ◌+◌, ◌<◌, ◌⊎◌, inl, inr, ◌↔◌, List, [], ◌∷◌, ◌++◌, length, take, cond, get_or, refl, ap, ap₂, sym, ◌∙◌, subst, arith, Bool, IsTrue, true, false, not, ◌==◌, ◌&&◌, Some, eqb-true, eq-eqb}
use Rattle.std.specs.List.{Contains, filter, list_any, flat_map, slice_get, range_with_len}
use Rattle.std.specs.List.Sorted.{IsStrictlySortedBy}
use Rattle.std.specs.Ordering.{nat_cmp}
use Rattle.std.proofs.lemmas.Bool.{cases_Bool, and_parts, and_from}
use Rattle.std.proofs.lemmas.Bool.Decides.{nat_tests}
use Rattle.std.proofs.lemmas.List.Elements.{filter_more}
use Rattle.std.proofs.lemmas.List.Kept.{IsStrictlySortedBy-filter}
use Rattle.std.proofs.lemmas.Option.{slice_get_within}
use Rattle.lalrpop_hir.specs.Range.{Range}
use Rattle.lalrpop_nfa.specs.Graph.{Graph}
use Rattle.lalrpop_nfa.specs.Path.{test, other}
use Rattle.lalrpop_nfa.specs.Internal.Reads.{Reads}
use Rattle.lalrpop_nfa.specs.Walk.{leaves}
use Rattle.lalrpop_hir.specs.States.{reject_state}
use Rattle.lalrpop_dfa.specs.Ascending.{Item, item_cmp, AreAscendingItems}
use Rattle.lalrpop_build.specs.Internal.Given.{IsItemOf, AreAutomata, AreItemsOf}
use Rattle.lalrpop_dfa.specs.LiveItems.{is_live, live_of}
use Rattle.lalrpop_dfa.specs.Split.{full, still_live, AreWithin, AreLivePatterns, IsSplit}
use Rattle.lalrpop_build.specs.Internal.Subsets.{graph_at, is_epsilon_path, follows_by_epsilon, closed, item_targets, move}
use Rattle.lalrpop_build.specs.Internal.Transitions.{AreTransitions}
use Rattle.lalrpop_build.specs.Internal.Taken.{AreTargetsBy}
use Rattle.lalrpop_build.specs.declared.transitions.Transition.{Transition}
use Rattle.lalrpop_hir.proofs.Members.{Has, has_from, contains_from, has_filter, filter_has, any_from_has, has_from_any, has_flat_map, flat_map_has}
use Rattle.lalrpop_hir.proofs.SortedLists.{sorted_nil, sorted_cons}
use Rattle.lalrpop_build.proofs.Epsilon.{epsilon_self}
use Rattle.lalrpop_build.proofs.Targets.{compiled_at, item_targets_have}
use Rattle.lalrpop_build.proofs.Sets.{cmp_less, closed_ascends, closed_parts, closed_has, move_ascends, move_has}
use Rattle.lalrpop_build.proofs.TakenEdges.{taken_targets, closed_alike}
use Rattle.lalrpop_build.proofs.Moved.{reject_path, IsMoved, moved}
use Rattle.lalrpop_dfa.proofs.FullSets.{IsHeld, live_is, item_is, split_live, split_is, full_parts, full_reject}

-- ---- tests
abbrev is_reject_of : ℕ → Item → Bool
is_reject_of i x = (x.0 == i) && (x.1 == reject_state)

reject_any : (items : List Item) (i : ℕ) → Has items (i, reject_state) → list_any (is_reject_of i) items ≡ true
reject_any items i h = any_from_has (is_reject_of i) items (i, reject_state) h (and_from (i == i) true (eq-eqb i i refl) refl)

any_reject : (items : List Item) (i : ℕ) → list_any (is_reject_of i) items ≡ true → Has items (i, reject_state)
any_reject items i h =
    let (x, r) = has_from_any (is_reject_of i) items h in
    let b = and_parts (x.0 == i) (x.1 == reject_state) r.1 in
    subst (λ z. Has items z) (item_is x i reject_state (eqb-true x.0 i b.0) (eqb-true x.1 reject_state b.1)) r.0

pub same_bool : (a b : Bool) → (a ≡ true → b ≡ true) → (b ≡ true → a ≡ true) → a ≡ b
same_bool true b f g = sym (f refl)
same_bool false true f g = g refl
same_bool false false f g = refl

-- whether items have a REJECT item
pub reject_told : (items : List Item) (i : ℕ) (b : Bool) → IsTrue b ↔ Contains items (i, reject_state) → b ≡ list_any (is_reject_of i) items
reject_told items i b told = same_bool b (list_any (is_reject_of i) items) (λ t. reject_any items i (has_from items (i, reject_state) (told.0 t))) (λ t. told.1 (contains_from items (i, reject_state) (any_reject items i t)))

still_not : (items : List Item) (i : ℕ) → not (list_any (is_reject_of i) items) ≡ true → Has items (i, reject_state) → ⊥
still_not items i h k = let t : list_any (is_reject_of i) items ≡ true = reject_any items i k in let clash : not true ≡ true = rw t at h in cc

-- ---- splitting items
module _ (n : ℕ) (items : List Item) (live_patterns : List ℕ) where
  -- a pattern that stays live was live, and has no REJECT item
  pub still_parts : (i : ℕ) → Has (still_live items live_patterns) i → Has live_patterns i × (Has items (i, reject_state) → ⊥)
  still_parts i h =
      let f = filter_has (λ (j : ℕ). not (list_any (is_reject_of j) items)) live_patterns i h in
      (f.0, still_not items i f.1)

  -- a live pattern that doesn't stay live has one
  still_told : (i : ℕ) → Has live_patterns i → (Has (still_live items live_patterns) i → ⊥) → Has items (i, reject_state)
  still_told i h none = elim (cases_Bool (list_any (is_reject_of i) items)) [
    | inl t ↦ any_reject items i t
    | inr f ↦ absurd (none (has_filter (λ (j : ℕ). not (list_any (is_reject_of j) items)) live_patterns i h (rw f refl)))
  ]

  pub split_of : AreAscendingItems items → AreWithin n items → AreLivePatterns n live_patterns → IsSplit n (still_live items live_patterns) (live_of items)
  split_of sorted within s = record {
    ascending = IsStrictlySortedBy-filter item_cmp is_live items sorted;
    alive = λ x h. live_is x (filter_has is_live items x (has_from (live_of items) x h)).1;
    within = λ x h. within x (contains_from items x (filter_has is_live items x (has_from (live_of items) x h)).0);
    rising = record {
      rising = IsStrictlySortedBy-filter nat_cmp (λ (j : ℕ). not (list_any (is_reject_of j) items)) live_patterns s.rising;
      within = λ i h. s.within i (contains_from live_patterns i (still_parts i (has_from (still_live items live_patterns) i h)).0);
    };
  }

  -- the split set has the items that the list has
  held_of : (x : Item) → Has items x → IsHeld (still_live items live_patterns) (live_of items) x
  held_of x h = elim (cases_Bool (x.1 == reject_state)) [
    | inl t ↦
        (let e : x.1 ≡ reject_state = eqb-true x.1 reject_state t in
        inr (e, λ s. (still_parts x.0 s).1 (subst (λ z. Has items z) (item_is x x.0 reject_state refl e) h)))
    | inr f ↦ inl (has_filter is_live items x h (rw f refl))
  ]

-- ---- all patterns
range_parts : (a n i : ℕ) → Has (range_with_len a n) i → (i < a + n) × (a < suc i)
range_parts a zero i h = absurd h
range_parts a (suc n) i (inl e) = (omega (arith, e), omega (arith, e))
range_parts a (suc n) i (inr h) = let r = range_parts (a + 1) n i h in (omega (arith, r.0), omega (arith, r.1))

range_has : (n a i : ℕ) → a < suc i → i < a + n → Has (range_with_len a n) i
range_has zero a i l m = absurd (omega arith)
range_has (suc n) a i l m = elim (cases_Bool (a == i)) [
  | inl t ↦ inl (eqb-true a i t)
  | inr f ↦ inr (range_has n (a + 1) i (grind (arith, nat_tests)) (omega arith))
]

range_rises : (n a : ℕ) → IsStrictlySortedBy nat_cmp (range_with_len a n)
range_rises zero a = sorted_nil nat_cmp
range_rises (suc n) a = sorted_cons nat_cmp a (range_with_len (a + 1) n) (λ i h. cmp_less a i (let r = (range_parts (a + 1) n i h).1 in omega (arith, r))) (range_rises n (a + 1))

pub all_live_patterns : (n : ℕ) → AreLivePatterns n (range_with_len 0 n)
all_live_patterns n = record {
  rising = range_rises n 0;
  within = λ i h. (let r = (range_parts 0 n i (has_from (range_with_len 0 n) i h)).0 in omega (arith, r));
}

-- the items of a set whose patterns were all live
pub split_all : (n : ℕ) (items : List Item) → AreAscendingItems items → AreWithin n items → full n (still_live items (range_with_len 0 n)) (live_of items) ≡ items
split_all n items sorted within =
    split_is n (still_live items (range_with_len 0 n)) (live_of items) (split_of n items (range_with_len 0 n) sorted within (all_live_patterns n)) items sorted
    (λ x h. (within x (contains_from items x h), held_of n items (range_with_len 0 n) x h))
    (λ x h. (filter_has is_live items x h).0)
    (λ i l none. still_told n items (range_with_len 0 n) i (range_has n 0 i (omega arith) (omega arith)) none)

module _ (ns : List Graph) (given items : List Item) (keys : items ≡ closed ns given) where
  pub closed_within : AreWithin (length ns) items
  closed_within x h = (let item : IsItemOf ns x = (closed_parts ns given x (rw keys at (has_from items x h))).0 in slice_get_within ns x.0 item.0 item.1.0)

  pub split_closed : full (length ns) (still_live items (range_with_len 0 (length ns))) (live_of items) ≡ closed ns given
  split_closed = split_all (length ns) items (rw keys (closed_ascends ns given)) closed_within ∙ keys

-- one more pattern
pub still_more : (items : List Item) (live_patterns : List ℕ) (k i : ℕ) (b : Bool) (still still2 : List ℕ) → still ≡ still_live items (take k live_patterns) → k < length live_patterns → i ≡ get_or live_patterns k 0 → b ≡ list_any (is_reject_of i) items
    → still2 ≡ still ++ cond b [] (i ∷ []) → still2 ≡ still_live items (take (k + 1) live_patterns)
still_more items live_patterns k i b still still2 was l read told next =
    let more = filter_more (λ (j : ℕ). not (list_any (is_reject_of j) items)) live_patterns k 0 l in
    next ∙ (ap₂ (λ xs ys. xs ++ ys) was (flip ∙ ap (λ j. cond (not (list_any (is_reject_of j) items)) (j ∷ []) []) read) ∙ sym more)
  where
    by : (d : Bool) → cond d [] (i ∷ []) ≡ cond (not d) (i ∷ []) []
    by true = refl
    by false = refl

    flip : cond b [] (i ∷ []) ≡ cond (not (list_any (is_reject_of i) items)) (i ∷ []) []
    flip = by b ∙ ap (λ d. cond (not d) (i ∷ []) []) told

-- ---- REJECT is never left
module _ (ns : List Graph) (a : AreAutomata ns) where
  reject_leads : (i c q : ℕ) (g : Graph) → slice_get ns i ≡ Some g → Reads g.edges reject_state c q → q ≡ reject_state
  reject_leads i c q g at (inl r) = absurd (((compiled_at a.0 ns a.1 i g at).1.1.tests_in (test reject_state r.0 q) r.1.0).2 refl)
  reject_leads i c q g at (inr r) = ((compiled_at a.0 ns a.1 i g at).1.1.others_in (other reject_state q) r.0).1

  reject_reads : (i c : ℕ) (g : Graph) → slice_get ns i ≡ Some g → Reads g.edges reject_state c reject_state
  reject_reads i c g at =
      let fixed : filter (leaves reject_state) g.edges.others ≡ other reject_state reject_state ∷ [] = ap (λ e. e.others) (a.2 i g at).reject in
      let there : Has (filter (leaves reject_state) g.edges.others) (other reject_state reject_state) = rw fixed (inl refl) in
      let edge : Has g.edges.others (other reject_state reject_state) = (filter_has (leaves reject_state) g.edges.others (other reject_state reject_state) there).0 in
      inr (contains_from g.edges.others (other reject_state reject_state) edge, λ r q h k. ((compiled_at a.0 ns a.1 i g at).1.1.tests_in (test reject_state r q) h).2 refl)

  follows_self : (x : Item) → follows_by_epsilon ns x x ≡ true
  unfolding follows_by_epsilon
  follows_self x = and_from (x.0 == x.0) (is_epsilon_path (graph_at ns x.0) x.1 x.1) (eq-eqb x.0 x.0 refl) (epsilon_self (graph_at ns x.0) x.1)

  -- ---- a split set
  module _ (n : ℕ) (live_patterns : List ℕ) (live : List Item) (is : IsSplit n live_patterns live) where
    pub live_inside : AreItemsOf ns (full n live_patterns live) → AreItemsOf ns live
    live_inside inside x h = inside x (contains_from (full n live_patterns live) x (split_live n live_patterns live is x (has_from live x h)))

    -- no test edge leaves REJECT
    tested_live : (x : Item) (g : Graph) (r : Range) (q : ℕ) → slice_get ns x.0 ≡ Some g → Contains g.edges.tests (test x.1 r q) → Contains (full n live_patterns live) x → Contains live x
    tested_live x g r q at h k = elim (full_parts live_patterns live n x (has_from (full n live_patterns live) x k)).1 [
      | inl l ↦ contains_from live x l
      | inr d ↦ absurd (((compiled_at a.0 ns a.1 x.0 g at).1.1.tests_in (test x.1 r q) h).2 d.0)
    ]

    -- the test edges that are taken leave live items
    pub edges_leave_live : (v : ℕ) (edges : List Transition) → AreTransitions ns (full n live_patterns live) v edges → (l : Transition) → Contains edges l → Contains live l.item
    edges_leave_live v edges have l h = (let (g, r, (m, at, e, c)) = (have l).0 h in tested_live l.item g r l.to at e m)

    -- by those edges, the live items lead to what the value leads to
    pub targets_alike : (v : ℕ) (edges : List Transition) (items given : List Item) → AreItemsOf ns (full n live_patterns live) → AreTransitions ns (full n live_patterns live) v edges → items ≡ live → AreTargetsBy ns items edges given
        → (z : Item) → Contains given z ↔ Contains (flat_map (item_targets ns v) live) z
    targets_alike v edges items given inside have same led =
        taken_targets ns (full n live_patterns live) live v edges have (live_inside inside) (λ x h. contains_from (full n live_patterns live) x (split_live n live_patterns live is x h)) given (subst (λ (xs : List Item). AreTargetsBy ns xs edges given) same led)

    -- and then by reading nothing
    pub closed_from_live : (v : ℕ) (edges : List Transition) (items given given2 found : List Item) → AreItemsOf ns (full n live_patterns live) → AreTransitions ns (full n live_patterns live) v edges → items ≡ live → AreTargetsBy ns items edges given
        → given2 ≡ given → found ≡ closed ns given2 → found ≡ closed ns (flat_map (item_targets ns v) live)
    closed_from_live v edges items given given2 found inside have same led again is =
        is ∙ (ap (closed ns) again ∙ closed_alike ns given (flat_map (item_targets ns v) live) (targets_alike v edges items given inside have same led))

    -- the set to which it leads by a value
    module _ (c : ℕ) (inside : AreItemsOf ns (full n live_patterns live)) (items : List Item) (keys : items ≡ closed ns (flat_map (item_targets ns c) live)) where
      sorted : AreAscendingItems items
      sorted = rw keys (closed_ascends ns (flat_map (item_targets ns c) live))

      pub moved_from_live : (x : Item) → Has items x → Has (move ns (full n live_patterns live) c) x
      moved_from_live x h =
          let (item, (z, (given, led))) = closed_parts ns (flat_map (item_targets ns c) live) x (rw keys at h) in
          let (y, (there, leads)) = flat_map_has (item_targets ns c) live z given in
          move_has ns (full n live_patterns live) c x y z item (split_live n live_patterns live is y there) leads led

      moved_place : (x : Item) → Has (move ns (full n live_patterns live) c) x → x.0 < n
      moved_place x h = (full_parts live_patterns live n (x.0, (moved ns (full n live_patterns live) c x h).first) (moved ns (full n live_patterns live) c x h).member).0

      pub moved_within : AreWithin n items
      moved_within x h = moved_place x (moved_from_live x (has_from items x h))

      moved_held : (x : Item) → IsMoved ns (full n live_patterns live) c x → IsHeld (still_live items live_patterns) (live_of items) x
      moved_held x m = elim (full_parts live_patterns live n (x.0, m.first) m.member).1 [
        | inl l ↦
            held_of n items live_patterns x
            (rw keys (closed_has ns (flat_map (item_targets ns c) live) x (x.0, m.second) m.item
            (has_flat_map (item_targets ns c) live (x.0, m.first) (x.0, m.second) l (item_targets_have ns c (x.0, m.first) m.second m.graph m.at m.edge)) m.follows))
        | inr d ↦
            (let landed : m.second ≡ reject_state = reject_leads x.0 c m.second m.graph m.at (subst (λ p. Reads m.graph.edges p c m.second) d.0 m.edge) in
            let k = compiled_at a.0 ns a.1 x.0 m.graph m.at in
            inr (reject_path k.0 m.graph k.1.1 x.1 m.second [] m.end refl landed, λ h. d.1 (still_parts n items live_patterns x.0 h).0))
      ]

      failed_stay : (i : ℕ) → i < n → (Has live_patterns i → ⊥) → Has (move ns (full n live_patterns live) c) (i, reject_state)
      failed_stay i l none =
          let here : Has (full n live_patterns live) (i, reject_state) = full_reject live_patterns live n i l none in
          let item : IsItemOf ns (i, reject_state) = inside (i, reject_state) (contains_from (full n live_patterns live) (i, reject_state) here) in
          move_has ns (full n live_patterns live) c (i, reject_state) (i, reject_state) (i, reject_state) item here
          (item_targets_have ns c (i, reject_state) reject_state item.0 item.1.0 (reject_reads i c item.0 item.1.0)) (follows_self (i, reject_state))

      any_live_pattern : (i : ℕ) → (Has live_patterns i) ⊎ (Has live_patterns i → ⊥)
      any_live_pattern i = elim (cases_Bool (list_any (λ j. j == i) live_patterns)) [
        | inl t ↦ (let r : (j : ℕ) × (Has live_patterns j × ((j == i) ≡ true)) = has_from_any (λ j. j == i) live_patterns t in inl (subst (λ j. Has live_patterns j) (eqb-true r.0 i r.1.1) r.1.0))
        | inr f ↦ inr (λ h. let t : list_any (λ j. j == i) live_patterns ≡ true = any_from_has (λ j. j == i) live_patterns i h (eq-eqb i i refl) in let clash : true ≡ false = sym t ∙ f in cc)
      ]

      pub moved_is : full n (still_live items live_patterns) (live_of items) ≡ move ns (full n live_patterns live) c
      moved_is =
          split_is n (still_live items live_patterns) (live_of items) (split_of n items live_patterns sorted moved_within is.rising) (move ns (full n live_patterns live) c) (move_ascends ns (full n live_patterns live) c)
          (λ x h. (moved_place x h, moved_held x (moved ns (full n live_patterns live) c x h)))
          (λ x h. moved_from_live x (filter_has is_live items x h).0)
          (λ i l none. elim (any_live_pattern i) [
            | inl s ↦ moved_from_live (i, reject_state) (still_told n items live_patterns i s none)
            | inr f ↦ failed_stay i l f
          ])
