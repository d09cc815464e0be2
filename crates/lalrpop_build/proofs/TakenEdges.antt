-- The targets of items, given the test edges that are taken.
use Rattle.std.proofs.Common.{◌≡◌, ℕ, zero, suc, ◌+◌, ◌-◌, ◌<◌, ◌≤◌, inl, inr, ◌↔◌, List, [], ◌∷◌, ◌++◌, length, map, take, drop, get_or, refl, ap, sym, ◌∙◌, subst, arith, true, false, cond, ◌==◌}
use Rattle.std.specs.Prelude.{slice_get, Some}
use Rattle.std.specs.Cmp.{IsTotalOrder, IsStrictWeakOrder}
use Rattle.std.specs.List.{Contains, flat_map, dedup, dedup_from}
use Rattle.std.specs.List.Sorted.{IsSorted}
use Rattle.std.specs.Ordering.{is_lt}
use Rattle.std.specs.declared.cmp.Ordering.TheVariants.{Less}
use Rattle.std.proofs.lemmas.Bool.{cases_lt, and_parts, eqb-true}
use Rattle.std.proofs.lemmas.Cmp.{then_total, on_total, nat_cmp_total}
use Rattle.std.proofs.lemmas.List.Elements.{Contains-append_left, Contains-append_right, Contains-append_cases}
use Rattle.std.proofs.lemmas.List.Kept.{Contains-dedup, Contains-from_dedup}
use Rattle.std.proofs.lemmas.List.MinMax.{ranks_by}
use Rattle.std.proofs.lemmas.List.Sorted.{sorted_far}
use Rattle.std.proofs.lemmas.Map.Keys.{Less-from_sorted}
use Rattle.std.proofs.lemmas.Option.{slice_get_within, slice_get_read, get_or_from_slice_get, slice_get-get_or}
use Rattle.lalrpop_hir.specs.Range.{Range, Covers}
use Rattle.lalrpop_nfa.specs.Graph.{Graph}
use Rattle.lalrpop_nfa.specs.Path.{test}
use Rattle.lalrpop_dfa.specs.Ascending.{Item, item_cmp, AreAscendingItems, AreByPattern}
use Rattle.lalrpop_build.specs.Internal.Given.{AreItemsOf}
use Rattle.lalrpop_dfa.specs.ItemOrder.{item_eq}
use Rattle.lalrpop_dfa.specs.Internal.OrderLaws.{item_equiv, item_total}
use Rattle.lalrpop_build.specs.Internal.Subsets.{graph_at, default_targets, or_instead, item_targets, closed}
use Rattle.lalrpop_build.specs.Internal.Transitions.{transition_cmp, AreTransitions}
use Rattle.lalrpop_build.specs.Internal.Taken.{IsRunOf, targets_of_run, IsTargetBy, AreTargetsBy}
use Rattle.lalrpop_build.specs.declared.transitions.Transition.{Transition}
use Rattle.lalrpop_hir.proofs.Contained.{contains_none}
use Rattle.lalrpop_build.proofs.ByPattern.{by_append, of_one, less_at_most, take_parts, drop_parts}
use Rattle.lalrpop_dfa.proofs.FullSets.{item_is}
use Rattle.lalrpop_hir.proofs.Members.{taken_more, Has, has_from, contains_from, has_map, map_has, has_flat_map, flat_map_has, at_has, has_at}
use Rattle.lalrpop_build.proofs.Sets.{closed_ascends, closed_parts, closed_has}
use Rattle.lalrpop_hir.proofs.SortedLists.{never_less, sorted_same}
use Rattle.lalrpop_build.proofs.Targets.{instead_cases, instead_first, graph_is, item_targets_parts, item_targets_have, default_has, default_parts}

-- ---- a part of a list
abbrev edge : Item → ℕ → Transition
edge x q = record { item = x; to = q }

head_has : (ls : List Transition) (n k : ℕ) (l : Transition) → slice_get ls k ≡ Some l → k < n → Has (take n ls) l
head_has [] n k l e m = cc
head_has (y ∷ ls) zero k l e m = absurd (omega arith)
head_has (y ∷ ls) (suc n) zero l e m = inl cc
head_has (y ∷ ls) (suc n) (suc k) l e m = inr (head_has ls n k l e (omega arith))

part_has : (ls : List Transition) (a n k : ℕ) (l : Transition) → slice_get ls k ≡ Some l → a ≤ k → k < a + n → Has (take n (drop a ls)) l
part_has ls zero n k l e b m = head_has ls n k l e (omega arith)
part_has [] (suc a) n k l e b m = cc
part_has (y ∷ ls) (suc a) n zero l e b m = absurd (omega arith)
part_has (y ∷ ls) (suc a) n (suc k) l e b m = part_has ls a n k l e (omega arith) (omega arith)

read_at : (ls : List Transition) (k : ℕ) (l : Transition) → k < length ls → get_or ls k l ≡ l → slice_get ls k ≡ Some l
read_at ls k l m e = slice_get_read ls (length ls) k l refl m (sym e)

-- ---- edges in order
transition_total : IsTotalOrder transition_cmp
transition_total = then_total (on_total (λ (l : Transition). l.item) item_total) (on_total (λ (l : Transition). l.to) nat_cmp_total)

in_order : IsStrictWeakOrder (λ (x y : Transition). is_lt (transition_cmp x y))
in_order = ranks_by transition_total (λ (l : Transition). l)

-- an edge of an earlier item comes earlier
never_behind : (ls : List Transition) (j k : ℕ) (l m : Transition) → IsSorted transition_cmp ls → j ≤ k → slice_get ls j ≡ Some m → slice_get ls k ≡ Some l → item_cmp l.item m.item ≡ Less → ⊥
never_behind ls j k l m sorted le at_j at_k less =
    let not_less : is_lt (transition_cmp (get_or ls k l) (get_or ls j l)) ≡ false = sorted_far (λ (x y : Transition). is_lt (transition_cmp x y)) in_order ls sorted j k l le (slice_get_within ls k l at_k) in
    let here : is_lt (transition_cmp l m) ≡ false =
    subst (λ (y : Transition). is_lt (transition_cmp l y) ≡ false) (get_or_from_slice_get ls j m l at_j) (subst (λ (x : Transition). is_lt (transition_cmp x (get_or ls j l)) ≡ false) (get_or_from_slice_get ls k l l at_k) not_less) in
    let clash : is_lt (transition_cmp l m) ≡ true = rw less refl in
    let no : true ≡ false = sym clash ∙ here in
    cc

-- ---- items in order
rising : (items : List Item) (j k : ℕ) (x y : Item) → AreAscendingItems items → slice_get items j ≡ Some x → slice_get items k ≡ Some y → j < k → item_cmp x y ≡ Less
rising items j k x y sorted at_j at_k l =
    subst (λ z. item_cmp z y ≡ Less) (get_or_from_slice_get items j x x at_j)
    (subst (λ z. item_cmp (get_or items j x) z ≡ Less) (get_or_from_slice_get items k y x at_k) (Less-from_sorted item_cmp items j k x sorted l (slice_get_within items k y at_k)))

-- ---- one item
-- the targets by a run that has all edges of the item
run_targets : (ns : List Graph) (leads run : List Transition) (x z : Item) → ((q : ℕ) → Contains leads (edge x q) → Has run (edge x q)) → ((l : Transition) → Has run l → (l.item ≡ x) × Contains leads l) → Contains (targets_of_run ns x run) z ↔ IsTargetBy ns leads x z
unfolding targets_of_run
run_targets ns leads run x z all each = (
  λ h.
      let (q, (there, same)) = map_has (λ (q : ℕ). let y : Item = (x.0, q) in y) (or_instead tos (default_targets (graph_at ns x.0) x.1)) z (has_from (map (λ (q : ℕ). let y : Item = (x.0, q) in y) (or_instead tos (default_targets (graph_at ns x.0) x.1))) z h) in
      let state : q ≡ z.1 = ap (λ (y : Item). y.1) same in (
        ap (λ (y : Item). y.0) (sym same),
        elim (instead_cases tos (default_targets (graph_at ns x.0) x.1) q there) [
          | inl t ↦ inl (subst (λ r. Contains leads (edge x r)) state (from_run q t))
          | inr d ↦ inr ((λ r e. none r d.0 e), contains_from (default_targets (graph_at ns x.0) x.1) z.1 (subst (λ r. Has (default_targets (graph_at ns x.0) x.1) r) state d.1))
        ],
      ),
  λ (place, way).
      let there : Has (or_instead tos (default_targets (graph_at ns x.0) x.1)) z.1 = elim way [
        | inl e ↦ instead_first tos (default_targets (graph_at ns x.0) x.1) z.1 (has_map (λ (l : Transition). l.to) run (edge x z.1) (all z.1 e))
        | inr d ↦ (let empty : tos ≡ [] = bare run (λ l h. (let r = each l h in d.0 l.to (subst (λ (y : Item). Contains leads (edge y l.to)) r.0 r.1))) in
            subst (λ (ts : List ℕ). Has (or_instead ts (default_targets (graph_at ns x.0) x.1)) z.1) (sym empty) (has_from (default_targets (graph_at ns x.0) x.1) z.1 d.1))
      ] in
      let here : Has (map (λ (q : ℕ). let y : Item = (x.0, q) in y) (or_instead tos (default_targets (graph_at ns x.0) x.1))) (x.0, z.1) =
      has_map (λ (q : ℕ). let y : Item = (x.0, q) in y) (or_instead tos (default_targets (graph_at ns x.0) x.1)) z.1 there in
      contains_from (map (λ (q : ℕ). let y : Item = (x.0, q) in y) (or_instead tos (default_targets (graph_at ns x.0) x.1))) z (subst (λ y. Has (map (λ (q : ℕ). let y : Item = (x.0, q) in y) (or_instead tos (default_targets (graph_at ns x.0) x.1))) y) (sym (item_is z x.0 z.1 place refl)) here),
)
  where
    tos : List ℕ
    tos = map (λ (l : Transition). l.to) run

    from_run : (q : ℕ) → Has tos q → Contains leads (edge x q)
    from_run q h =
        let (l, (there, same)) = map_has (λ (l : Transition). l.to) run q h in
        let r = each l there in
        subst (λ (p : ℕ). Contains leads (edge x p)) same (subst (λ (y : Item). Contains leads (edge y l.to)) r.0 r.1)

    none : (q : ℕ) → tos ≡ [] → Contains leads (edge x q) → ⊥
    none q empty h = (let there : Has tos q = has_map (λ (l : Transition). l.to) run (edge x q) (all q h) in rw empty at there)

    bare : (ls : List Transition) → ((l : Transition) → Has ls l → ⊥) → map (λ (l : Transition). l.to) ls ≡ []
    bare [] f = refl
    bare (l ∷ ls) f = absurd (f l (inl refl))

-- ---- item by item
-- the targets of the first i items, by the edges before a place
pub record IsWalked (ns : List Graph) (items : List Item) (leads : List Transition) (i from : ℕ) (targets : List Item) : Type 0 where
  pub within : from ≤ length leads
  pub before : (k : ℕ) (l : Transition) → k < from → slice_get leads k ≡ Some l → (j : ℕ) × (j < i) × (slice_get items j ≡ Some l.item)
  pub behind : (k : ℕ) (l : Transition) → from ≤ k → slice_get leads k ≡ Some l → (j : ℕ) × (i ≤ j) × (slice_get items j ≡ Some l.item)
  pub targets_are : AreTargetsBy ns (take i items) leads targets
  pub by_pattern : AreByPattern targets

pub walked_none : (ns : List Graph) (items : List Item) (leads : List Transition) (targets : List Item) → ((l : Transition) → Contains leads l → Contains items l.item) → targets ≡ [] → IsWalked ns items leads 0 0 targets
walked_none ns items leads targets leave none = rw none (record {
  within = omega arith;
  before = λ k l m e. absurd (omega (arith, m));
  behind = λ k l m e. (let (j, within, read) = leave l (contains_from leads l (has_at leads k l e)) in (j, omega arith, slice_get-get_or items j l.item within ∙ ap (λ y. Some y) read));
  targets_are = λ z. ((λ h. absurd (contains_none z h)), (λ (x, (h, w)). absurd (contains_none x h)));
  by_pattern = tt;
})

module _ (ns : List Graph) (items : List Item) (leads : List Transition) (i from end : ℕ) (x : Item) (targets targets2 : List Item) (sorted : AreAscendingItems items) (ordered : IsSorted transition_cmp leads)
    (l : i < length items) (read : x ≡ get_or items i x) (walked : IsWalked ns items leads i from targets) (run : IsRunOf leads x from end)
    (more : targets2 ≡ targets ++ targets_of_run ns x (take (end - from) (drop from leads))) where
  here : slice_get items i ≡ Some x
  here = slice_get_read items (length items) i x refl l read

  not_before : (k : ℕ) (e : Transition) → k < from → slice_get leads k ≡ Some e → e.item ≡ x → ⊥
  not_before k e m at same = (let (j, less, there) = walked.before k e m at in never_less item_total e.item x (rising items j i e.item x sorted there here less) same)

  not_behind : (k : ℕ) (e : Transition) → end ≤ k → slice_get leads k ≡ Some e → e.item ≡ x → ⊥
  not_behind k e m at same =
      let f : Transition = get_or leads end e in
      let first : slice_get leads end ≡ Some f = slice_get-get_or leads end e (omega (arith, m, slice_get_within leads k e at)) in
      let (j, le, there) = walked.behind end f run.behind first in
      elim (cases_lt i j) [
        | inl less ↦ never_behind leads end k e f ordered m first at (subst (λ y. item_cmp y f.item ≡ Less) (sym same) (rising items i j x f.item sorted here there less))
        | inr none ↦ run.next f first (let place : j ≡ i = omega arith in let two : Some f.item ≡ Some x = sym there ∙ (ap (slice_get items) place ∙ here) in cc)
      ]

  all_in : (q : ℕ) → Contains leads (edge x q) → Has (take (end - from) (drop from leads)) (edge x q)
  all_in q h =
      let (k, at) = at_has leads (edge x q) (has_from leads (edge x q) h) in
      elim (cases_lt k from) [
        | inl low ↦ absurd (not_before k (edge x q) low at refl)
        | inr high ↦ elim (cases_lt k end) [
          | inl in_it ↦ part_has leads from (end - from) k (edge x q) at high (omega arith)
          | inr past ↦ absurd (not_behind k (edge x q) past at refl)
        ]
      ]

  each_of : (e : Transition) → Has (take (end - from) (drop from leads)) e → (e.item ≡ x) × Contains leads e
  each_of e h =
      let r = drop_parts e leads from (end - from) e h in
      (run.same r.0 e r.1 (omega (arith, r.2, run.behind)) (read_at leads r.0 e r.3 r.4), (r.0, r.3, r.4))

  abbrev theirs : List Item
  theirs = targets_of_run ns x (take (end - from) (drop from leads))

  its_targets : (z : Item) → Contains theirs z ↔ IsTargetBy ns leads x z
  its_targets z = run_targets ns leads (take (end - from) (drop from leads)) x z all_in each_of

  targets_more : AreTargetsBy ns (take (i + 1) items) leads targets2
  targets_more z = (
    λ h. elim (Contains-append_cases targets theirs z (rw more at h)) [
      | inl old ↦ (let (y, (member, way)) = (walked.targets_are z).0 old in (y, ((taken_more items i x y l read).0 (inl member), way)))
      | inr new ↦ (x, ((taken_more items i x x l read).0 (inr refl), (its_targets z).0 new))
    ],
    λ (y, (member, way)). rw more (elim ((taken_more items i x y l read).1 member) [
      | inl old ↦ Contains-append_left targets theirs z ((walked.targets_are z).1 (y, (old, way)))
      | inr same ↦ Contains-append_right targets theirs z ((its_targets z).1 (subst (λ w. IsTargetBy ns leads w z) same way))
    ]),
  )

  earlier : (a : Item) → Has targets a → a.0 ≤ x.0
  earlier a h =
      let (y, (member, way)) = (walked.targets_are a).0 (contains_from targets a h) in
      let r = take_parts y items i y (has_from (take i items) y member) in
      let less : item_cmp y x ≡ Less = rising items r.0 i y x sorted (slice_get_read items (length items) r.0 y refl r.2 (sym r.3)) here r.1 in
      let low : y.0 ≤ x.0 = less_at_most y x less in
      omega (arith, way.0, low)

  pub walked_more : IsWalked ns items leads (i + 1) end targets2
  walked_more = record {
    within = run.within;
    before = λ k e m at. elim (cases_lt k from) [
      | inl low ↦ (let (j, less, there) = walked.before k e low at in (j, omega arith, there))
      | inr high ↦ (i, omega arith, here ∙ ap (λ y. Some y) (sym (run.same k e high m at)))
    ];
    behind = λ k e m at. (let (j, le, there) = walked.behind k e (omega (arith, m, run.behind)) at in (
      j,
      elim (cases_lt i j) [
        | inl less ↦ omega arith
        | inr none ↦ absurd (not_behind k e m at (let place : j ≡ i = omega arith in let two : Some e.item ≡ Some x = sym there ∙ (ap (slice_get items) place ∙ here) in cc))
      ],
      there,
    ));
    targets_are = targets_more;
    by_pattern = rw more (by_append targets theirs walked.by_pattern (of_one x.0 theirs place_of) (λ a b h m. (let low = earlier a h in let same = place_of b m in omega (arith, low, same))));
  }
    where
      place_of : (b : Item) → Has theirs b → b.0 ≡ x.0
      place_of b h = ((its_targets b).0 (contains_from theirs b h)).0

-- ---- without repetitions
pub item_same : (x y : Item) → item_eq x y ≡ true → x ≡ y
item_same x y h = let b = and_parts (x.0 == y.0) (x.1 == y.1) h in item_is x y.0 y.1 (eqb-true x.0 y.0 b.0) (eqb-true x.1 y.1 b.1)

pub once_targets : (ns : List Graph) (s : List Item) (leads : List Transition) (targets once : List Item) → once ≡ dedup item_eq targets → AreTargetsBy ns s leads targets → AreTargetsBy ns s leads once
once_targets ns s leads targets once is are z = (
  λ h. (are z).0 (Contains-from_dedup item_eq targets z (rw is at h)),
  λ h. rw is (Contains-dedup item_equiv item_same targets z ((are z).1 h)),
)

once_from : (k : Item) (xs : List Item) → AreByPattern (k ∷ xs) → AreByPattern (dedup_from item_eq k xs)
once_from k [] h = h
once_from k (x ∷ xs) h =
    elim (item_eq x k) as (λ b. AreByPattern (cond b (dedup_from item_eq k xs) (k ∷ dedup_from item_eq x xs))) [
      | true ↦ once_from k xs ((λ y m. h.0 y (contains_from (x ∷ xs) y (inr (has_from xs y m)))), h.1.1)
      | false ↦ ((λ y m. h.0 y (Contains-from_dedup item_eq (x ∷ xs) y m)), once_from x xs h.1)
    ]

pub once_by_pattern : (targets once : List Item) → once ≡ dedup item_eq targets → AreByPattern targets → AreByPattern once
once_by_pattern [] once is by = rw is by
once_by_pattern (x ∷ xs) once is by = rw is (once_from x xs by)

-- ---- by the edges that a value takes
module _ (ns : List Graph) (s live : List Item) (v : ℕ) (leads : List Transition) (are : AreTransitions ns s v leads) (inside : AreItemsOf ns live) (within : (x : Item) → Has live x → Contains s x) where
  taken_by : (x z : Item) → Has live x → IsTargetBy ns leads x z ↔ Has (item_targets ns v x) z
  taken_by x z member =
      let (g, (at, small)) = inside x (contains_from live x member) in (
        λ (place, way).
            let there : Has (item_targets ns v x) (x.0, z.1) = item_targets_have ns v x z.1 g at (elim way [
              | inl e ↦ inl (test_of x z.1 g at e)
              | inr d ↦ inr (default_parts g x.1 v z.1 (subst (λ (h : Graph). Has (default_targets h x.1) z.1) (graph_is ns x.0 g at) (has_from (default_targets (graph_at ns x.0) x.1) z.1 d.1)), λ r q e c. d.0 q (edge_of x q g r member at e c))
            ]) in
            subst (λ y. Has (item_targets ns v x) y) (sym (item_is z x.0 z.1 place refl)) there,
        λ h.
            let (place, reads) = item_targets_parts ns v x z g at h in (
              place,
              elim reads [
                | inl t ↦ inl (edge_of x z.1 g t.0 member at t.1.0 t.1.1)
                | inr o ↦ inr ((λ q e. (let (r, (edge, c)) = test_of x q g at e in o.1 r q edge c)), contains_from (default_targets (graph_at ns x.0) x.1) z.1 (subst (λ (h : Graph). Has (default_targets h x.1) z.1) (sym (graph_is ns x.0 g at)) (default_has g x.1 v z.1 o.0)))
              ],
            ),
      )
    where
      test_of : (x : Item) (q : ℕ) (g : Graph) → slice_get ns x.0 ≡ Some g → Contains leads (edge x q) → (r : Range) × (Contains g.edges.tests (test x.1 r q) × Covers r v)
      test_of x q g at e =
          let (h, r, (m, there, t, c)) = (are (edge x q)).0 e in
          let same : h ≡ g = (let two : Some h ≡ Some g = sym there ∙ at in cc) in
          (r, (subst (λ (f : Graph). Contains f.edges.tests (test x.1 r q)) same t, c))

      edge_of : (x : Item) (q : ℕ) (g : Graph) (r : Range) → Has live x → slice_get ns x.0 ≡ Some g → Contains g.edges.tests (test x.1 r q) → Covers r v → Contains leads (edge x q)
      edge_of x q g r member at t c = (are (edge x q)).1 (g, r, (within x member, at, t, c))

  -- they lead where the value leads
  pub taken_targets : (targets : List Item) → AreTargetsBy ns live leads targets → (z : Item) → Contains targets z ↔ Contains (flat_map (item_targets ns v) live) z
  taken_targets targets led z = (
    λ h. (let (x, (member, way)) = (led z).0 h in
        contains_from (flat_map (item_targets ns v) live) z (has_flat_map (item_targets ns v) live x z (has_from live x member) ((taken_by x z (has_from live x member)).0 way))),
    λ h. (let (x, (member, way)) = flat_map_has (item_targets ns v) live z (has_from (flat_map (item_targets ns v) live) z h) in
        (led z).1 (x, (contains_from live x member, (taken_by x z member).1 way))),
  )

-- lists with the same items lead to the same by reading nothing
pub closed_alike : (ns : List Graph) (xs ys : List Item) → ((z : Item) → Contains xs z ↔ Contains ys z) → closed ns xs ≡ closed ns ys
closed_alike ns xs ys same =
    sorted_same item_total (closed ns xs) (closed ns ys) (closed_ascends ns xs) (closed_ascends ns ys)
    (λ x h. let (item, r) = closed_parts ns xs x h in closed_has ns ys x r.0 item (has_from ys r.0 ((same r.0).0 (contains_from xs r.0 r.1.0))) r.1.1)
    (λ x h. let (item, r) = closed_parts ns ys x h in closed_has ns xs x r.0 item (has_from xs r.0 ((same r.0).1 (contains_from ys r.0 r.1.0))) r.1.1)
