-- What the worklist keeps, and what it ends with.
use Rattle.std.proofs.Common.{◌≡◌, ℕ, zero, suc, ◌+◌, ◌-◌, ◌*◌, ◌<◌, ◌≤◌, List, [], ◌∷◌, ◌++◌, length, get_or, ◌∙◌, refl, ap, sym, subst, arith, ◌⊎◌, inl, inr, true, ◌&&◌, ◌==◌, length-append}
use Rattle.std.specs.List.{Contains, list_any, filter}
use Rattle.std.proofs.lemmas.Bool.{or_cases, and_parts, and_from, eq-eqb, eqb-true}
use Rattle.std.proofs.lemmas.List.Elements.{Contains-append_left, Contains-push_cases, Contains-push}
use Rattle.lalrpop_nfa.specs.Graph.{Graph}
use Rattle.lalrpop_dfa.specs.Ascending.{Item, item_cmp, AreAscendingItems}
use Rattle.lalrpop_nfa.specs.Walk.{leaves}
use Rattle.lalrpop_build.specs.Internal.Given.{IsItemOf, AreAutomata, AreItemsOf}
use Rattle.lalrpop_nfa.specs.Path.{noop}
use Rattle.lalrpop_build.specs.Internal.Subsets.{graph_at, has_noop, joins, is_epsilon_path, follows_by_epsilon, closed, all_items}
use Rattle.lalrpop_build.specs.Internal.Worklist.{IsInserted, epsilon_targets, AreOfPattern}
use Rattle.lalrpop_nfa.specs.declared.edge.Edge.{Edge}
use Rattle.lalrpop_nfa.specs.declared.edge.Noop.{Noop}
use Rattle.lalrpop_hir.proofs.Members.{Has, has_from, contains_from, has_map, map_has, has_filter, filter_has, any_from_has, has_from_any}
use Rattle.lalrpop_hir.proofs.Contained.{contains_none, contains_only}
use Rattle.lalrpop_hir.proofs.SortedLists.{sorted_nil, sorted_cons, sorted_same}
use Rattle.std.specs.Prelude.{slice_get, Some}
use Rattle.std.proofs.lemmas.Option.{slice_get-get_or}
use Rattle.lalrpop_build.proofs.Follows.{follows_place}
use Rattle.lalrpop_build.proofs.Epsilon.{epsilon_self, epsilon_edge, epsilon_trans}
use Rattle.lalrpop_build.proofs.Sets.{closed_ascends, closed_parts, contains_closed, all_items_have, at_most_all_items, item_total}
use Rattle.lalrpop_build.proofs.Targets.{compiled_at, graph_is}

-- ---- one edge
-- an edge that reads nothing makes a step
pub step_from_edge : (ns : List Graph) (x : Item) (e : Edge Noop) → Has (graph_at ns x.0).edges.noops e → e.from ≡ x.1 → Has (epsilon_targets ns x) (x.0, e.to)
unfolding epsilon_targets
step_from_edge ns x e h same =
    has_map (λ (f : Edge Noop). let z : Item = (x.0, f.to) in z) (filter (leaves x.1) (graph_at ns x.0).edges.noops) e (has_filter (leaves x.1) (graph_at ns x.0).edges.noops e h (eq-eqb e.from x.1 same))

-- and each step is made by one
pub edge_from_step : (ns : List Graph) (x y : Item) → Has (epsilon_targets ns x) y → (e : Edge Noop) × (Has (graph_at ns x.0).edges.noops e × (e.from ≡ x.1) × (y ≡ (x.0, e.to)))
unfolding epsilon_targets
edge_from_step ns x y h =
    let m = map_has (λ (f : Edge Noop). let z : Item = (x.0, f.to) in z) (filter (leaves x.1) (graph_at ns x.0).edges.noops) y h in
    let f = filter_has (leaves x.1) (graph_at ns x.0).edges.noops m.0 m.1.0 in
    (m.0, (f.0, eqb-true m.0.from x.1 f.1, sym m.1.1))

pub step_inside : (ns : List Graph) (x y : Item) → AreAutomata ns → IsItemOf ns x → Has (epsilon_targets ns x) y → IsItemOf ns y
step_inside ns x y a is h =
    let (e, f) = edge_from_step ns x y h in
    let c = compiled_at a.0 ns a.1 x.0 is.0 is.1.0 in
    let here : Has is.0.edges.noops e = rw (graph_is ns x.0 is.0 is.1.0) at f.0 in
    let l = c.1.1.noops_in e (contains_from is.0.edges.noops e here) in
    rw f.2 (is.0, (is.1.0, l.1))

pub step_led : (ns : List Graph) (z x y : Item) → IsItemOf ns x → follows_by_epsilon ns z x ≡ true → Has (epsilon_targets ns x) y → follows_by_epsilon ns z y ≡ true
unfolding follows_by_epsilon
step_led ns z x y is led h =
    let (e, f) = edge_from_step ns x y h in
    let blocks = and_parts (z.0 == x.0) (is_epsilon_path (graph_at ns x.0) z.1 x.1) led in
    let inside : x.1 < length (graph_at ns x.0).kinds = rw (graph_is ns x.0 is.0 is.1.0) is.1.1 in
    let same : e ≡ noop x.1 e.to = ap (λ (p : ℕ). noop p e.to) f.1 in
    let edge : Contains (graph_at ns x.0).edges.noops (noop x.1 e.to) = contains_from (graph_at ns x.0).edges.noops (noop x.1 e.to) (rw same at f.0) in
    let far : is_epsilon_path (graph_at ns x.0) z.1 e.to ≡ true = epsilon_trans (graph_at ns x.0) z.1 x.1 e.to inside blocks.1 (epsilon_edge (graph_at ns x.0) x.1 e.to edge) in
    rw f.2 (and_from (z.0 == x.0) (is_epsilon_path (graph_at ns x.0) z.1 e.to) blocks.0 far)

-- ---- what the worklist keeps
pub record IsClosing (ns : List Graph) (given observed pending : List Item) : Type 0 where
  pub ordered : AreAscendingItems observed
  pub given_in : (x : Item) → Contains given x → Contains observed x
  pub pending_in : (x : Item) → Contains pending x → Contains observed x
  pub followed : (x : Item) → Contains observed x → Contains pending x ⊎ ((y : Item) → Contains (epsilon_targets ns x) y → Contains observed y)
  pub within : (x : Item) → Contains observed x → IsItemOf ns x
  pub led : (x : Item) → Contains observed x → list_any (λ y. follows_by_epsilon ns y x) given ≡ true

led_self : (ns : List Graph) (given : List Item) (x : Item) → Contains given x → list_any (λ y. follows_by_epsilon ns y x) given ≡ true
unfolding follows_by_epsilon
led_self ns given x h =
    any_from_has (λ y. follows_by_epsilon ns y x) given x (has_from given x h) (and_from (x.0 == x.0) (is_epsilon_path (graph_at ns x.0) x.1 x.1) (eq-eqb x.0 x.0 refl) (epsilon_self (graph_at ns x.0) x.1))

led_more : (ns : List Graph) (given : List Item) (x y : Item) → IsItemOf ns x → list_any (λ z. follows_by_epsilon ns z x) given ≡ true → Has (epsilon_targets ns x) y → list_any (λ z. follows_by_epsilon ns z y) given ≡ true
led_more ns given x y is led h =
    let (z, f) = has_from_any (λ z. follows_by_epsilon ns z x) given led in
    any_from_has (λ z. follows_by_epsilon ns z y) given z f.0 (step_led ns z x y is f.1 h)

pub closing_start : (ns : List Graph) (given observed0 pending0 observed pending : List Item) → observed0 ≡ [] → pending0 ≡ [] → AreItemsOf ns given → IsInserted observed0 pending0 given observed pending → IsClosing ns given observed pending
closing_start ns given observed0 pending0 observed pending e f inside n =
    let from : (x : Item) → Contains observed x → Contains given x × Contains pending x =
    λ (x : Item) (h : Contains observed x). elim (n.come x h) [ inl was ↦ absurd (contains_none x (rw e at was)) | inr new ↦ new ] in
    record {
      ordered = n.ordered (rw e (sorted_nil item_cmp));
      given_in = n.inserted;
      pending_in = λ x h. elim (n.pending_come x h) [ inl was ↦ absurd (contains_none x (rw f at was)) | inr new ↦ n.inserted x new ];
      followed = λ x h. inl (from x h).1;
      within = λ x h. inside x (from x h).0;
      led = λ x h. led_self ns given x (from x h).0;
    }

pub closing_step : (ns : List Graph) (given observed before pending : List Item) (x : Item) (observed2 pending2 : List Item) → AreAutomata ns → before ≡ pending ++ x ∷ [] → IsClosing ns given observed before
    → IsInserted observed pending (epsilon_targets ns x) observed2 pending2 → IsClosing ns given observed2 pending2
closing_step ns given observed before pending x observed2 pending2 automata popped k n =
    let here : Contains observed x = k.pending_in x (rw popped (Contains-push pending x)) in
    record {
      ordered = n.ordered k.ordered;
      given_in = λ y h. n.kept y (k.given_in y h);
      pending_in = λ y h. elim (n.pending_come y h) [ inl was ↦ n.kept y (k.pending_in y (rw popped (Contains-append_left pending (x ∷ []) y was))) | inr new ↦ n.inserted y new ];
      followed = λ y h. elim (n.come y h) [
        | inl was ↦ elim (k.followed y was) [
          | inl waits ↦ elim (Contains-push_cases pending x y (rw popped at waits)) [
            | inl still ↦ inl (n.pending_kept y still)
            | inr same ↦ inr (λ z s. n.inserted z (rw same s))
          ]
          | inr done ↦ inr (λ z s. n.kept z (done z s))
        ]
        | inr new ↦ inl new.1
      ];
      within = λ y h. elim (n.come y h) [ inl was ↦ k.within y was | inr new ↦ step_inside ns x y automata (k.within x here) (has_from (epsilon_targets ns x) y new.0) ];
      led = λ y h. elim (n.come y h) [ inl was ↦ k.led y was | inr new ↦ led_more ns given x y (k.within x here) (k.led x here) (has_from (epsilon_targets ns x) y new.0) ];
    }

-- ---- all of it is in the closure
led_closed : (ns : List Graph) (given : List Item) (x : Item) → IsItemOf ns x → list_any (λ y. follows_by_epsilon ns y x) given ≡ true → Contains (closed ns given) x
unfolding closed
led_closed ns given x is led = contains_from (closed ns given) x (has_filter (λ x. list_any (λ y. follows_by_epsilon ns y x) given) (all_items ns) x (all_items_have ns x is) led)

pub given_closed : (ns : List Graph) (given : List Item) (x : Item) → AreItemsOf ns given → Contains given x → Contains (closed ns given) x
given_closed ns given x inside h = led_closed ns given x (inside x h) (led_self ns given x h)

pub targets_closed : (ns : List Graph) (given observed before pending : List Item) (x y : Item) → AreAutomata ns → before ≡ pending ++ x ∷ [] → IsClosing ns given observed before → Contains (epsilon_targets ns x) y → Contains (closed ns given) y
targets_closed ns given observed before pending x y automata popped k h =
    let here : Contains observed x = k.pending_in x (rw popped (Contains-push pending x)) in
    let step = has_from (epsilon_targets ns x) y h in
    led_closed ns given y (step_inside ns x y automata (k.within x here) step) (led_more ns given x y (k.within x here) (k.led x here) step)

-- ---- the measure
pub closing_few : (ns : List Graph) (given observed pending : List Item) → IsClosing ns given observed pending → length observed ≤ length (all_items ns)
closing_few ns given observed pending k =
    at_most_all_items ns observed k.ordered k.within

-- twice the number of items that are not observed yet, and the pending ones
abbrev pub left : List Graph → List Item → List Item → ℕ
left ns observed pending = 2 * (length (all_items ns) - length observed) + length pending

pub closing_less : (ns : List Graph) (given observed before pending : List Item) (x : Item) (observed2 pending2 : List Item) → before ≡ pending ++ x ∷ [] → IsClosing ns given observed2 pending2
    → IsInserted observed pending (epsilon_targets ns x) observed2 pending2 → left ns observed2 pending2 < left ns observed before
closing_less ns given observed before pending x observed2 pending2 popped k n =
    omega (arith, closing_few ns given observed2 pending2 k, n.more, n.even, ap length popped, length-append pending (x ∷ []))

-- ---- the end
-- a set that has the steps of its items has all that edges lead to
module _ (ns : List Graph) (i : ℕ) (S : Item → Type 0) (closed_under : (x y : Item) → S x → Has (epsilon_targets ns x) y → S y) where
  joins_stay : (n p q : ℕ) → joins (graph_at ns i) n p q ≡ true → S (i, p) → S (i, q)
  unfolding joins
  joins_stay zero p q h s = elim (or_cases (p == q) (has_noop (graph_at ns i) p q) h) [
    | inl same ↦ subst (λ r. S (i, r)) (eqb-true p q same) s
    | inr edge ↦ (let (e, f) = has_from_any (λ (f : Edge Noop). (f.from == p) && (f.to == q)) (graph_at ns i).edges.noops edge in
        let blocks = and_parts (e.from == p) (e.to == q) f.1 in
        subst (λ r. S (i, r)) (eqb-true e.to q blocks.1) (closed_under (i, p) (i, e.to) s (step_from_edge ns (i, p) e f.0 (eqb-true e.from p blocks.0))))
  ]
  joins_stay (suc n) p q h s = elim (or_cases (joins (graph_at ns i) n p q) (joins (graph_at ns i) n p n && joins (graph_at ns i) n n q) h) [
    | inl less ↦ joins_stay n p q less s
    | inr both ↦ (let blocks = and_parts (joins (graph_at ns i) n p n) (joins (graph_at ns i) n n q) both in joins_stay n n q blocks.1 (joins_stay n p n blocks.0 s))
  ]

  epsilon_stays : (p q : ℕ) → is_epsilon_path (graph_at ns i) p q ≡ true → S (i, p) → S (i, q)
  unfolding is_epsilon_path
  epsilon_stays p q h s = joins_stay (length (graph_at ns i).kinds) p q h s

led_in : (ns : List Graph) (observed : List Item) (x y : Item) → ((x y : Item) → Contains observed x → Has (epsilon_targets ns x) y → Contains observed y) → Contains observed y → follows_by_epsilon ns y x ≡ true → Contains observed x
unfolding follows_by_epsilon
led_in ns observed x y done h led =
    let blocks = and_parts (y.0 == x.0) (is_epsilon_path (graph_at ns x.0) y.1 x.1) led in
    let e : y.0 ≡ x.0 = eqb-true y.0 x.0 blocks.0 in
    epsilon_stays ns x.0 (Contains observed) done y.1 x.1 blocks.1 (subst (λ i. Contains observed (i, y.1)) e h)

pub closing_done : (ns : List Graph) (given observed pending : List Item) → pending ≡ [] → IsClosing ns given observed pending → observed ≡ closed ns given
closing_done ns given observed pending none k =
    sorted_same item_total observed (closed ns given) k.ordered (closed_ascends ns given)
    (λ x h. has_from (closed ns given) x (led_closed ns given x (k.within x (contains_from observed x h)) (k.led x (contains_from observed x h))))
    (λ x h.
    let (y, f) = (closed_parts ns given x h).1 in
    has_from observed x (led_in ns observed x y done (k.given_in y (contains_from given y f.0)) f.1))
  where
    done : (x y : Item) → Contains observed x → Has (epsilon_targets ns x) y → Contains observed y
    done x y h s = elim (k.followed x h) [ inl waits ↦ absurd (contains_none x (rw none at waits)) | inr all ↦ all y (contains_from (epsilon_targets ns x) y s) ]

-- an item that no edge that reads nothing leaves
pub closed_alone : (ns : List Graph) (x : Item) → IsItemOf ns x → epsilon_targets ns x ≡ [] → x ∷ [] ≡ closed ns (x ∷ [])
closed_alone ns x is none = closing_done ns (x ∷ []) (x ∷ []) [] refl (record {
  ordered = sorted_cons item_cmp x [] (λ y h. absurd h) (sorted_nil item_cmp);
  given_in = λ y h. h;
  pending_in = λ y h. absurd (contains_none y h);
  followed = λ y h. inr (λ z s. absurd (contains_none z (let same : y ≡ x = only y h in rw (same, none) at s)));
  within = λ y h. rw (only y h) is;
  led = λ y h. led_self ns (x ∷ []) y h;
})
  where
    only : (y : Item) → Contains (x ∷ []) y → y ≡ x
    only y h = sym (contains_only x y h)

pub nil_from : {X : Type 0} (xs : List X) → length xs ≡ 0 → xs ≡ []
nil_from [] e = refl
nil_from (x ∷ xs) e = absurd (omega (arith, e))

-- the items that items of a pattern lead to are of that pattern too
pub closed_room : (ns : List Graph) (given : List Item) (p k : ℕ) (g : Graph) (states : ℕ) → k ≡ p → p < length ns → g ≡ get_or ns k g → states ≡ length g.kinds → AreOfPattern p given → (x : Item) → Contains (closed ns given) x
    → (x.0 ≡ p) × (x.1 < states)
closed_room ns given p k g states same l read is of x h =
    let ((f, (at, m)), (y, (z, led))) = (contains_closed ns given x).0 h in
    let place : x.0 ≡ p = sym (follows_place ns y x led) ∙ of y z in
    let here : slice_get ns p ≡ Some g = slice_get-get_or ns p g l ∙ ap (λ x. Some x) (sym (read ∙ ap (λ j. get_or ns j g) same)) in
    let both : Some g ≡ Some f = sym here ∙ subst (λ j. slice_get ns j ≡ Some f) place at in
    let e : g ≡ f = cc in
    (place, omega (arith, m, is, ap (λ (x : Graph). length x.kinds) e))
