-- A worklist after items are recorded.
use Rattle.std.proofs.Common.{◌≡◌, ℕ, ◌+◌, List, [], ◌∷◌, ◌++◌, length, refl, ap, sym, ◌∙◌, subst, arith, inl, inr, Bool, true, false, cond, not, length-append, append_assoc, map}
use Rattle.std.specs.Prelude.{slice_get, Some}
use Rattle.std.specs.List.{Contains, filter}
use Rattle.std.specs.BTreeSet.{BTreeSet, contains, Updates, IsOrdered}
use Rattle.std.proofs.lemmas.Map.Views.{btree_set_contains_iff}
use Rattle.std.proofs.lemmas.List.Elements.{Contains-append_left, Contains-append_right, Contains-append_cases, Contains-push, Contains-push_cases}
use Rattle.lalrpop_hir.proofs.Orders.{set_come, set_has, set_kept}
use Rattle.lalrpop_dfa.specs.Ascending.{Item, item_cmp}
use Rattle.lalrpop_dfa.specs.Internal.OrderLaws.{item_total}
use Rattle.lalrpop_nfa.specs.Graph.{Graph}
use Rattle.lalrpop_dfa.proofs.ItemTies.{item_exact}
use Rattle.lalrpop_nfa.specs.Walk.{leaves}
use Rattle.lalrpop_nfa.specs.declared.edge.Edge.{Edge}
use Rattle.lalrpop_nfa.specs.declared.edge.Noop.{Noop}
use Rattle.lalrpop_hir.proofs.Contained.{contains_none, contains_only}
use Rattle.lalrpop_build.specs.Internal.Worklist.{IsAdded, IsInserted, epsilon_targets}
use Rattle.lalrpop_hir.proofs.Members.{contains_from}
use Rattle.lalrpop_build.proofs.Targets.{graph_is}

-- no items
pub inserted_none : (o p : List Item) → IsInserted o p [] o p
inserted_none o p = record {
  ordered = λ h. h;
  kept = λ x h. h;
  inserted = λ x h. absurd (contains_none x h);
  come = λ x h. inl h;
  pending_kept = λ x h. h;
  pending_come = λ x h. inl h;
  more = omega arith;
  even = refl;
}

-- some items, and then others
pub inserted_then : (o p xs o1 p1 ys o2 p2 : List Item) → IsInserted o p xs o1 p1 → IsInserted o1 p1 ys o2 p2 → IsInserted o p (xs ++ ys) o2 p2
inserted_then o p xs o1 p1 ys o2 p2 a b = record {
  ordered = λ h. b.ordered (a.ordered h);
  kept = λ x h. b.kept x (a.kept x h);
  inserted = λ x h. elim (Contains-append_cases xs ys x h) [ inl l ↦ b.kept x (a.inserted x l) | inr r ↦ b.inserted x r ];
  come = λ x h. elim (b.come x h) [
    | inl was ↦ elim (a.come x was) [ inl old ↦ inl old | inr new ↦ inr (Contains-append_left xs ys x new.0, b.pending_kept x new.1) ]
    | inr new ↦ inr (Contains-append_right xs ys x new.0, new.1)
  ];
  pending_kept = λ x h. b.pending_kept x (a.pending_kept x h);
  pending_come = λ x h. elim (b.pending_come x h) [
    | inl was ↦ elim (a.pending_come x was) [ inl old ↦ inl old | inr new ↦ inr (Contains-append_left xs ys x new) ]
    | inr new ↦ inr (Contains-append_right xs ys x new)
  ];
  more = omega (arith, a.more, b.more);
  even = omega (arith, a.even, b.even);
}

not_false : (b : Bool) → false ≡ not b → b ≡ true
not_false true e = refl
not_false false e = cc

-- an item that is added to a set
pub set_added : (s n : BTreeSet Item) (item : Item) (is_new : Bool) → Updates item_cmp s n item true → IsOrdered item_cmp n → is_new ≡ not (contains item_cmp s item) → length n.keys ≡ length s.keys + cond is_new 1 0 → IsAdded s.keys item is_new n.keys
set_added s n item is_new u o test len = record {
  ordered = o;
  kept = set_kept item_total item_exact s n item u;
  added = set_has item_total item_exact s n item u item refl;
  come = set_come item_total item_exact s n item u;
  there = λ e. (btree_set_contains_iff item_total item_exact s item).0 (not_false (contains item_cmp s item) (sym e ∙ test));
  len = len;
}

-- an item that is added, and is pending if it is new
pub inserted_one : (o : List Item) (item : Item) (is_new : Bool) (o2 p p2 : List Item) → IsAdded o item is_new o2 → p2 ≡ cond is_new (p ++ item ∷ []) p → IsInserted o p (item ∷ []) o2 p2
inserted_one o item true o2 p p2 a pushed = record {
  ordered = λ h. a.ordered;
  kept = a.kept;
  inserted = λ x h. subst (Contains o2) (contains_only item x h) a.added;
  come = λ x h. elim (a.come x h) [ inl was ↦ inl was | inr e ↦ inr (contains_from (item ∷ []) x (inl e), rw (pushed, ← e) (Contains-push p item)) ];
  pending_kept = λ x h. rw pushed (Contains-append_left p (item ∷ []) x h);
  pending_come = λ x h. elim (Contains-push_cases p item x (rw pushed at h)) [ inl was ↦ inl was | inr e ↦ inr (contains_from (item ∷ []) x (inl e)) ];
  more = omega (arith, a.len);
  even = omega (arith, a.len, ap length pushed, length-append p (item ∷ []));
}
inserted_one o item false o2 p p2 a same = record {
  ordered = λ h. a.ordered;
  kept = a.kept;
  inserted = λ x h. subst (Contains o2) (contains_only item x h) a.added;
  come = λ x h. elim (a.come x h) [ inl was ↦ inl was | inr e ↦ inl (subst (Contains o) e (a.there refl)) ];
  pending_kept = λ x h. rw same h;
  pending_come = λ x h. inl (rw same at h);
  more = omega (arith, a.len);
  even = omega (arith, a.len, ap length same);
}

-- the targets of a single edge that reads nothing, from the edges that leave the state
pub steps_here : (ns : List Graph) (x : Item) (g : Graph) (q : ℕ) (es : List (Edge Noop)) → slice_get ns x.0 ≡ Some g → q ≡ x.1 → es ≡ filter (leaves q) g.edges.noops → map (λ e. (x.0, e.to)) es ≡ epsilon_targets ns x
unfolding epsilon_targets
steps_here ns x g q es at same is = rw (is, same, graph_is ns x.0 g at) refl

-- one of them is inserted
pub steps_more : {L : Type 0} (done all : List Item) (es rest : List (Edge L)) (e : Edge L) (i : ℕ) (y : Item) → done ++ map (λ (f : Edge L). let z : Item = (i, f.to) in z) es ≡ all → es ≡ e ∷ rest → y ≡ (i, e.to)
    → (done ++ y ∷ []) ++ map (λ (f : Edge L). let z : Item = (i, f.to) in z) rest ≡ all
steps_more done all es rest e i y h is same = rw (append_assoc, same) (rw is at h)

-- and is one of them
pub steps_have : {L : Type 0} (done all : List Item) (es rest : List (Edge L)) (e : Edge L) (i : ℕ) (y : Item) → done ++ map (λ (f : Edge L). let z : Item = (i, f.to) in z) es ≡ all → es ≡ e ∷ rest → y ≡ (i, e.to)
    → Contains all y
steps_have {L} done all es rest e i y h is same =
    subst (λ (xs : List Item). Contains xs y) (steps_more done all es rest e i y h is same) (Contains-append_left (done ++ y ∷ []) (map (λ (f : Edge L). let z : Item = (i, f.to) in z) rest) y (Contains-push done y))
