-- Adding a set to the numbered ones.
use Rattle.std.proofs.Common.{◌≡◌, ℕ, suc, ◌+◌, ◌<◌, inl, inr, List, [], ◌∷◌, ◌++◌, length, drop, get_or, refl, ap, ap₂, sym, ◌∙◌, subst, arith, Bool, true, false, cond, append_assoc, add-one, drop-cons}
use Rattle.std.specs.Prelude.{slice_get, Option, Some}
use Rattle.std.specs.List.{list_any}
use Rattle.std.specs.List.Sorted.{IsSorted}
use Rattle.std.specs.Ordering.{is_eq, is_lt, is_le, is_some_and, nat_cmp, ordering_then, ordering_reverse, partial_ordering_then}
use Rattle.std.specs.Cmp.{Equal-is, IsTotalOrder}
use Rattle.std.specs.declared.cmp.Ordering.{Ordering}
use Rattle.std.specs.declared.cmp.Ordering.TheVariants.{Less, Equal, Greater}
use Rattle.std.proofs.lemmas.Cmp.{tied_itself, then_total, on_total, nat_cmp_total}
use Rattle.std.proofs.lemmas.Map.Keys.{any_passes_from_place}
use Rattle.std.proofs.lemmas.Map.Lookups.{CmpEqualImpliesEq}
use Rattle.std.proofs.lemmas.Option.{slice_get_within}
use Rattle.lalrpop_nfa.specs.Graph.{Graph}
use Rattle.lalrpop_dfa.specs.Ascending.{Item, item_cmp}
use Rattle.lalrpop_dfa.specs.Kernels.{Kernels, IsNumberOf, added}
use Rattle.lalrpop_hir.proofs.Pushed.{pushed_cases, pushed_keeps, pushed_last}
use Rattle.lalrpop_hir.specs.States.{start_state}
use Rattle.lalrpop_build.specs.Internal.Subsets.{starts_from, no_graph}
use Rattle.std.specs.Cmp.Lexicographic.{slice_cmp}
use Rattle.lalrpop_build.specs.Internal.Transitions.{transition_cmp}
use Rattle.lalrpop_build.specs.Internal.ClassTransitions.{transitions_cmp}
use Rattle.lalrpop_build.specs.declared.transitions.Transition.{Transition}
use Rattle.lalrpop_build.specs.declared.build.scratch.Transitions.{Transitions}
use Rattle.lalrpop_dfa.specs.ItemOrder.{rejects_cmp, hash_of, items_cmp, set_cmp}
use Rattle.lalrpop_dfa.specs.Internal.OrderLaws.{item_total, set_total}
use Rattle.lalrpop_dfa.specs.LiveItems.{live_of}
use Rattle.lalrpop_build.specs.Internal.Stage.{Extends}
use Rattle.lalrpop_build.specs.Internal.Expansion.{AddedTo}
use Rattle.lalrpop_build.specs.Internal.Given.{AreAutomata, AreItemsOf}
use Rattle.lalrpop_hir.proofs.Members.{Has, has_from}
use Rattle.lalrpop_build.proofs.Targets.{compiled_at}
use Rattle.lalrpop_hir.proofs.Orders.{then_equal, nat_exact, lists_exact}
use Rattle.lalrpop_dfa.proofs.ItemTies.{item_exact}

pub set_exact : CmpEqualImpliesEq set_cmp
set_exact x y e =
    let items : items_cmp x y ≡ Equal = (then_equal (nat_cmp (hash_of (live_of x)) (hash_of (live_of y))) (items_cmp x y) e).1 in
    lists_exact item_exact x y (then_equal (ordering_then (slice_cmp item_cmp (live_of x) (live_of y)) (rejects_cmp x y)) (slice_cmp item_cmp x y) items).1

module _ (sets : List (List Item)) (set : List Item) where
  -- a set that is in the list passes the test
  there : (k : ℕ) → slice_get sets k ≡ Some set → list_any (λ q. is_eq (set_cmp set q)) sets ≡ true
  there k h = any_passes_from_place (λ q. is_eq (set_cmp set q)) sets k set h ((Equal-is (set_cmp set set)).1 (tied_itself set_total set))

  old_by : (b : Bool) (n : ℕ) (sets2 : List (List Item)) → list_any (λ q. is_eq (set_cmp set q)) sets ≡ b → sets2 ≡ cond b sets (sets ++ set ∷ []) → IsNumberOf set_cmp sets2 set n → (n ≡ length sets → ⊥) → (slice_get sets n ≡ Some set) × (sets2 ≡ sets)
  old_by true n sets2 e is h old =
      let same : set ≡ h.0 = set_exact set h.0 h.2 in
      (rw (same, ← is) h.1, is)
  old_by false n sets2 e is h old =
      let same : set ≡ h.0 = set_exact set h.0 h.2 in
      elim (pushed_cases sets set n h.0 (rw is at h.1)) [
        | inl was ↦ absurd (let t : list_any (λ q. is_eq (set_cmp set q)) sets ≡ true = there n (was ∙ ap (λ q. Some q) (sym same)) in let f : true ≡ false = sym t ∙ e in cc)
        | inr new ↦ absurd (old new.0)
      ]

  pub number_old : (n : ℕ) (sets2 : List (List Item)) → sets2 ≡ added set_cmp sets set → IsNumberOf set_cmp sets2 set n → (n ≡ length sets → ⊥) → (slice_get sets n ≡ Some set) × (sets2 ≡ sets)
  number_old n sets2 is h old = old_by (list_any (λ q. is_eq (set_cmp set q)) sets) n sets2 refl is h old

  new_by : (b : Bool) (n : ℕ) (sets2 : List (List Item)) → list_any (λ q. is_eq (set_cmp set q)) sets ≡ b → sets2 ≡ cond b sets (sets ++ set ∷ []) → IsNumberOf set_cmp sets2 set n → n ≡ length sets → ((k : ℕ) → slice_get sets k ≡ Some set → ⊥) × (sets2 ≡ sets ++ set ∷ [])
  new_by true n sets2 e is h new = absurd (let l : n < length sets = slice_get_within sets n h.0 (rw is at h.1) in omega (arith, new))
  new_by false n sets2 e is h new = (λ k at. (let t : list_any (λ q. is_eq (set_cmp set q)) sets ≡ true = there k at in let f : true ≡ false = sym t ∙ e in cc), is)

  pub number_new : (n : ℕ) (sets2 : List (List Item)) → sets2 ≡ added set_cmp sets set → IsNumberOf set_cmp sets2 set n → n ≡ length sets → ((k : ℕ) → slice_get sets k ≡ Some set → ⊥) × (sets2 ≡ sets ++ set ∷ [])
  number_new n sets2 is h new = new_by (list_any (λ q. is_eq (set_cmp set q)) sets) n sets2 refl is h new

-- the sets in the list keep their numbers
extends_by : (sets : List (List Item)) (set : List Item) (b : Bool) (sets2 : List (List Item)) → sets2 ≡ cond b sets (sets ++ set ∷ []) → Extends sets sets2
extends_by sets set true sets2 is k s h = rw is h
extends_by sets set false sets2 is k s h = rw is (pushed_keeps sets set k s h)

pub added_extends : (sets : List (List Item)) (set : List Item) (sets2 : List (List Item)) → sets2 ≡ added set_cmp sets set → Extends sets sets2
added_extends sets set sets2 is = extends_by sets set (list_any (λ q. is_eq (set_cmp set q)) sets) sets2 is

pub clones_equal : (x y : List Item) → y ≡ x → set_cmp x y ≡ Equal
clones_equal x y e = subst (λ z. set_cmp x z ≡ Equal) (sym e) (tied_itself set_total x)

pub starts_more : (ns : List Graph) (items all : List Item) (i : ℕ) → i < length ns → items ++ starts_from i (drop i ns) ≡ all → (items ++ (i, start_state) ∷ []) ++ starts_from (i + 1) (drop (i + 1) ns) ≡ all
starts_more ns items all i l h =
    let e : drop i ns ≡ get_or ns i no_graph ∷ drop (i + 1) ns = drop-cons ns i no_graph l ∙ ap (λ k. get_or ns i no_graph ∷ drop k ns) (sym (add-one i)) in
    rw append_assoc (rw e at h)

starts_are : (i : ℕ) (gs : List Graph) (x : Item) → Has (starts_from i gs) x → (j : ℕ) × (g : Graph) × ((x.0 ≡ i + j) × (slice_get gs j ≡ Some g) × (x.1 ≡ start_state))
starts_are i [] x h = absurd h
starts_are i (g ∷ gs) x (inl e) = (0, g, (omega (arith, ap (λ (y : Item). y.0) e), refl, sym (ap (λ (y : Item). y.1) e)))
starts_are i (g ∷ gs) x (inr h) = let r = starts_are (i + 1) gs x h in (suc r.0, r.1, (omega (arith, r.2.0), r.2.1, r.2.2))

-- START of each automaton is an item
pub starts_inside : (ns : List Graph) → AreAutomata ns → AreItemsOf ns (starts_from 0 ns)
starts_inside ns a x h =
    let r = starts_are 0 ns x (has_from (starts_from 0 ns) x h) in
    let at : slice_get ns x.0 ≡ Some r.1 = subst (λ j. slice_get ns j ≡ Some r.1) (let e : r.0 ≡ x.0 = omega (arith, r.2.0) in e) r.2.1 in
    let k = compiled_at a.0 ns a.1 x.0 r.1 at in
    (r.1, (at, omega (arith, r.2.2, k.1.1.start_in)))

-- the first set is the only one
pub first_added : (empty first : Kernels (List Item)) (s : List Item) → empty ≡ record { list = []; place = 0 } → first ≡ record { list = added set_cmp empty.list s; place = empty.place } → (first.list ≡ s ∷ []) × (first.place ≡ 0)
first_added empty first s none is =
    let list : empty.list ≡ [] = ap (λ (k : Kernels (List Item)). k.list) none in
    (ap (λ (k : Kernels (List Item)). k.list) is ∙ ap (λ ks. added set_cmp ks s) list, ap (λ (k : Kernels (List Item)). k.place) is ∙ ap (λ (k : Kernels (List Item)). k.place) none)

-- ---- sets that are added keep their numbers
pub added_stays : (sets : List (List Item)) (origins : List (ℕ × ℕ)) (n v : ℕ) (t : List Item) (j : ℕ) (sets2 : List (List Item)) (origins2 : List (ℕ × ℕ)) → AddedTo sets origins n v t j sets2 origins2
    → (k : ℕ) (s : List Item) → slice_get sets k ≡ Some s → slice_get sets2 k ≡ Some s
added_stays sets origins n v t j sets2 origins2 (inl (e, a, b)) k s h = rw a h
added_stays sets origins n v t j sets2 origins2 (inr (none, e, a, b)) k s h = rw a (pushed_keeps sets t k s h)

pub added_at : (sets : List (List Item)) (origins : List (ℕ × ℕ)) (n v : ℕ) (t : List Item) (j : ℕ) (sets2 : List (List Item)) (origins2 : List (ℕ × ℕ)) → AddedTo sets origins n v t j sets2 origins2 → slice_get sets2 j ≡ Some t
added_at sets origins n v t j sets2 origins2 (inl (e, a, b)) = rw a e
added_at sets origins n v t j sets2 origins2 (inr (none, e, a, b)) = rw (a, e) (pushed_last sets t)

lead_exact : (x y : Transition) → transition_cmp x y ≡ Equal → x ≡ y
lead_exact x y e =
    let h = then_equal (item_cmp x.item y.item) (nat_cmp x.to y.to) e in
    let a : x.item ≡ y.item = item_exact x.item y.item h.0 in
    let b : x.to ≡ y.to = nat_exact x.to y.to h.1 in
    ap₂ (λ i q. let l : Transition = record { item = i; to = q } in l) a b

-- lists that compare as equal are equal
pub transitions_exact : (x y : Transitions) → transitions_cmp x y ≡ Equal → x.list.items ≡ y.list.items
transitions_exact x y e = lists_exact lead_exact x.list.items y.list.items e

-- ---- edges in order
transition_total : IsTotalOrder transition_cmp
transition_total = then_total (on_total (λ (l : Transition). l.item) item_total) (on_total (λ (l : Transition). l.to) nat_cmp_total)

-- what `partial_cmp` returns
abbrev partial : Transition → Transition → Option Ordering
partial x y = partial_ordering_then (Some (item_cmp x.item y.item)) (Some (nat_cmp x.to y.to))

both_then : (a b : Ordering) → partial_ordering_then (Some a) (Some b) ≡ Some (ordering_then a b)
both_then Less b = refl
both_then Equal b = refl
both_then Greater b = refl

partial_is : (x y : Transition) → partial x y ≡ Some (transition_cmp x y)
partial_is x y = both_then (item_cmp x.item y.item) (nat_cmp x.to y.to)

turned_order : (o : Ordering) → is_some_and is_le (Some (ordering_reverse o)) ≡ true → is_lt o ≡ false
turned_order Less h = cc
turned_order Equal h = refl
turned_order Greater h = refl

-- a list where no edge is greater than the next
pub sorted_by_test : (ls : List Transition) → ((k : ℕ) (d : Transition) → k + 1 < length ls → is_some_and is_le (partial (get_or ls k d) (get_or ls (k + 1) d)) ≡ true) → IsSorted transition_cmp ls
sorted_by_test ls h k d low l = turned_order (transition_cmp (get_or ls (k + 1) d) (get_or ls k d))
    (subst (λ (o : Ordering). is_some_and is_le (Some o) ≡ true) (transition_total.antisymm (get_or ls k d) (get_or ls (k + 1) d))
    (subst (λ (o : Option Ordering). is_some_and is_le o ≡ true) (partial_is (get_or ls k d) (get_or ls (k + 1) d)) (h k d l)))
