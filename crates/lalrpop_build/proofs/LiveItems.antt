-- What the live items say of a set of items: the labels that leave it, the test edges that its values take, and its kind.
use Rattle.std.proofs.Common.{◌≡◌, ℕ, ◌<◌, inl, inr, ◌↔◌, List, [], ◌∷◌, length, map, filter, get_or, refl, ap, arith, Bool, true, ◌==◌, Some, eqb-true}
use Rattle.std.specs.List.{Contains, slice_get}
use Rattle.std.proofs.lemmas.Bool.{cases_Bool}
use Rattle.std.proofs.lemmas.List.Kept.{IsStrictlySortedBy-filter}
use Rattle.lalrpop_hir.specs.Range.{Range}
use Rattle.lalrpop_nfa.specs.Graph.{Graph}
use Rattle.lalrpop_nfa.specs.Path.{test}
use Rattle.lalrpop_hir.specs.States.{accept_state, reject_state}
use Rattle.lalrpop_nfa.specs.Partition.{IsPartition}
use Rattle.lalrpop_nfa.proofs.BlockCover.{partition_like}
use Rattle.lalrpop_dfa.specs.Ascending.{Item, item_cmp, AreAscendingItems}
use Rattle.lalrpop_build.specs.Internal.Given.{AreAutomata, IsItemOf, AreItemsOf}
use Rattle.lalrpop_dfa.specs.LiveItems.{is_live, live_of}
use Rattle.lalrpop_build.specs.Internal.Subsets.{is_dead}
use Rattle.lalrpop_build.specs.Internal.Transitions.{AreTransitions}
use Rattle.lalrpop_dfa.specs.Internal.OrderLaws.{item_total}
use Rattle.lalrpop_build.specs.declared.transitions.Transition.{Transition}
use Rattle.lalrpop_hir.proofs.Members.{Has, has_from, contains_from, has_filter, filter_has}
use Rattle.lalrpop_hir.proofs.SortedLists.{sorted_same}
use Rattle.lalrpop_dfa.proofs.FullSets.{live_is, is_live_from}
use Rattle.lalrpop_build.proofs.LiveSets.{same_bool}
use Rattle.lalrpop_build.proofs.Targets.{compiled_at}
use Rattle.lalrpop_build.proofs.Moved.{dead_from, dead_states}
use Rattle.lalrpop_build.specs.Items.{IsLeaving}
use Rattle.std.specs.Prelude.{slice_index}
use Rattle.lalrpop_build.specs.Internal.Best.{accepts, accepts_with}
use Rattle.lalrpop_build.proofs.Bests.{read_item}

-- ---- one item
has_live : (s : List Item) (x : Item) → Has s x → (x.1 ≡ reject_state → ⊥) → Has (live_of s) x
has_live s x h apart = has_filter is_live s x h (is_live_from x apart)

live_has : (s : List Item) (x : Item) → Has (live_of s) x → Has s x
live_has s x h = (filter_has is_live s x h).0

pub live_rises : (s : List Item) → AreAscendingItems s → AreAscendingItems (live_of s)
live_rises s sorted = IsStrictlySortedBy-filter item_cmp is_live s sorted

pub live_inside : (ns : List Graph) (s : List Item) → AreItemsOf ns s → AreItemsOf ns (live_of s)
live_inside ns s inside x h = inside x (contains_from s x (live_has s x (has_from (live_of s) x h)))

-- an item that is read from the live ones
pub read_live : (ns : List Graph) (s items : List Item) (k : ℕ) (x : Item) → AreItemsOf ns s → items ≡ live_of s → k < length items → x ≡ get_or items k x → IsItemOf ns x
read_live ns s items k x inside same l read = read_item ns items (live_of s) k x (live_inside ns s inside) same l read

-- ---- no test edge leaves REJECT
module _ (ns : List Graph) (a : AreAutomata ns) (s : List Item) where
  tested_live : (x : Item) (g : Graph) (r : Range) (q : ℕ) → slice_get ns x.0 ≡ Some g → Contains g.edges.tests (test x.1 r q) → Contains s x → Contains (live_of s) x
  tested_live x g r q at h k = contains_from (live_of s) x (has_live s x (has_from s x k) ((compiled_at a.0 ns a.1 x.0 g at).1.1.tests_in (test x.1 r q) h).2)

  live_leave : (r : Range) → IsLeaving ns (live_of s) r ↔ IsLeaving ns s r
  live_leave r = (
    λ h. (let (x, g, q, (k, at, e)) = h in (x, g, q, (contains_from s x (live_has s x (has_from (live_of s) x k)), at, e))),
    λ h. (let (x, g, q, (k, at, e)) = h in (x, g, q, (tested_live x g r q at e k, at, e))),
  )

  -- the partition of the labels that leave the items
  pub partition_live : (xs : List Range) → IsPartition (IsLeaving ns (live_of s)) xs → IsPartition (IsLeaving ns s) xs
  partition_live xs whole = partition_like (IsLeaving ns (live_of s)) (IsLeaving ns s) live_leave xs whole

  -- the test edges that a value takes
  pub transitions_live : (v : ℕ) (edges : List Transition) → AreTransitions ns (live_of s) v edges → AreTransitions ns s v edges
  transitions_live v edges have l = (
    λ h. (let (g, r, (m, there, e, c)) = (have l).0 h in (g, r, (contains_from s l.item (live_has s l.item (has_from (live_of s) l.item m)), there, e, c))),
    λ h. (have l).1 (let (g, r, (m, there, e, c)) = h in (g, r, (tested_live l.item g r l.to there e m, there, e, c))),
  )

-- ---- the kind of a set
accepting_live : (s : List Item) → AreAscendingItems s → filter (λ (x : Item). x.1 == accept_state) (live_of s) ≡ filter (λ (x : Item). x.1 == accept_state) s
accepting_live s sorted =
    sorted_same item_total (filter is_accepted (live_of s)) (filter is_accepted s)
    (IsStrictlySortedBy-filter item_cmp is_accepted (live_of s) (live_rises s sorted))
    (IsStrictlySortedBy-filter item_cmp is_accepted s sorted)
    (λ x h. let f = filter_has is_accepted (live_of s) x h in has_filter is_accepted s x (live_has s x f.0) f.1)
    (λ x h. let f = filter_has is_accepted s x h in
    has_filter is_accepted (live_of s) x (has_live s x f.0 (λ r. let e : x.1 ≡ accept_state = eqb-true x.1 accept_state f.1 in omega (arith, e, r))) f.1)
  where
    is_accepted : Item → Bool
    is_accepted x = x.1 == accept_state

pub accepts_live : (s : List Item) → AreAscendingItems s → accepts (live_of s) ≡ accepts s
accepts_live s sorted = ap (map (λ (x : Item). x.0)) (accepting_live s sorted)

-- a set is dead if it has no live item
dead_none : (s : List Item) → length (live_of s) ≡ 0 → is_dead s ≡ true
dead_none s none = dead_from s (λ x h. elim (cases_Bool (x.1 == reject_state)) [
  | inl t ↦ eqb-true x.1 reject_state t
  | inr f ↦ absurd (empty (live_of s) none x (has_filter is_live s x h (rw f refl)))
])
  where
    empty : (xs : List Item) → length xs ≡ 0 → (x : Item) → Has xs x → ⊥
    empty [] e x h = h
    empty (y ∷ xs) e x h = omega (arith, e)

live_none : (s : List Item) → is_dead s ≡ true → length (live_of s) ≡ 0
live_none s d = by (live_of s) (λ x h. let f = filter_has is_live s x h in live_is x f.1 (dead_states s d x f.0))
  where
    by : (xs : List Item) → ((x : Item) → Has xs x → ⊥) → length xs ≡ 0
    by [] f = refl
    by (x ∷ xs) f = absurd (f x (inl refl))

pub dead_told : (s items : List Item) (b : Bool) → items ≡ live_of s → (b ≡ true → length items ≡ 0) → (length items ≡ 0 → b ≡ true) → b ≡ is_dead s
dead_told s items b same f g = same_bool b (is_dead s) (λ t. dead_none s (rw (← same) (f t))) (λ d. g (rw same (live_none s d)))

pub with_live : (ps : List ℕ) (s : List Item) (p : ℕ) → AreAscendingItems s → accepts_with ps (live_of s) p ≡ accepts_with ps s p
with_live ps s p sorted = ap (filter (λ i. slice_index ps i == p)) (accepts_live s sorted)
