-- One walk over items and patterns, which both ascend, finds the patterns that stay live.
use Rattle.std.proofs.Common.{◌≡◌, ◌≢◌, ℕ, ◌+◌, ◌<◌, ◌≤◌, ◌↔◌, inl, inr, List, [], ◌∷◌, ◌++◌, length, take, get_or, refl, ap, sym, ◌∙◌, subst, arith, Bool, IsTrue, true, false, not, cond, Option, Some, None, MatchOption, Bor}
use Rattle.std.specs.List.{Contains, HoldsAt, slice_get}
use Rattle.std.specs.List.Sorted.{IsStrictlySortedBy}
use Rattle.std.specs.Option.{option_eq}
use Rattle.std.specs.Ordering.{nat_cmp}
use Rattle.std.specs.declared.cmp.Ordering.TheVariants.{Less}
use Rattle.std.proofs.lemmas.Bool.{cases_lt}
use Rattle.std.proofs.lemmas.Map.Keys.{Less-from_sorted, below_from_sorted}
use Rattle.std.proofs.lemmas.Option.{slice_get-get_or, slice_get_read, slice_get_within, get_or_from_slice_get, same_Some}
use Rattle.lalrpop_hir.specs.States.{reject_state}
use Rattle.lalrpop_dfa.specs.Ascending.{Item, item_cmp, AreAscendingItems}
use Rattle.lalrpop_dfa.specs.ItemOrder.{item_eq}
use Rattle.lalrpop_dfa.specs.Internal.OrderLaws.{item_total, item_equiv}
use Rattle.lalrpop_dfa.specs.Split.{still_live, AreBefore}
use Rattle.lalrpop_dfa.proofs.FullSets.{less_place}
use Rattle.lalrpop_hir.proofs.SortedLists.{never_less}
use Rattle.lalrpop_build.proofs.TakenEdges.{item_same}
use Rattle.lalrpop_build.proofs.LiveSets.{reject_told, still_more}

-- ---- the item at a place
same_eq : (x y : Item) → x ≡ y → item_eq x y ≡ true
same_eq x y e = rw e (item_equiv.refl y)

-- the items before the place are before x, and the one at the place is not
module _ (items : List Item) (x : Item) (place : ℕ) (sorted : AreAscendingItems items) (before : AreBefore items place x) (next : (y : Item) → slice_get items place ≡ Some y → item_cmp y x ≢ Less) where
  -- x is there or nowhere
  standing : Contains items x → slice_get items place ≡ Some x
  standing (k, l, is) =
      let at : slice_get items k ≡ Some x = slice_get_read items (length items) k x refl l (sym is) in
      elim (cases_lt k place) [
        | inl below ↦ absurd (never_less item_total x x (before k x below at) refl)
        | inr above ↦ elim (cases_lt place k) [
          | inl later ↦
              (let y = get_or items place x in
              let here : slice_get items place ≡ Some y = slice_get-get_or items place x (omega arith) in
              let less : item_cmp y x ≡ Less = subst (λ z. item_cmp y z ≡ Less) is (Less-from_sorted item_cmp items place k x sorted later l) in
              absurd (next y here less))
          | inr same ↦ (let e : k ≡ place = omega arith in subst (λ j. slice_get items j ≡ Some x) e at)
        ]
      ]

  -- what is read there says whether x is among the items
  read_told : (o : Option (Bor Item)) (b : Bor Item) → b.now ≡ x → MatchOption o (length items ≤ place) (λ z. (place < length items) × HoldsAt (λ y. z.now ≡ y) items place)
      → IsTrue (option_eq (λ y z. item_eq y.now z.now) o (Some b)) ↔ Contains items x
  read_told None b is past = (
    λ h. cc,
    λ h. absurd (let l = slice_get_within items place x (standing h) in omega (arith, l, past)),
  )
  read_told (Some a) b is there =
      let at : slice_get items place ≡ Some a.now = slice_get_read items (length items) place a.now refl there.0 (there.1 a.now) in (
        λ h. (let e : a.now ≡ x = item_same a.now b.now h ∙ is in (place, there.0, get_or_from_slice_get items place x x (at ∙ ap (λ z. Some z) e))),
        λ h. same_eq a.now b.now (same_Some a.now x (sym at ∙ standing h) ∙ sym is),
      )

-- ---- the walk
-- the first patterns are walked: those that stay live are found, and the items before the place are before the REJECT
-- items of all others
pub record IsStillLive (items : List Item) (live_patterns : List ℕ) (k place : ℕ) (still : List ℕ) : Type 0 where
  pub found : still ≡ still_live items (take k live_patterns)
  pub within : place ≤ length items
  pub before : (j : ℕ) → k ≤ j → j < length live_patterns → AreBefore items place (get_or live_patterns j 0, reject_state)

-- what is before the REJECT item of a pattern is before those of later patterns
before_later : (items : List Item) (live_patterns : List ℕ) (k place : ℕ) → IsStrictlySortedBy nat_cmp live_patterns → AreBefore items place (get_or live_patterns k 0, reject_state)
    → (j : ℕ) → k + 1 ≤ j → j < length live_patterns → AreBefore items place (get_or live_patterns j 0, reject_state)
before_later items live_patterns k place rising before j l m n y below at =
    item_total.trans y (get_or live_patterns k 0, reject_state) (get_or live_patterns j 0, reject_state) (before n y below at)
    (less_place (get_or live_patterns k 0, reject_state) (get_or live_patterns j 0, reject_state) (below_from_sorted live_patterns k j 0 rising (omega arith) m))

pub still_live_more : (items : List Item) (live_patterns : List ℕ) (k place place2 : ℕ) (still still2 : List ℕ) (o : Option (Bor Item)) (b : Bor Item) (ne : Bool)
    → AreAscendingItems items → IsStrictlySortedBy nat_cmp live_patterns → IsStillLive items live_patterns k place still → k < length live_patterns
    → place2 ≤ length items → AreBefore items place2 (get_or live_patterns k 0, reject_state) → ((y : Item) → slice_get items place2 ≡ Some y → item_cmp y (get_or live_patterns k 0, reject_state) ≢ Less)
    → b.now ≡ (get_or live_patterns k 0, reject_state) → MatchOption o (length items ≤ place2) (λ z. (place2 < length items) × HoldsAt (λ y. z.now ≡ y) items place2)
    → ne ≡ not (option_eq (λ y z. item_eq y.now z.now) o (Some b)) → still2 ≡ still ++ cond ne (get_or live_patterns k 0 ∷ []) [] → IsStillLive items live_patterns (k + 1) place2 still2
still_live_more items live_patterns k place place2 still still2 o b ne sorted rising was l within before next is read tested grown =
    let i = get_or live_patterns k 0 in
    let e = option_eq (λ (y z : Bor Item). item_eq y.now z.now) o (Some b) in
    let told = reject_told items i e (read_told items (i, reject_state) place2 sorted before next o b is read) in
    record {
      found = still_more items live_patterns k i e still still2 was.found l refl told (grown ∙ ap (λ t. still ++ t) (ap (λ t. cond t (i ∷ []) []) tested ∙ flip i e));
      within = within;
      before = before_later items live_patterns k place2 rising before;
    }
  where
    flip : (i : ℕ) (e : Bool) → cond (not e) (i ∷ []) [] ≡ cond e [] (i ∷ [])
    flip i true = refl
    flip i false = refl
