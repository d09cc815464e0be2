-- A cache of the sets that a set leads to, while it is filled and cleared and while sets are added.
use Rattle.std.proofs.Common.{◌≡◌, ℕ, ◌+◌, ◌<◌, ◌≤◌, inl, inr, List, [], length, slice_set, get_or, refl, sym, ap, ◌∙◌, subst, arith, Option, Some, None}
use Rattle.std.specs.Prelude.{slice_get}
use Rattle.std.specs.List.{Contains}
use Rattle.std.specs.BTreeMap.{BTreeMap, get, IsEmpty, Updates}
use Rattle.std.specs.Ordering.{is_eq}
use Rattle.std.proofs.lemmas.Bool.{cases_Bool, cases_lt}
use Rattle.std.proofs.lemmas.List.{length-set, get_or_default}
use Rattle.std.specs.Cmp.{Equal-is}
use Rattle.lalrpop_nfa.specs.Graph.{Graph}
use Rattle.lalrpop_build.proofs.Marking.{set_at}
use Rattle.lalrpop_dfa.specs.Ascending.{Item}
use Rattle.lalrpop_build.specs.Internal.Subsets.{move}
use Rattle.lalrpop_build.specs.Internal.Transitions.{AreTransitions}
use Rattle.lalrpop_build.proofs.TransitionMoves.{leads_move}
use Rattle.lalrpop_build.specs.Internal.Expansion.{IsEdgeCache, IsClassCache, IsEmptyCache}
use Rattle.lalrpop_build.specs.Internal.TargetCache.{IsFound, AreNumbersIn, OnlyAdds, IsCacheOf}
use Rattle.lalrpop_build.specs.Internal.Stage.{Extends}
use Rattle.lalrpop_build.specs.Internal.ClassTransitions.{transitions_cmp}
use Rattle.lalrpop_build.specs.declared.build.target_cache.TargetCache.{TargetCache}
use Rattle.lalrpop_build.specs.declared.build.scratch.Transitions.{Transitions}
use Rattle.lalrpop_build.proofs.Adding.{transitions_exact}
use Rattle.lalrpop_build.proofs.ClassCache.{class_cache_more, number_of_equal}

-- only the classes from a place on have numbers
pub record AreNumbersFrom (i : ℕ) (used : List ℕ) (numbers : List (Option ℕ)) : Type 0 where
  pub within : (c : ℕ) → Contains used c → c < length numbers
  pub from : (c j : ℕ) → slice_get numbers c ≡ Some (Some j) → (k : ℕ) × ((i ≤ k) × (k < length used) × (get_or used k c ≡ c))

pub numbers_first : (used : List ℕ) (numbers : List (Option ℕ)) → AreNumbersIn used numbers → AreNumbersFrom 0 used numbers
numbers_first used numbers are = record { within = are.within; from = λ c j at. (let (k, l, is) = are.all c j at in (k, (omega arith, l, is))) }

pub numbers_then : (i d : ℕ) (used : List ℕ) (numbers : List (Option ℕ)) → i < length used → d ≡ get_or used i d → d < length numbers → AreNumbersFrom i used numbers → AreNumbersFrom (i + 1) used (slice_set numbers d None)
numbers_then i d used numbers l read within are = record {
  within = λ c h. (let below = are.within c h in omega (arith, below, length-set numbers d (None)));
  from = λ c j at. elim (set_at numbers d None c (Some j) within at) [
    | inl here ↦ (let clash : Some j ≡ None = here.1 in cc)
    | inr other ↦ (let (k, (low, high, is)) = are.from c j other.1 in
        elim (cases_lt i k) [
          | inl above ↦ (k, (omega (arith, above), high, is))
          | inr below ↦ absurd (let same : k ≡ i = omega (arith, below, low) in other.0 (sym is ∙ (ap (λ m. get_or used m c) same ∙ (get_or_default used i c d l ∙ sym read))))
        ])
  ];
}

pub numbers_last : (i : ℕ) (used : List ℕ) (numbers : List (Option ℕ)) → length used ≤ i → AreNumbersFrom i used numbers → IsEmptyCache numbers
numbers_last i used numbers end are c j at = (let (k, (low, high, is)) = are.from c j at in omega (arith, low, high, end))

-- ---- what it holds
pub cache_empty : (ns : List Graph) (s : List Item) (by_class : List Transitions) (cache : TargetCache) (sets : List (List Item)) → IsEmptyCache cache.by_class.items → IsEmpty cache.by_edges → IsCacheOf ns s by_class cache sets
cache_empty ns s by_class cache sets none empty = record {
  edges = λ e j v found are. (let clash : None ≡ Some j = sym (no_entry e) ∙ found in cc);
  classes = λ c j v t found at are. absurd (none c j found);
}
  where
    no_entry : (e : Transitions) → get transitions_cmp cache.by_edges e ≡ None
    no_entry e = rw empty refl

pub cache_grows : (ns : List Graph) (s : List Item) (by_class : List Transitions) (cache : TargetCache) (sets sets2 : List (List Item)) → Extends sets sets2 → IsCacheOf ns s by_class cache sets → IsCacheOf ns s by_class cache sets2
cache_grows ns s by_class cache sets sets2 more is = record {
  edges = λ e j v found are. more j (move ns s v) (is.edges e j v found are);
  classes = λ c j v t found at are. more j (move ns s v) (is.classes c j v t found at are);
}

-- a number that is found is that of the set to which the class leads
pub cache_found : (ns : List Graph) (s : List Item) (by_class : List Transitions) (cache : TargetCache) (sets : List (List Item)) (c j v : ℕ) → IsCacheOf ns s by_class cache sets → (t : Transitions) × ((slice_get by_class c ≡ Some t) × AreTransitions ns s v t.list.items)
    → IsFound by_class cache c j → slice_get sets j ≡ Some (move ns s v)
cache_found ns s by_class cache sets c j v is takes (inl equal) = number_of_equal ns s by_class cache.by_class.items sets c j v is.classes takes equal
cache_found ns s by_class cache sets c j v is (t, (at, are)) (inr (u, (there, found))) =
    let same : u ≡ t = (let f : Some u ≡ Some t = sym there ∙ at in cc) in
    is.edges u j v found (subst (λ (z : Transitions). AreTransitions ns s v z.list.items) (sym same) are)

-- a number is recorded for the edges of a class, then for the class
pub cache_inserted : (ns : List Graph) (s : List Item) (by_class : List Transitions) (old new : BTreeMap Transitions ℕ) (sets : List (List Item)) (c j v : ℕ) → IsEdgeCache ns s old sets
    → (t : Transitions) × ((slice_get by_class c ≡ Some t) × AreTransitions ns s v t.list.items) → slice_get sets j ≡ Some (move ns s v) → OnlyAdds old by_class c j new → IsEdgeCache ns s new sets
cache_inserted ns s by_class old new sets c j v is (t, (at, these)) to only e i w found are = elim (only e t i found at) [
  | inl was ↦ is e i w was are
  | inr (same, number) ↦
      (let moves : move ns s v ≡ move ns s w = leads_move ns s t.list.items v w these (subst (AreTransitions ns s w) (sym same) are) in
      rw (number, ← moves) to)
]

pub only_adds : (old new : BTreeMap Transitions ℕ) (key : Transitions) (by_class : List Transitions) (c j : ℕ) → Updates transitions_cmp old new key (Some j) → ((t : Transitions) → slice_get by_class c ≡ Some t → t.list.items ≡ key.list.items) → OnlyAdds old by_class c j new
only_adds old new key by_class c j u is e t i found at = elim (cases_Bool (is_eq (transitions_cmp key e))) [
  | inl same ↦
      (let there : Some j ≡ Some i = sym (u.0 e ∙ rw same refl) ∙ found in
      let number : i ≡ j = cc in
      inr (is t at ∙ transitions_exact key e ((Equal-is (transitions_cmp key e)).0 same), number))
  | inr apart ↦ inl (sym (u.0 e ∙ rw apart refl) ∙ found)
]

pub cache_noted : (ns : List Graph) (s : List Item) (by_class : List Transitions) (numbers : List (Option ℕ)) (sets : List (List Item)) (c j v : ℕ) → IsClassCache ns s by_class numbers sets → c < length numbers
    → (t : Transitions) × ((slice_get by_class c ≡ Some t) × AreTransitions ns s v t.list.items) → slice_get sets j ≡ Some (move ns s v) → IsClassCache ns s by_class (slice_set numbers c (Some j)) sets
cache_noted ns s by_class numbers sets c j v is within takes to = class_cache_more ns s by_class numbers sets [] 0 v c j sets [] is within takes (inl (to, refl, refl))
