-- Which classes are noted while edges are added to a scratch, and while it is cleared.
use Rattle.std.proofs.Common.{◌≡◌, ℕ, ◌<◌, inl, inr, List, [], ◌∷◌, ◌++◌, length, slice_set, sym, subst, arith}
use Rattle.std.specs.Prelude.{slice_get, Some}
use Rattle.std.specs.List.{Contains}
use Rattle.std.proofs.lemmas.List.{length-set}
use Rattle.std.proofs.lemmas.List.Elements.{Contains-append_left, Contains-push, Contains-push_cases}
use Rattle.lalrpop_build.specs.Internal.Scratch.{AreNoted}
use Rattle.lalrpop_build.specs.declared.build.scratch.Transitions.{Transitions}
use Rattle.lalrpop_build.proofs.Marking.{set_at}

-- another edge is added to a class that is noted
pub noted_again : (by_class : List Transitions) (used : List ℕ) (i : ℕ) (more : Transitions) → AreNoted by_class used → i < length by_class → Contains used i → AreNoted (slice_set by_class i more) used
noted_again by_class used i more noted within has = record {
  within = λ k h. (let below = noted.within k h in omega (arith, below, length-set by_class i more));
  all = λ c t at. elim (set_at by_class i more c t within at) [
    | inl here ↦ inr (subst (Contains used) (sym here.0) has)
    | inr other ↦ noted.all c t other.1
  ];
}

-- the first edge is added to a class, which is noted
pub noted_first : (by_class : List Transitions) (used used2 : List ℕ) (i : ℕ) (more : Transitions) → AreNoted by_class used → i < length by_class → used2 ≡ used ++ i ∷ [] → AreNoted (slice_set by_class i more) used2
noted_first by_class used used2 i more noted within is = rw is (noted_again by_class (used ++ i ∷ []) i more with_it within (Contains-push used i))
  where
    with_it : AreNoted by_class (used ++ i ∷ [])
    with_it = record {
      within = λ k h. elim (Contains-push_cases used i k h) [ inl x ↦ noted.within k x | inr same ↦ omega (arith, same, within) ];
      all = λ c t at. elim (noted.all c t at) [ inl none ↦ inl none | inr has ↦ inr (Contains-append_left used (i ∷ []) c has) ];
    }

-- the last of the noted classes loses its edges
pub noted_less : (by_class : List Transitions) (used used2 : List ℕ) (i : ℕ) (none : Transitions) → AreNoted by_class used → used ≡ used2 ++ i ∷ [] → none.list.items ≡ [] → AreNoted (slice_set by_class i none) used2
noted_less by_class used used2 i none noted is empty = record {
  within = λ k h. (let below = noted.within k (rw is (Contains-append_left used2 (i ∷ []) k h)) in omega (arith, below, length-set by_class i none));
  all = λ c t at. elim (set_at by_class i none c t (noted.within i (rw is (Contains-push used2 i))) at) [
    | inl here ↦ inl (rw here.1 empty)
    | inr other ↦ elim (noted.all c t other.1) [
      | inl bare ↦ inl bare
      | inr has ↦ elim (Contains-push_cases used2 i c (rw is at has)) [ inl x ↦ inr x | inr same ↦ absurd (other.0 (sym same)) ]
    ]
  ];
}

-- a class that has an edge is noted
pub has_noted : (by_class : List Transitions) (used : List ℕ) (c : ℕ) (t : Transitions) → AreNoted by_class used → slice_get by_class c ≡ Some t → (t.list.items ≡ [] → ⊥) → Contains used c
has_noted by_class used c t noted at some = elim (noted.all c t at) [ inl none ↦ absurd (some none) | inr has ↦ has ]

-- the last of the noted classes is within bounds
pub pushed_within : (by_class : List Transitions) (used used2 : List ℕ) (i : ℕ) → AreNoted by_class used → used ≡ used2 ++ i ∷ [] → i < length by_class
pushed_within by_class used used2 i noted is = noted.within i (rw is (Contains-push used2 i))
