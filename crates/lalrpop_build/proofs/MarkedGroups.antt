-- Which groups are marked while their boundaries are added to a scratch, and while it is cleared.
use Rattle.std.proofs.Common.{◌≡◌, ℕ, zero, suc, ◌<◌, ◌⊎◌, inl, inr, Bool, true, false, List, [], ◌∷◌, ◌++◌, length, slice_set, sym, ◌∙◌, subst, arith}
use Rattle.std.specs.Prelude.{slice_get, Some, replicate, ◌↔◌}
use Rattle.std.specs.List.{Contains}
use Rattle.std.proofs.lemmas.List.{length-set}
use Rattle.std.proofs.lemmas.List.Elements.{Contains-append_left, Contains-append_right, Contains-append_cases, Contains-push, Contains-push_cases}
use Rattle.lalrpop_hir.proofs.Contained.{contains_none}
use Rattle.lalrpop_build.specs.Internal.Alphabet.{HasBoundary}
use Rattle.lalrpop_build.specs.declared.alphabet.Group.{Group}
use Rattle.lalrpop_build.proofs.Marking.{set_at}
use Rattle.lalrpop_build.specs.Internal.Scratch.{AreMarked, AreUnmarked, HoldMarked}
use Rattle.lalrpop_build.specs.declared.build.scratch.Boundaries.{Boundaries}

-- at first there are no marks
pub unmarked_first : (count : ℕ) → AreUnmarked (replicate count false)
unmarked_first zero n at = absurd cc
unmarked_first (suc count) zero at = absurd cc
unmarked_first (suc count) (suc n) at = unmarked_first count n at

pub marked_first : (count : ℕ) (marks : List Bool) (listed : List ℕ) → marks ≡ replicate count false → listed ≡ [] → AreMarked marks listed
marked_first count marks listed are none = rw (are, none) (record {
  within = λ k h. absurd (contains_none k h);
  all = λ n at. absurd (unmarked_first count n at);
})

-- no listed groups, no marks
pub unmarked_all : (marks : List Bool) (listed : List ℕ) → AreMarked marks listed → listed ≡ [] → AreUnmarked marks
unmarked_all marks listed marked none n at = contains_none n (rw none at (marked.all n at))

-- the last of the listed groups is within bounds
pub listed_within : (marks : List Bool) (listed listed2 : List ℕ) (i : ℕ) → AreMarked marks listed → listed ≡ listed2 ++ i ∷ [] → i < length marks
listed_within marks listed listed2 i marked is = marked.within i (rw is (Contains-push listed2 i))

-- it loses its mark
pub marked_less : (marks : List Bool) (listed listed2 : List ℕ) (i : ℕ) → AreMarked marks listed → listed ≡ listed2 ++ i ∷ [] → AreMarked (slice_set marks i false) listed2
marked_less marks listed listed2 i marked is = record {
  within = λ k h. (let below = marked.within k (rw is (Contains-append_left listed2 (i ∷ []) k h)) in omega (arith, below, length-set marks i false));
  all = λ n at. elim (set_at marks i false n true (marked.within i (rw is (Contains-push listed2 i))) at) [
    | inl here ↦ absurd (let clash : true ≡ false = here.1 in cc)
    | inr other ↦ elim (Contains-push_cases listed2 i n (rw is at (marked.all n other.1))) [ inl x ↦ x | inr same ↦ absurd (other.0 (sym same)) ]
  ];
}

-- a group is marked and listed
pub marked_more : (marks : List Bool) (listed : List ℕ) (i : ℕ) → AreMarked marks listed → i < length marks → AreMarked (slice_set marks i true) (listed ++ i ∷ [])
marked_more marks listed i marked within = record {
  within = λ k h. elim (Contains-push_cases listed i k h) [
    | inl x ↦ (let below = marked.within k x in omega (arith, below, length-set marks i true))
    | inr same ↦ omega (arith, same, within, length-set marks i true)
  ];
  all = λ n at. elim (set_at marks i true n true within at) [
    | inl here ↦ subst (Contains (listed ++ i ∷ [])) (sym here.0) (Contains-push listed i)
    | inr other ↦ Contains-append_left listed (i ∷ []) n (marked.all n other.1)
  ];
}

module _ (groups : List Group) (boundaries : Boundaries) (hold : HoldMarked groups boundaries) (i : ℕ) where
  -- the boundaries of a marked group are present
  pub boundaries_stand : slice_get boundaries.marks.items i ≡ Some true → (k : ℕ) → Contains boundaries.places.items k ↔ (Contains boundaries.places.items k ⊎ HasBoundary groups i k)
  boundaries_stand at k = (λ h. inl h, λ h. elim h [ inl x ↦ x | inr boundary ↦ hold.there i k at boundary ])

  module _ (group : Group) (here : slice_get groups i ≡ Some group) where
    -- those of another one are added
    pub boundaries_come : (places : List ℕ) → places ≡ boundaries.places.items ++ group.boundaries.items → (k : ℕ) → Contains places k ↔ (Contains boundaries.places.items k ⊎ HasBoundary groups i k)
    boundaries_come places is k = (
      λ h. elim (Contains-append_cases boundaries.places.items group.boundaries.items k (rw is at h)) [ inl x ↦ inl x | inr x ↦ inr (group, (here, x)) ],
      λ h. rw is (elim h [
        | inl x ↦ Contains-append_left boundaries.places.items group.boundaries.items k x
        | inr (other, (there, boundary)) ↦
            (let same : other ≡ group = (let f : Some other ≡ Some group = sym there ∙ here in cc) in
            Contains-append_right boundaries.places.items group.boundaries.items k (subst (λ (x : Group). Contains x.boundaries.items k) same boundary))
      ]),
    )

    pub hold_more : (new : Boundaries) → i < length groups → new.marks.items ≡ slice_set boundaries.marks.items i true → new.groups.items ≡ boundaries.groups.items ++ i ∷ [] → new.places.items ≡ boundaries.places.items ++ group.boundaries.items
        → HoldMarked groups new
    hold_more new within marks listed places =
        let below : i < length boundaries.marks.items = omega (arith, within, hold.count) in
        record {
          count = (rw marks (length-set boundaries.marks.items i true)) ∙ hold.count;
          marked = rw (marks, listed) (marked_more boundaries.marks.items boundaries.groups.items i hold.marked below);
          there = λ n k at boundary. elim (set_at boundaries.marks.items i true n true below (rw marks at at)) [
            | inl same ↦ (boundaries_come new.places.items places k).1 (inr (subst (λ j. HasBoundary groups j k) same.0 boundary))
            | inr other ↦ (boundaries_come new.places.items places k).1 (inl (hold.there n k other.1 boundary))
          ];
        }
