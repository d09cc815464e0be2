-- The classes of cells, given by their signatures, determine which labels cover a value.
use Rattle.std.proofs.Common.{◌≡◌, ℕ, ◌+◌, ◌<◌, ◌≤◌, inl, inr, List, length, refl, ◌∙◌, subst, arith}
use Rattle.std.specs.Prelude.{slice_get, Some, ◌↔◌}
use Rattle.std.specs.List.{Contains}
use Rattle.std.proofs.lemmas.Bool.{cases_lt}
use Rattle.std.proofs.lemmas.Option.{slice_get_within}
use Rattle.lalrpop_hir.specs.Range.{Range}
use Rattle.lalrpop_build.specs.declared.alphabet.Cell.{Cell}
use Rattle.lalrpop_build.specs.declared.alphabet.Group.{Group}
use Rattle.lalrpop_build.specs.declared.alphabet.groups.Labels.{Labels}
use Rattle.lalrpop_build.specs.declared.alphabet.signatures.Signature.{Signature}
use Rattle.lalrpop_build.specs.Internal.Alphabet.{IsEndOf, IsInCell, IsFirstOf, HasClass, HasBoundary, AreCells, AreGroups}
use Rattle.lalrpop_build.specs.Internal.Grouped.{HasLabel, AreBoundaries, AreClasses}
use Rattle.lalrpop_build.specs.Internal.Signatures.{CoversIn, AreSigned, HaveEnds}
use Rattle.lalrpop_build.specs.Internal.Numbered.{AreClassed, AreAllClassed}
use Rattle.lalrpop_build.proofs.Marking.{at_contains, contains_at, at_within, not_after}

-- the numbers in the signatures are numbers of groups
pub lists_within : (boundaries : List ℕ) (lists : List Labels) (signatures : List Signature) (groups : List Group) → AreSigned boundaries signatures (λ v n. CoversIn lists n v) → length groups ≡ length lists
    → (k n : ℕ) (s : Signature) → slice_get signatures k ≡ Some s → Contains s.lists.items n → n < length groups
lists_within boundaries lists signatures groups signed same k n s at has =
    let (v, boundary) = at_within boundaries k (omega (arith, slice_get_within signatures k s at, signed.0)) in
    let (r, ((ls, (there, m)), low)) = (signed.1 k v s boundary at n).0 has in
    omega (arith, slice_get_within lists n ls there, same)

-- from the first value of a cell up to the first value of the next one, the same labels cover
module _ (boundaries : List ℕ) (lists : List Labels) (are_boundaries : AreBoundaries lists boundaries) (k u w v : ℕ) (here : slice_get boundaries k ≡ Some u) (next : slice_get boundaries (k + 1) ≡ Some w) (from : u ≤ v) (until : v < w) where
  -- no boundary lies between
  no_boundary : (x : ℕ) → Contains boundaries x → u < x → x < w → ⊥
  no_boundary x has low high =
      let (j, at) = contains_at boundaries x has in
      elim (cases_lt k j) [
        | inl after ↦ (let h = not_after boundaries are_boundaries.rising (k + 1) j w x next at (omega (arith, after)) in omega (arith, h, high))
        | inr past ↦ (let h = not_after boundaries are_boundaries.rising j k x u at here past in omega (arith, h, low))
      ]

  covers_first : (n : ℕ) → CoversIn lists n v → CoversIn lists n u
  covers_first n (r, (m, (low, high))) =
      let start : r.start ≤ u = elim (cases_lt u r.start) [
        | inl above ↦ absurd (no_boundary r.start (are_boundaries.all n r.start r m (omega (arith, low, high), inl refl)) above (omega (arith, low, until)))
        | inr at ↦ at
      ] in
      (r, (m, (start, omega (arith, from, high))))

  covers_all : (n : ℕ) → CoversIn lists n u → CoversIn lists n v
  covers_all n (r, (m, (low, high))) =
      let end : v ≤ r.end = elim (cases_lt r.end v) [
        | inl above ↦ absurd (no_boundary (r.end + 1) (are_boundaries.all n (r.end + 1) r m (omega (arith, low, high), inr refl)) (omega (arith, high)) (omega (arith, above, until)))
        | inr at ↦ at
      ] in
      (r, (m, (omega (arith, low, from), end)))

module _ (boundaries : List ℕ) (lists : List Labels) (signatures : List Signature) (cells : List Cell) (groups groups2 : List Group) (count : ℕ) (are_boundaries : AreBoundaries lists boundaries) (signed : AreSigned boundaries signatures (λ v n. CoversIn lists n v))
    (ends : HaveEnds lists boundaries groups) (all : AreAllClassed boundaries signatures groups cells groups2 count) where
  same_boundaries : (n k : ℕ) → HasBoundary groups2 n k ↔ HasBoundary groups n k
  same_boundaries = all.same_boundaries

  classed : AreClassed boundaries signatures cells groups2 count
  classed = all.classed

  len : length cells ≡ length boundaries
  len = all.all

  signature_at : (k : ℕ) (x : Cell) → slice_get cells k ≡ Some x → (s : Signature) × (slice_get signatures k ≡ Some s)
  signature_at k x at = at_within signatures k (omega (arith, slice_get_within cells k x at, len, signed.0))

  pub are_cells : AreCells cells count
  are_cells = record {
    rising = λ j k x y a b l. are_boundaries.rising j k x.first y.first (classed.firsts j x a) (classed.firsts k y b) l;
    within = λ k x at. (let (s, sig) = signature_at k x at in (are_boundaries.within x.first (at_contains boundaries k x.first (classed.firsts k x at)), (classed.classes k x s at sig).0));
  }

  pub are_groups : AreGroups groups2 cells count
  are_groups = record {
    boundaries_in = λ n k h. (let (r, (m, (v, (at, end)))) = (ends n k).0 ((same_boundaries n k).0 h) in omega (arith, slice_get_within boundaries k v at, len));
    classes_in = all.counted;
  }

  covers_class : (n k c v : ℕ) → IsInCell cells k c v → CoversIn lists n v ↔ HasClass groups2 n c
  covers_class n k c v (x, y, (at, next, is, from, until)) =
      let (s, sig) = signature_at k x at in
      let class = subst (λ d. HasClass groups2 n d ↔ Contains s.lists.items n) is ((classed.classes k x s at sig).1 n) in
      let first = classed.firsts k x at in
      let signature = signed.1 k x.first s first sig n in
      let second = classed.firsts (k + 1) y next in (
        λ h. class.1 (signature.1 (covers_first boundaries lists are_boundaries k x.first y.first v first second from until n h)),
        λ h. covers_all boundaries lists are_boundaries k x.first y.first v first second from until n (signature.0 (class.0 h)),
      )

  first_at : (k v : ℕ) → slice_get boundaries k ≡ Some v → IsFirstOf cells k v
  first_at k v boundary =
      let (x, at) = at_within cells k (omega (arith, slice_get_within boundaries k v boundary, len)) in
      let first = classed.firsts k x at in
      let same : x.first ≡ v = cc in
      rw at same

  boundary_at : (k u v : ℕ) → slice_get boundaries k ≡ Some u → IsFirstOf cells k v → u ≡ v
  boundary_at k u v boundary is =
      let (x, at) = at_within cells k (omega (arith, slice_get_within boundaries k u boundary, len)) in
      let first = classed.firsts k x at in
      let same : x.first ≡ v = rw at at is in
      cc

  end_boundaries : (n v : ℕ) → ((r : Range) × (HasLabel lists n r × IsEndOf r v)) ↔ ((k : ℕ) × (HasBoundary groups2 n k × IsFirstOf cells k v))
  end_boundaries n v = (
    λ (r, (m, end)). (let (k, at) = contains_at boundaries v (are_boundaries.all n v r m end) in (k, ((same_boundaries n k).1 ((ends n k).1 (r, (m, (v, (at, end))))), first_at k v at))),
    λ (k, (has, first)). (let (r, (m, (u, (at, end)))) = (ends n k).0 ((same_boundaries n k).0 has) in (r, (m, subst (IsEndOf r) (boundary_at k u v at first) end))),
  )

  pub are_classes : length groups ≡ length lists → AreClasses lists cells groups2
  are_classes same = record {
    same_length = all.same_length ∙ same;
    covers = λ n k c v l inside. covers_class n k c v inside;
    boundaries = λ n v l. end_boundaries n v;
  }
