-- The numbers of a cache, by class.
use Rattle.std.proofs.Common.{◌≡◌, ℕ, ◌<◌, inl, inr, List, length, slice_set, get_or, map, [], ◌∷◌, ◌++◌, refl, sym, ap, ◌∙◌, subst, arith, Some}
use Rattle.std.specs.Prelude.{slice_get, Option, None}
use Rattle.std.proofs.lemmas.Option.{slice_get_read, slice_get_within, get_or_from_slice_get}
use Rattle.std.proofs.lemmas.List.{get_or-map, length-map}
use Rattle.lalrpop_hir.specs.Range.{Range}
use Rattle.lalrpop_build.specs.Internal.Blocks.{Block}
use Rattle.lalrpop_nfa.specs.Graph.{Graph}
use Rattle.lalrpop_dfa.specs.Ascending.{Item}
use Rattle.lalrpop_build.specs.Internal.Expansion.{AddedTo, IsEmptyCache, IsClassCache, IsNumberOfEqual}
use Rattle.lalrpop_build.specs.Internal.Subsets.{move}
use Rattle.lalrpop_build.specs.Internal.Transitions.{AreTransitions}
use Rattle.lalrpop_build.specs.declared.transitions.Transition.{Transition}
use Rattle.lalrpop_build.specs.declared.build.scratch.Transitions.{Transitions}
use Rattle.lalrpop_build.proofs.Adding.{added_stays, added_at}
use Rattle.lalrpop_hir.proofs.Pushed.{pushed_cases}
use Rattle.lalrpop_build.proofs.Marking.{set_at}
use Rattle.lalrpop_build.proofs.TransitionMoves.{leads_move}

-- a class that is read from the list has the edges that its values take
pub class_takes : (ns : List Graph) (s : List Item) (by_class : List Transitions) (c v : ℕ) (t : Transitions) → t ≡ get_or by_class c t → (u : Transitions) × ((slice_get by_class c ≡ Some u) × AreTransitions ns s v u.list.items) → AreTransitions ns s v t.list.items
class_takes ns s by_class c v t is (u, (at, are)) =
    let read : slice_get by_class c ≡ Some t = slice_get_read by_class (length by_class) c t refl (slice_get_within by_class c u at) is in
    let same : u ≡ t = (let f : Some u ≡ Some t = sym at ∙ read in cc) in
    subst (λ (z : Transitions). AreTransitions ns s v z.list.items) same are

pub empty_cache_more : (cache new : List (Option ℕ)) → IsEmptyCache cache → new ≡ cache ++ None ∷ [] → IsEmptyCache new
empty_cache_more cache new none is c j at = elim (pushed_cases cache None c (Some j) (rw is at at)) [ inl before ↦ none c j before | inr here ↦ (let clash : Some j ≡ None = here.1 in cc) ]

-- one more number
pub class_cache_more : (ns : List Graph) (s : List Item) (by_class : List Transitions) (cache : List (Option ℕ)) (sets : List (List Item)) (origins : List (ℕ × ℕ)) (n v c j : ℕ) (sets2 : List (List Item)) (origins2 : List (ℕ × ℕ))
    → IsClassCache ns s by_class cache sets → c < length cache → (t : Transitions) × ((slice_get by_class c ≡ Some t) × AreTransitions ns s v t.list.items) → AddedTo sets origins n v (move ns s v) j sets2 origins2
    → IsClassCache ns s by_class (slice_set cache c (Some j)) sets2
class_cache_more ns s by_class cache sets origins n v c j sets2 origins2 k within (t, (here, these)) add d i w u at there are = elim (set_at cache c (Some j) d (Some i) within at) [
  | inl (place, number) ↦
      (let same : u ≡ t = (let f : Some u ≡ Some t = sym there ∙ (ap (slice_get by_class) place ∙ here) in cc) in
      let to : move ns s v ≡ move ns s w = leads_move ns s t.list.items v w these (subst (λ (z : Transitions). AreTransitions ns s w z.list.items) same are) in
      let is : j ≡ i = cc in
      rw (← is, ← to) (added_at sets origins n v (move ns s v) j sets2 origins2 add))
  | inr (other, was) ↦ added_stays sets origins n v (move ns s v) j sets2 origins2 add i (move ns s w) (k d i w u was there are)
]

-- the number of a class whose values take the same edges is that of the set to which these lead
pub number_of_equal : (ns : List Graph) (s : List Item) (by_class : List Transitions) (cache : List (Option ℕ)) (sets : List (List Item)) (c j v : ℕ) → IsClassCache ns s by_class cache sets → (t : Transitions) × ((slice_get by_class c ≡ Some t) × AreTransitions ns s v t.list.items)
    → IsNumberOfEqual by_class cache c j → slice_get sets j ≡ Some (move ns s v)
number_of_equal ns s by_class cache sets c j v classes (t, (here, these)) (d, x, y, (number, there, at, same)) =
    let is : t ≡ y = (let f : Some t ≡ Some y = sym here ∙ at in cc) in
    classes d j v x number there (subst (λ (ls : List Transition). AreTransitions ns s v ls) (ap (λ (z : Transitions). z.list.items) is ∙ sym same) these)

-- ---- block by block
abbrev range_of : Block → Range
range_of b = b.range

pub range_at : (blocks : List Block) (k : ℕ) (block : Block) → slice_get blocks k ≡ Some block → (k < length (map (λ (p : Block). p.range) blocks)) × (block.range ≡ get_or (map (λ (p : Block). p.range) blocks) k block.range)
range_at blocks k block at =
    let l : k < length blocks = slice_get_within blocks k block at in
    (omega (arith, l, length-map blocks range_of), sym (get_or-map range_of blocks k block block.range l ∙ ap range_of (get_or_from_slice_get blocks k block block at)))
