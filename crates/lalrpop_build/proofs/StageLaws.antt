-- The construction of an automaton, while sets are added and numbers are found.
use Rattle.std.proofs.Common.{◌≡◌, ℕ, ◌+◌, ◌<◌, ◌≤◌, ◌⊎◌, map, false, inl, inr, List, [], ◌∷◌, ◌++◌, ◌-◌, length, get_or, slice_set, refl, sym, ap, ◌∙◌, subst, arith, Option, Some, None, true}
use Rattle.std.specs.Prelude.{slice_get, Result}
use Rattle.std.proofs.lemmas.List.{length-set}
use Rattle.std.proofs.lemmas.Option.{slice_get_within, slice_get_read}
use Rattle.std.specs.Result.{IfOk}
use Rattle.std.specs.declared.alloc.AllocError.{AllocError}
use Rattle.std.proofs.lemmas.Result.{IfOk-weaker}
use Rattle.lalrpop_dfa.specs.Internal.Written.{Written}
use Rattle.lalrpop_build.specs.declared.alphabet.Cell.{Cell}
use Rattle.lalrpop_build.proofs.Marking.{set_at}
use Rattle.lalrpop_dfa.specs.Ascending.{Item}
use Rattle.lalrpop_build.specs.Internal.Subsets.{move}
use Rattle.lalrpop_build.specs.Internal.Transitions.{AreTransitions}
use Rattle.lalrpop_build.specs.Internal.Blocks.{has_edges, blocks_to, blocks_of}
use Rattle.lalrpop_build.specs.Internal.Labelled.{Labelled}
use Rattle.lalrpop_build.specs.Internal.TargetCache.{AreNumbersIn, OnlyAdds, IsCacheOf}
use Rattle.lalrpop_build.specs.Internal.Stage.{Stage, stage, IsExpansion, Extends, IsSameRow, IsTarget, IsBlockDone}
use Rattle.lalrpop_build.specs.Internal.Expansion.{AddedTo, IsAdded, IsEdging}
use Rattle.lalrpop_build.specs.declared.build.sets.Sets.{Sets}
use Rattle.lalrpop_build.specs.declared.build.target_cache.TargetCache.{TargetCache}
use Rattle.lalrpop_build.specs.declared.build.scratch.Scratch.{Scratch}
use Rattle.lalrpop_build.specs.declared.build.scratch.Transitions.{Transitions}
use Rattle.lalrpop_build.specs.Internal.Alphabet.{AreCells}
use Rattle.lalrpop_build.specs.Internal.Given.{AreAutomata}
use Rattle.lalrpop_nfa.specs.Partition.{IsPartition}
use Rattle.lalrpop_build.specs.Items.{IsLeaving}
use Rattle.lalrpop_build.proofs.Adding.{added_stays}
use Rattle.lalrpop_build.proofs.Noted.{has_noted}
use Rattle.lalrpop_build.proofs.BoundaryBlocks.{IsBefore}
use Rattle.lalrpop_build.proofs.BoundaryEdges.{range_of, is_block, edging_kept, edging_passed}
use Rattle.lalrpop_build.proofs.CacheLaws.{cache_grows, cache_inserted, cache_noted}

-- a class with edges has a list of them
edges_listed : (by_class : List Transitions) (c : ℕ) (o : Option Transitions) → slice_get by_class c ≡ o → has_edges o ≡ true → (t : Transitions) × ((slice_get by_class c ≡ Some t) × (t.list.items ≡ [] → ⊥))
edges_listed by_class c None at some = absurd (let clash : false ≡ true = some in cc)
edges_listed by_class c (Some t) at some = (t, (at, λ none. (let clash : false ≡ true = (rw none at some) in cc)))

-- only noted classes have numbers
pub expansion_numbers : (a : Labelled) (n : ℕ) (sets : List (List Item)) (number : ℕ) (scratch : Scratch) (cache : TargetCache) → IsExpansion a n sets number scratch cache → AreNumbersIn scratch.edges.used.items cache.by_class.items
expansion_numbers a n sets number scratch cache is = record {
  within = λ c h. (let below = is.scratch_is.tidy.noted.within c h in omega (arith, below, is.count));
  all = λ c j at.
      let (t, (there, some)) = edges_listed scratch.edges.lists.items c (slice_get scratch.edges.lists.items c) refl (is.some c j at) in
      has_noted scratch.edges.lists.items scratch.edges.used.items c t is.scratch_is.tidy.noted there some;
}

-- sets are added, and the number's set stays
pub expansion_grows : (a : Labelled) (n : ℕ) (sets sets2 : List (List Item)) (number : ℕ) (scratch : Scratch) (cache : TargetCache) (s : List Item) → IsExpansion a n sets number scratch cache → slice_get sets number ≡ Some s → Extends sets sets2
    → IsExpansion a n sets2 number scratch cache
expansion_grows a n sets sets2 number scratch cache s is here more = record {
  automata_are = is.automata_are;
  same_len = is.same_len;
  scratch_is = is.scratch_is;
  count = is.count;
  some = is.some;
  cache_is = λ t at.
      let same : s ≡ t = (let f : Some s ≡ Some t = sym (more number s here) ∙ at in cc) in
      subst (λ u. IsCacheOf a.graphs u scratch.edges.lists.items cache sets2) same (cache_grows a.graphs s scratch.edges.lists.items cache sets sets2 more (is.cache_is s here));
}

module _ (a : Labelled) (n : ℕ) (sets : List (List Item)) (number : ℕ) (scratch : Scratch) (cache cache2 : TargetCache) (s : List Item) (is : IsExpansion a n sets number scratch cache) (here : slice_get sets number ≡ Some s)
    (c j v : ℕ) (takes : (t : Transitions) × ((slice_get scratch.edges.lists.items c ≡ Some t) × AreTransitions a.graphs s v t.list.items)) (to : slice_get sets j ≡ Some (move a.graphs s v)) where
  only : (t : List Item) → slice_get sets number ≡ Some t → IsCacheOf a.graphs s scratch.edges.lists.items cache2 sets → IsCacheOf a.graphs t scratch.edges.lists.items cache2 sets
  only t at cache_of = (let same : s ≡ t = (let f : Some s ≡ Some t = sym here ∙ at in cc) in subst (λ u. IsCacheOf a.graphs u scratch.edges.lists.items cache2 sets) same cache_of)

  -- a number that was found is recorded for the edges of the class
  pub expansion_inserted : cache2.by_class.items ≡ cache.by_class.items → OnlyAdds cache.by_edges scratch.edges.lists.items c j cache2.by_edges → IsExpansion a n sets number scratch cache2
  expansion_inserted same adds = record {
    automata_are = is.automata_are;
    same_len = is.same_len;
    scratch_is = is.scratch_is;
    count = ap length same ∙ is.count;
    some = λ d i at. is.some d i (rw same at at);
    cache_is = λ t at. only t at (record {
      edges = cache_inserted a.graphs s scratch.edges.lists.items cache.by_edges cache2.by_edges sets c j v (is.cache_is s here).edges takes to adds;
      classes = λ d i w u found there are. (is.cache_is s here).classes d i w u (rw same at found) there are;
    });
  }

  within : c < length cache.by_class.items
  within = (let (t, (at, are)) = takes in omega (arith, is.count, slice_get_within scratch.edges.lists.items c t at))

  -- and for the class
  pub expansion_noted : has_edges (slice_get scratch.edges.lists.items c) ≡ true → cache2.by_class.items ≡ slice_set cache.by_class.items c (Some j) → cache2.by_edges ≡ cache.by_edges → IsExpansion a n sets number scratch cache2
  expansion_noted edges notes same = record {
    automata_are = is.automata_are;
    same_len = is.same_len;
    scratch_is = is.scratch_is;
    count = ap length notes ∙ (length-set cache.by_class.items c (Some j) ∙ is.count);
    some = λ d i at. elim (set_at cache.by_class.items c (Some j) d (Some i) within (rw notes at at)) [
      | inl here2 ↦ subst (λ e. has_edges (slice_get scratch.edges.lists.items e) ≡ true) (sym here2.0) edges
      | inr other ↦ is.some d i other.1
    ];
    cache_is = λ t at. only t at (record {
      edges = λ e i w found are. (is.cache_is s here).edges e i w (rw same at found) are;
      classes = λ d i w u found there are. cache_noted a.graphs s scratch.edges.lists.items cache.by_class.items sets c j v (is.cache_is s here).classes within takes to d i w u (rw notes at found) there are;
    });
  }

-- a number that the cache has
pub number_read : (numbers : List (Option ℕ)) (c j : ℕ) (o : Option ℕ) → c < length numbers → o ≡ get_or numbers c o → o ≡ Some j → slice_get numbers c ≡ Some (Some j)
number_read numbers c j o l is some = rw some at (slice_get_read numbers (length numbers) c o refl l is)

-- ---- a target
pub target_of_found : (a : Labelled) (ps : List ℕ) (sets : Sets) (number : ℕ) (scratch : Scratch) (w : Written) (s : List Item) (v j : ℕ) → slice_get sets.kernels.list j ≡ Some (move a.graphs s v)
    → IsTarget (stage a ps sets number scratch w) s v j (stage a ps sets number scratch w)
target_of_found a ps sets number scratch w s v j to = record {
  added = inl (to, refl, refl);
  same = record { automata = refl; precedences = refl; number = refl; place = refl; rows = refl; boundaries = refl; by_class = refl };
  tests = refl;
}

pub target_of_added : (a : Labelled) (ps : List ℕ) (sets sets2 : Sets) (number : ℕ) (scratch : Scratch) (w : Written) (s : List Item) (o : ℕ × ℕ) (v j : ℕ) → o ≡ (number, v) → IsAdded sets o (move a.graphs s o.1) j sets2
    → IsTarget (stage a ps sets number scratch w) s v j (stage a ps sets2 number scratch w)
target_of_added a ps sets sets2 number scratch w s o v j is added = record {
  added = subst (λ (p : ℕ × ℕ). AddedTo sets.kernels.list sets.origins.items p.0 p.1 (move a.graphs s p.1) j sets2.kernels.list sets2.origins.items) is added.0;
  same = record { automata = refl; precedences = refl; number = refl; place = added.1; rows = refl; boundaries = refl; by_class = refl };
  tests = refl;
}

pub target_if_added : (a : Labelled) (ps : List ℕ) (sets sets2 : Sets) (number : ℕ) (scratch : Scratch) (w : Written) (s : List Item) (o : ℕ × ℕ) (v : ℕ) (r : Result ℕ AllocError) → o ≡ (number, v)
    → IfOk r (λ j. IsAdded sets o (move a.graphs s o.1) j sets2) → IfOk r (λ j. IsTarget (stage a ps sets number scratch w) s v j (stage a ps sets2 number scratch w))
target_if_added a ps sets sets2 number scratch w s o v r is added = IfOk-weaker r (λ (j : ℕ). IsAdded sets o (move a.graphs s o.1) j sets2) (λ (j : ℕ). IsTarget (stage a ps sets number scratch w) s v j (stage a ps sets2 number scratch w))
    (λ j h. target_of_added a ps sets sets2 number scratch w s o v j is h) added

-- the edge of a block is written
pub block_written : (e : Stage) (s : List Item) (x y : Cell) (a : Labelled) (ps : List ℕ) (sets : Sets) (number : ℕ) (scratch : Scratch) (w w2 : Written) (j : ℕ) → has_edges (slice_get e.by_class x.class) ≡ true
    → IsTarget e s x.first j (stage a ps sets number scratch w) → w2.rows ≡ w.rows → w2.tests ≡ w.tests ++ (record { start = x.first; end = y.first - 1 }, j) ∷ [] → IsBlockDone e s x y (stage a ps sets number scratch w2)
block_written e s x y a ps sets number scratch w w2 j some to rows tests = record {
  same = record { automata = to.same.automata; precedences = to.same.precedences; number = to.same.number; place = to.same.place; rows = rows ∙ to.same.rows; boundaries = to.same.boundaries; by_class = to.same.by_class };
  cases = inr (j, record { some = some; added = to.added; tests = tests ∙ ap (λ ts. ts ++ (record { start = x.first; end = y.first - 1 }, j) ∷ []) to.tests });
}

pub same_then : (e e2 e3 : Stage) → IsSameRow e e2 → IsSameRow e2 e3 → IsSameRow e e3
same_then e e2 e3 a b = record {
  automata = b.automata ∙ a.automata;
  precedences = b.precedences ∙ a.precedences;
  number = b.number ∙ a.number;
  place = b.place ∙ a.place;
  rows = b.rows ∙ a.rows;
  boundaries = b.boundaries ∙ a.boundaries;
  by_class = b.by_class ∙ a.by_class;
}

-- the next block is done: the edges are written up to the next boundary
module _ (e e1 e2 : Stage) (s : List Item) (count k : ℕ) (x y : Cell) (automata : AreAutomata e.automata.graphs) (sound : AreCells e.automata.alphabet.cells count) (here : slice_get e.kernels.list e.number ≡ Some s)
    (l : k < length e.boundaries) (before : IsBefore e.automata.alphabet.cells e.boundaries k x) (at : slice_get e.automata.alphabet.cells (get_or e.boundaries k 0) ≡ Some y) (same1 : IsSameRow e e1) where
  -- no values, or no edges
  pub block_passed_by : (y.first ≤ x.first) ⊎ (has_edges (slice_get e.by_class x.class) ≡ false) → IsEdging e.automata.graphs e.kernels.list e.origins e.number s (map range_of (blocks_of e.automata.alphabet.cells e.by_class e.boundaries)) (length (blocks_to e.automata.alphabet.cells e.by_class e.boundaries k)) e1.kernels.list e1.origins e1.written.tests
      → IsEdging e.automata.graphs e.kernels.list e.origins e.number s (map range_of (blocks_of e.automata.alphabet.cells e.by_class e.boundaries)) (length (blocks_to e.automata.alphabet.cells e.by_class e.boundaries (k + 1))) e1.kernels.list e1.origins e1.written.tests
  block_passed_by why h = edging_passed e.automata.graphs s e.automata.alphabet.cells e.by_class e.boundaries e.boundaries k x y e.kernels.list e.origins e.number e1.kernels.list e1.origins e1.written.tests refl before at why h

  module _ (ranges : IsPartition (IsLeaving e.automata.graphs s) (map range_of (blocks_of e.automata.alphabet.cells e.by_class e.boundaries))) (less : x.first < y.first) where
    pub block_goes_on : IsEdging e.automata.graphs e.kernels.list e.origins e.number s (map range_of (blocks_of e.automata.alphabet.cells e.by_class e.boundaries)) (length (blocks_to e.automata.alphabet.cells e.by_class e.boundaries k)) e1.kernels.list e1.origins e1.written.tests
        → IsBlockDone e1 s x y e2
        → IsEdging e.automata.graphs e.kernels.list e.origins e.number s (map range_of (blocks_of e.automata.alphabet.cells e.by_class e.boundaries)) (length (blocks_to e.automata.alphabet.cells e.by_class e.boundaries (k + 1))) e2.kernels.list e2.origins e2.written.tests
    block_goes_on h done = elim done.cases [
      | inl (none, sets, origins, tests) ↦
          rw (sets, origins, tests) (block_passed_by (inr (rw same1.by_class at none)) h)
      | inr (j, to) ↦
          (let some : has_edges (slice_get e.by_class x.class) ≡ true = rw same1.by_class at to.some in
          let block = is_block e.automata.alphabet.cells count e.by_class e.boundaries e.boundaries k x y sound refl l before at less some in
          edging_kept e.automata.graphs s e.automata.alphabet.cells e.by_class e.boundaries k x y block automata e.kernels.list e.origins e.number here ranges j e1.kernels.list e1.origins e1.written.tests e2.kernels.list e2.origins e2.written.tests h
          (rw (same1.automata, same1.number) at to.added) to.tests)
    ]

-- the number's set stays where it is
pub done_keeps : (e1 e2 : Stage) (s : List Item) (x y : Cell) (n : ℕ) → IsBlockDone e1 s x y e2 → slice_get e1.kernels.list n ≡ Some s → slice_get e2.kernels.list n ≡ Some s
done_keeps e1 e2 s x y n done here = elim done.cases [
  | inl (none, sets, origins, tests) ↦ rw sets here
  | inr (j, to) ↦ added_stays _ _ _ _ _ _ _ _ to.added n s here
]
