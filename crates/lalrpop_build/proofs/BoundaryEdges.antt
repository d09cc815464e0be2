-- The test edges of a set, from boundary to boundary.
use Rattle.std.proofs.Common.{◌≡◌, ℕ, ◌+◌, ◌<◌, ◌≤◌, ◌⊎◌, inl, inr, List, [], ◌∷◌, ◌++◌, length, map, get_or, refl, sym, ap, ◌∙◌, subst, Some, true, false, add-one}
use Rattle.std.specs.Prelude.{slice_get, Bool, IsTrue, ◌↔◌}
use Rattle.std.specs.List.{Contains}
use Rattle.std.proofs.lemmas.Bool.{cases_lt}
use Rattle.std.proofs.lemmas.List.{length_push}
use Rattle.lalrpop_hir.specs.Range.{Range}
use Rattle.lalrpop_nfa.specs.Graph.{Graph}
use Rattle.lalrpop_nfa.specs.Partition.{IsPartition}
use Rattle.lalrpop_build.specs.Internal.Alphabet.{AreCells}
use Rattle.lalrpop_build.specs.declared.alphabet.Cell.{Cell}
use Rattle.lalrpop_dfa.specs.Ascending.{Item}
use Rattle.lalrpop_build.specs.Internal.Given.{AreAutomata}
use Rattle.lalrpop_build.specs.Internal.Subsets.{move}
use Rattle.lalrpop_build.specs.Internal.Transitions.{AreTransitions}
use Rattle.lalrpop_build.specs.Items.{IsLeaving}
use Rattle.lalrpop_build.specs.Internal.Blocks.{Block, has_edges, blocks_to, blocks_of}
use Rattle.lalrpop_build.specs.Internal.Expansion.{AddedTo, IsEdging}
use Rattle.lalrpop_build.specs.Internal.ClassTransitions.{HaveTransitions}
use Rattle.lalrpop_build.specs.declared.build.scratch.Transitions.{Transitions}
use Rattle.lalrpop_hir.proofs.Members.{has_at, contains_from}
use Rattle.lalrpop_build.proofs.Builds.{edging_more}
use Rattle.lalrpop_build.proofs.BoundaryBlocks.{IsBefore, block, block_kept, block_passed, block_stands}
use Rattle.lalrpop_build.proofs.ClassCache.{range_at}

abbrev pub range_of : Block → Range
range_of b = b.range

-- two neighbouring boundaries with values between them, of a class that has edges
pub record IsBlock (cells : List Cell) (by_class : List Transitions) (boundaries : List ℕ) (k : ℕ) (x y : Cell) : Type 0 where
  pub within : k < length boundaries
  pub before : IsBefore cells boundaries k x
  pub at : slice_get cells (get_or boundaries k 0) ≡ Some y
  pub small : y.first ≤ 4294967296
  pub less : x.first < y.first
  pub some : has_edges (slice_get by_class x.class) ≡ true

pub is_block : (cells : List Cell) (count : ℕ) (by_class : List Transitions) (boundaries read : List ℕ) (k : ℕ) (x y : Cell) → AreCells cells count → read ≡ boundaries → k < length read → IsBefore cells boundaries k x → slice_get cells (get_or read k 0) ≡ Some y → x.first < y.first
    → has_edges (slice_get by_class x.class) ≡ true → IsBlock cells by_class boundaries k x y
is_block cells count by_class boundaries read k x y are same l before at less some =
    let here : slice_get cells (get_or boundaries k 0) ≡ Some y = subst (λ (ks : List ℕ). slice_get cells (get_or ks k 0) ≡ Some y) same at in
    record { within = subst (λ (ks : List ℕ). k < length ks) same l; before = before; at = here; small = (are.within (get_or boundaries k 0) y here).0; less = less; some = some }

-- there are values before a boundary
pub some_values : (x y : Cell) (none : Bool) → IsTrue none ↔ (y.first ≤ x.first) → none ≡ false → x.first < y.first
some_values x y none is some = elim (cases_lt x.first y.first) [ inl less ↦ less | inr above ↦ (let yes : none ≡ true = is.1 above in cc) ]

-- the cell at a boundary is the one before the next boundary
pub before_next : (cells : List Cell) (boundaries read : List ℕ) (k : ℕ) (y : Cell) → read ≡ boundaries → slice_get cells (get_or read k 0) ≡ Some y → IsBefore cells boundaries (k + 1) y
before_next cells boundaries read k y same at = rw add-one (subst (λ (ks : List ℕ). slice_get cells (get_or ks k 0) ≡ Some y) same at)

module _ (ns : List Graph) (s : List Item) (cells : List Cell) (by_class : List Transitions) (boundaries : List ℕ) where
  module _ (k : ℕ) (x y : Cell) (is : IsBlock cells by_class boundaries k x y) where
    more : blocks_to cells by_class boundaries (k + 1) ≡ blocks_to cells by_class boundaries k ++ block x y ∷ []
    more = block_kept cells by_class boundaries k x y is.before is.at is.small is.less is.some

    pub stands : slice_get (blocks_of cells by_class boundaries) (length (blocks_to cells by_class boundaries k)) ≡ Some (block x y)
    stands = block_stands cells by_class boundaries k (block x y) is.within more

    pub is_there : Contains (blocks_of cells by_class boundaries) (block x y)
    is_there = contains_from (blocks_of cells by_class boundaries) (block x y) (has_at (blocks_of cells by_class boundaries) (length (blocks_to cells by_class boundaries k)) (block x y) stands)

    -- the first of the values takes the edges of its class
    pub block_takes : HaveTransitions ns s by_class (blocks_of cells by_class boundaries) → (t : Transitions) × ((slice_get by_class x.class ≡ Some t) × AreTransitions ns s x.first t.list.items)
    block_takes have = have (length (blocks_to cells by_class boundaries k)) (block x y) stands

    pub edging_kept : AreAutomata ns → (sets0 : List (List Item)) (origins0 : List (ℕ × ℕ)) (n : ℕ) → slice_get sets0 n ≡ Some s → IsPartition (IsLeaving ns s) (map range_of (blocks_of cells by_class boundaries))
        → (j : ℕ) (sets : List (List Item)) (origins : List (ℕ × ℕ)) (tests : List (Range × ℕ)) (sets2 : List (List Item)) (origins2 : List (ℕ × ℕ)) (tests2 : List (Range × ℕ))
        → IsEdging ns sets0 origins0 n s (map range_of (blocks_of cells by_class boundaries)) (length (blocks_to cells by_class boundaries k)) sets origins tests
        → AddedTo sets origins n x.first (move ns s x.first) j sets2 origins2 → tests2 ≡ tests ++ ((block x y).range, j) ∷ []
        → IsEdging ns sets0 origins0 n s (map range_of (blocks_of cells by_class boundaries)) (length (blocks_to cells by_class boundaries (k + 1))) sets2 origins2 tests2
    edging_kept automata sets0 origins0 n here partition j sets origins tests sets2 origins2 tests2 h add new =
        let xs : List Range = map range_of (blocks_of cells by_class boundaries) in
        let p : ℕ = length (blocks_to cells by_class boundaries k) in
        let read = range_at (blocks_of cells by_class boundaries) p (block x y) stands in
        let long : p + 1 ≡ length (blocks_to cells by_class boundaries (k + 1)) = sym (ap length more ∙ length_push (blocks_to cells by_class boundaries k) (block x y)) in
        subst (λ q. IsEdging ns sets0 origins0 n s xs q sets2 origins2 tests2) long
        (edging_more ns automata sets0 origins0 n s xs partition here p j x.first (move ns s x.first) (block x y).range (block x y).range sets origins tests tests2 sets2 origins2 h read.0 read.1 refl refl refl add new)

  -- if there is no block the edges stay
  pub edging_passed : (read : List ℕ) (k : ℕ) (x y : Cell) (sets0 : List (List Item)) (origins0 : List (ℕ × ℕ)) (n : ℕ) (sets : List (List Item)) (origins : List (ℕ × ℕ)) (tests : List (Range × ℕ))
      → read ≡ boundaries → IsBefore cells boundaries k x → slice_get cells (get_or read k 0) ≡ Some y → (y.first ≤ x.first) ⊎ (has_edges (slice_get by_class x.class) ≡ false)
      → IsEdging ns sets0 origins0 n s (map range_of (blocks_of cells by_class boundaries)) (length (blocks_to cells by_class boundaries k)) sets origins tests
      → IsEdging ns sets0 origins0 n s (map range_of (blocks_of cells by_class boundaries)) (length (blocks_to cells by_class boundaries (k + 1))) sets origins tests
  edging_passed read k x y sets0 origins0 n sets origins tests same before at why h =
      subst (λ (bs : List Block). IsEdging ns sets0 origins0 n s (map range_of (blocks_of cells by_class boundaries)) (length bs) sets origins tests) (sym (block_passed cells by_class boundaries k x y before (subst (λ (ks : List ℕ). slice_get cells (get_or ks k 0) ≡ Some y) same at) why)) h
