-- The blocks from boundary to boundary, where the boundaries are cells of an alphabet in ascending order.
use Rattle.std.proofs.Common.{◌≡◌, ℕ, zero, suc, Bool, true, false, ap₂, append_assoc, add-one, ◌+◌, ◌-◌, ◌<◌, ◌≤◌, ◌⊎◌, inl, inr, ⊎_elim, List, [], ◌∷◌, ◌++◌, length, map, get_or, refl, sym, ap, ◌∙◌, subst, arith}
use Rattle.std.specs.Prelude.{nat_lt, slice_get, Some}
use Rattle.std.specs.List.{Contains}
use Rattle.std.specs.List.Sorted.{IsNonDecreasing}
use Rattle.std.proofs.lemmas.Bool.{cases_lt, cases_Bool, lt-ltb, le-ltb, ltb-true, ltb-false}
use Rattle.std.proofs.lemmas.List.{get_or_default, map-append, append-nil}
use Rattle.std.proofs.lemmas.List.Elements.{Contains-get_or, Contains-append_cases}
use Rattle.std.proofs.lemmas.Option.{slice_get-get_or, slice_get_cases, get_or_from_slice_get}
use Rattle.lalrpop_hir.specs.Range.{Range}
use Rattle.lalrpop_nfa.specs.Graph.{Graph}
use Rattle.lalrpop_nfa.specs.Partition.{IsCovered, IsPartition}
use Rattle.lalrpop_nfa.proofs.Cells.{BlocksBelow, IsBoundary, parts_none, parts_kept, parts_passed, zero_is_boundary}
use Rattle.lalrpop_nfa.proofs.Partition.{IsPartition-from_parts}
use Rattle.lalrpop_build.specs.Internal.Alphabet.{AreCells, IsInCell, IsFirstOf}
use Rattle.lalrpop_build.specs.declared.alphabet.Cell.{Cell}
use Rattle.lalrpop_dfa.specs.Ascending.{Item}
use Rattle.lalrpop_build.specs.Items.{IsLeaving}
use Rattle.lalrpop_build.specs.Internal.Scratch.{IsTaken, AreTaken}
use Rattle.lalrpop_build.specs.Internal.ClassTransitions.{AreBelow, IsLaidOut}
use Rattle.lalrpop_build.specs.Internal.Transitions.{IsTransition, AreTransitions}
use Rattle.lalrpop_build.specs.declared.transitions.Transition.{Transition}
use Rattle.lalrpop_build.specs.declared.build.scratch.Transitions.{Transitions}
use Rattle.lalrpop_build.specs.Internal.Blocks.{Block, no_cell, cell_at, first_of, has_edges, between, block_to, blocks_to, blocks_of}
use Rattle.lalrpop_hir.proofs.Contained.{contains_none, contains_only}
use Rattle.lalrpop_build.proofs.WorklistSteps.{nil_from}

-- a cell that is read at a boundary
pub first_is : (cells : List Cell) (boundaries : List ℕ) (k : ℕ) (x : Cell) → slice_get cells (get_or boundaries k 0) ≡ Some x → first_of cells boundaries k ≡ x.first
first_is cells boundaries k x h = ap (λ (y : Cell). y.first) (get_or_from_slice_get cells (get_or boundaries k 0) x no_cell h)

module _ (cells : List Cell) (count : ℕ) (are : AreCells cells count) (boundaries : List ℕ) (ascending : IsNonDecreasing boundaries) (below : AreBelow (length cells) boundaries) where
  boundary_within : (k : ℕ) → k < length boundaries → get_or boundaries k 0 < length cells
  boundary_within k l = below (get_or boundaries k 0) (Contains-get_or boundaries k 0 l)

  cell_there : (k : ℕ) → k < length boundaries → slice_get cells (get_or boundaries k 0) ≡ Some (get_or cells (get_or boundaries k 0) no_cell)
  cell_there k l = slice_get-get_or cells (get_or boundaries k 0) no_cell (boundary_within k l)

  pub firsts_rise : (i j : ℕ) → i ≤ j → j < length boundaries → first_of cells boundaries i ≤ first_of cells boundaries j
  firsts_rise i j l m =
      ⊎_elim
      (λ (less : get_or boundaries i 0 < get_or boundaries j 0).
      (let rise = are.rising (get_or boundaries i 0) (get_or boundaries j 0) (get_or cells (get_or boundaries i 0) no_cell) (get_or cells (get_or boundaries j 0) no_cell) (cell_there i (omega (arith, l, m))) (cell_there j m) less in omega arith))
      (λ (more : get_or boundaries j 0 ≤ get_or boundaries i 0).
      (let same : get_or boundaries i 0 ≡ get_or boundaries j 0 = omega (arith, more, ascending i j 0 l m) in
      let equal : first_of cells boundaries i ≡ first_of cells boundaries j = ap (λ k. (get_or cells k no_cell).first) same in omega arith))
      (cases_lt (get_or boundaries i 0) (get_or boundaries j 0))

  -- if the first value of the next boundary is greater, the first value of this one lies in its cell
  pub lies_in : (i : ℕ) (x : Cell) → i + 1 < length boundaries → slice_get cells (get_or boundaries i 0) ≡ Some x → x.first < first_of cells boundaries (i + 1) → IsInCell cells (get_or boundaries i 0) x.class x.first
  lies_in i x l at less =
      let first : first_of cells boundaries i ≡ x.first = first_is cells boundaries i x at in
      let apart : get_or boundaries i 0 < get_or boundaries (i + 1) 0 = ⊎_elim (λ (a : get_or boundaries i 0 < get_or boundaries (i + 1) 0). a)
      (λ (more : get_or boundaries (i + 1) 0 ≤ get_or boundaries i 0).
      (let same : get_or boundaries i 0 ≡ get_or boundaries (i + 1) 0 = omega (arith, more, ascending i (i + 1) 0 (omega arith) l) in
      let equal : first_of cells boundaries i ≡ first_of cells boundaries (i + 1) = ap (λ k. (get_or cells k no_cell).first) same in
      absurd (omega (arith, first, equal, less))))
      (cases_lt (get_or boundaries i 0) (get_or boundaries (i + 1) 0)) in
      let next : get_or boundaries i 0 + 1 < length cells = omega (arith, apart, boundary_within (i + 1) l) in
      let there : slice_get cells (get_or boundaries i 0 + 1) ≡ Some (get_or cells (get_or boundaries i 0 + 1) no_cell) = slice_get-get_or cells (get_or boundaries i 0 + 1) no_cell next in
      (x, get_or cells (get_or boundaries i 0 + 1) no_cell, (at, there, refl, omega arith, are.rising (get_or boundaries i 0) (get_or boundaries i 0 + 1) x (get_or cells (get_or boundaries i 0 + 1) no_cell) at there (omega arith)))

  module _ (ns : List Graph) (s : List Item) (by_class : List Transitions) (laid : IsLaidOut ns s cells boundaries by_class) where
    -- a label begins or is over at each boundary, and nowhere else
    place_of : (v : ℕ) → IsBoundary (IsLeaving ns s) v → (j : ℕ) × ((j < length boundaries) × (first_of cells boundaries j ≡ v))
    place_of v (r, (leaves, some, ends)) = found ((laid.ends v).0 (r, (leaves, (some, ends))))
      where
        found : (k : ℕ) × (Contains boundaries k × IsFirstOf cells k v) → (j : ℕ) × ((j < length boundaries) × (first_of cells boundaries j ≡ v))
        found (k, ((j, l, e), first)) =
            let place : get_or boundaries j 0 ≡ k = get_or_default boundaries j 0 k l ∙ e in
            let at : slice_get cells k ≡ Some (get_or cells (get_or boundaries j 0) no_cell) = ap (slice_get cells) (sym place) ∙ cell_there j l in
            (j, (l, (rw at at first)))

    boundary_of : (j : ℕ) → j < length boundaries → IsBoundary (IsLeaving ns s) (first_of cells boundaries j)
    boundary_of j l = (let (r, (leaves, (some, ends))) = (laid.ends (first_of cells boundaries j)).1 (get_or boundaries j 0, (Contains-get_or boundaries j 0 l, (rw (cell_there j l) refl))) in (r, (leaves, some, ends)))

    covered_of : (v : ℕ) (l : Transition) → IsTransition ns s v l.item l.to → IsCovered (IsLeaving ns s) v
    covered_of v l (g, r, (member, at, edge, over)) = (r, ((l.item, g, l.to, (member, at, edge)), over))

    transition_of : (v : ℕ) → IsCovered (IsLeaving ns s) v → (l : Transition) × IsTransition ns s v l.item l.to
    transition_of v (r, ((x, g, q, (member, at, edge)), over)) = (record { item = x; to = q }, (g, r, (member, at, edge, over)))

    -- nothing lies below the first boundary
    pub start : BlocksBelow (IsLeaving ns s) [] (first_of cells boundaries 0)
    start = ⊎_elim
        (λ (some : 0 < first_of cells boundaries 0).
        parts_passed (IsLeaving ns s) [] 0 (first_of cells boundaries 0) (parts_none (IsLeaving ns s))
        (λ v low high boundary. (let (j, (l, e)) = place_of v boundary in omega (arith, e, high, firsts_rise 0 j (omega arith) l)))
        (λ over. (let (j, (l, e)) = place_of 0 (zero_is_boundary (IsLeaving ns s) 0 refl over) in omega (arith, e, some, firsts_rise 0 j (omega arith) l)))
        (omega arith))
        (λ (none : first_of cells boundaries 0 ≤ 0). (let e : 0 ≡ first_of cells boundaries 0 = omega (arith, none) in subst (BlocksBelow (IsLeaving ns s) []) e (parts_none (IsLeaving ns s))))
        (cases_lt 0 (first_of cells boundaries 0))

    no_boundary_between : (i v : ℕ) → i + 1 < length boundaries → first_of cells boundaries i < v → v < first_of cells boundaries (i + 1) → ¬ IsBoundary (IsLeaving ns s) v
    no_boundary_between i v l low high boundary =
        let (j, (m, e)) = place_of v boundary in
        ⊎_elim (λ (before : j < i + 1). omega (arith, e, low, firsts_rise j i (omega (arith, before)) (omega (arith, l))))
        (λ (after : i + 1 ≤ j). omega (arith, e, high, firsts_rise (i + 1) j after m))
        (cases_lt j (i + 1))

    module _ (i : ℕ) (x : Cell) (t : Transitions) (ranges : List Range) (l : i + 1 < length boundaries) (at : slice_get cells (get_or boundaries i 0) ≡ Some x) (edges : slice_get by_class x.class ≡ Some t) (done : BlocksBelow (IsLeaving ns s) ranges (first_of cells boundaries i)) where
      takes : x.first < first_of cells boundaries (i + 1) → AreTransitions ns s x.first t.list.items
      takes less = laid.taken (get_or boundaries i 0) x.class x.first t (lies_in i x l at less) edges

      some_edge : (es : List Transition) → (es ≡ [] → ⊥) → (e : Transition) × Contains es e
      some_edge [] n = absurd (n refl)
      some_edge (e ∷ es) n = (e, (0, omega arith, refl))

      -- a cell whose values take some edge is a block
      pub kept : x.first < first_of cells boundaries (i + 1) → (t.list.items ≡ [] → ⊥) → BlocksBelow (IsLeaving ns s) (ranges ++ record { start = x.first; end = first_of cells boundaries (i + 1) - 1 } ∷ []) (first_of cells boundaries (i + 1))
      kept less some =
          let first : first_of cells boundaries i ≡ x.first = first_is cells boundaries i x at in
          let (e, member) = some_edge t.list.items some in
          subst (λ p. BlocksBelow (IsLeaving ns s) (ranges ++ record { start = p; end = first_of cells boundaries (i + 1) - 1 } ∷ []) (first_of cells boundaries (i + 1))) first
          (parts_kept (IsLeaving ns s) ranges (first_of cells boundaries i) (first_of cells boundaries (i + 1)) done (omega (arith, first, less)) (boundary_of i (omega (arith, l))) (λ v. no_boundary_between i v l)
          (subst (IsCovered (IsLeaving ns s)) (sym first) (covered_of x.first e ((takes less e).0 member))))

      -- the others are skipped
      pub passed : (first_of cells boundaries (i + 1) ≤ x.first) ⊎ (t.list.items ≡ []) → BlocksBelow (IsLeaving ns s) ranges (first_of cells boundaries (i + 1))
      passed why =
          let first : first_of cells boundaries i ≡ x.first = first_is cells boundaries i x at in
          let rise = firsts_rise i (i + 1) (omega arith) l in
          ⊎_elim
          (λ (less : x.first < first_of cells boundaries (i + 1)).
          elim why [
            | inl more ↦ absurd (omega (arith, less, more))
            | inr none ↦
                parts_passed (IsLeaving ns s) ranges (first_of cells boundaries i) (first_of cells boundaries (i + 1)) done (λ v. no_boundary_between i v l)
                (λ over. (let (e, taken) = transition_of x.first (subst (IsCovered (IsLeaving ns s)) first over) in contains_none e (rw none at ((takes less e).1 taken))))
                rise
          ])
          (λ (more : first_of cells boundaries (i + 1) ≤ x.first). (let same : first_of cells boundaries i ≡ first_of cells boundaries (i + 1) = omega (arith, more, first, rise) in subst (BlocksBelow (IsLeaving ns s) ranges) same done))
          (cases_lt x.first (first_of cells boundaries (i + 1)))

    -- after the last boundary no label is left
    pub finish : (i : ℕ) (ranges : List Range) → length boundaries ≤ i + 1 → (1 ≤ length boundaries → i + 1 ≤ length boundaries) → BlocksBelow (IsLeaving ns s) ranges (first_of cells boundaries i) → IsPartition (IsLeaving ns s) ranges
    finish i ranges past within done =
        IsPartition-from_parts (IsLeaving ns s) ranges (first_of cells boundaries i) done
        (λ v more boundary. (let (j, (l, e)) = place_of v boundary in
        let some : 1 ≤ length boundaries = omega (arith, l) in
        omega (arith, e, more, firsts_rise j i (omega (arith, l, past)) (omega (arith, within some)))))

-- the class has no edges, and has some
abbrev pub HasNone : List Transitions → ℕ → Type 0
HasNone by_class c = (t : Transitions) → slice_get by_class c ≡ Some t → t.list.items ≡ []

abbrev pub HasSome : List Transitions → ℕ → Type 0
HasSome by_class c = (t : Transitions) → slice_get by_class c ≡ Some t → t.list.items ≡ [] → ⊥

some_edges : (by_class : List Transitions) (c : ℕ) → has_edges (slice_get by_class c) ≡ true → HasSome by_class c
some_edges by_class c some t at none =
    let l : 0 < length t.list.items = ltb-true 0 (length t.list.items) (rw at at some) in
    omega (arith, l, ap length none)

no_edges : (by_class : List Transitions) (c : ℕ) → has_edges (slice_get by_class c) ≡ false → HasNone by_class c
no_edges by_class c none t at = nil_from t.list.items (let l : length t.list.items ≤ 0 = ltb-false 0 (length t.list.items) (rw at at none) in omega (arith, l))

-- one iteration, from boundary to boundary: a block is added, or none
abbrev IsKept : List Cell → List ℕ → List Transitions → ℕ → Cell → List Block → List Block → Type 0
IsKept cells boundaries by_class i x blocks new = (x.first < first_of cells boundaries (i + 1)) × HasSome by_class x.class × (new ≡ blocks ++ record { range = record { start = x.first; end = first_of cells boundaries (i + 1) - 1 }; class = x.class } ∷ [])

abbrev IsPassed : List Cell → List ℕ → List Transitions → ℕ → Cell → List Block → List Block → Type 0
IsPassed cells boundaries by_class i x blocks new = ((first_of cells boundaries (i + 1) ≤ x.first) ⊎ HasNone by_class x.class) × (new ≡ blocks)

abbrev range_of : Block → Range
range_of b = b.range

module _ (cells : List Cell) (count : ℕ) (are : AreCells cells count) (boundaries : List ℕ) (ascending : IsNonDecreasing boundaries) (below : AreBelow (length cells) boundaries) (by_class : List Transitions) (counted : length by_class ≡ count) (i : ℕ) (x : Cell) (blocks new : List Block) (l : i + 1 < length boundaries) (here : slice_get cells (get_or boundaries i 0) ≡ Some x) where
  class_within : x.class < length by_class
  class_within = omega (arith, (are.within (get_or boundaries i 0) x here).1, counted)

  edges : (t : Transitions) × (slice_get by_class x.class ≡ Some t)
  edges = elim (slice_get_cases by_class x.class).1 [ inl y ↦ (y.0, y.2) | inr past ↦ absurd (omega (arith, past.0, class_within)) ]

  turned : (ns : List Graph) (s : List Item) → IsLaidOut ns s cells boundaries by_class → IsKept cells boundaries by_class i x blocks new ⊎ IsPassed cells boundaries by_class i x blocks new
      → BlocksBelow (IsLeaving ns s) (map range_of blocks) (first_of cells boundaries i) → BlocksBelow (IsLeaving ns s) (map range_of new) (first_of cells boundaries (i + 1))
  turned ns s laid (inl (less, some, is)) done =
      subst (λ rs. BlocksBelow (IsLeaving ns s) rs (first_of cells boundaries (i + 1))) (sym (ap (map range_of) is ∙ map-append range_of blocks (record { range = record { start = x.first; end = first_of cells boundaries (i + 1) - 1 }; class = x.class } ∷ [])))
      (kept cells count are boundaries ascending below ns s by_class laid i x edges.0 (map range_of blocks) l here edges.1 done less (some edges.0 edges.1))
  turned ns s laid (inr (why, is)) done =
      subst (λ bs. BlocksBelow (IsLeaving ns s) (map range_of bs) (first_of cells boundaries (i + 1))) (sym is)
      (passed cells count are boundaries ascending below ns s by_class laid i x edges.0 (map range_of blocks) l here edges.1 done (elim why [ inl more ↦ inl more | inr none ↦ inr (none edges.0 edges.1) ]))

  turned_classes : IsKept cells boundaries by_class i x blocks new ⊎ IsPassed cells boundaries by_class i x blocks new → AreTaken cells by_class blocks → AreTaken cells by_class new
  turned_classes (inl (less, some, is)) had b h =
      let block : Block = record { range = record { start = x.first; end = first_of cells boundaries (i + 1) - 1 }; class = x.class } in
      elim (Contains-append_cases blocks (block ∷ []) b (subst (λ bs. Contains bs b) is h)) [
        | inl before ↦ had b before
        | inr one ↦
            (let same : block ≡ b = contains_only block b one in
            subst (IsTaken cells by_class) same (get_or boundaries i 0, edges.0, (lies_in cells count are boundaries ascending below i x l here less, edges.1, some edges.0 edges.1)))
      ]
  turned_classes (inr (why, is)) had b h = had b (subst (λ bs. Contains bs b) is h)

-- ---- the blocks up to a boundary
abbrev pub block : Cell → Cell → Block
block x y = record { range = record { start = x.first; end = y.first - 1 }; class = x.class }

-- the cell at the boundary before the k-th; before the first there is no value
abbrev pub IsBefore : List Cell → List ℕ → ℕ → Cell → Type 0
IsBefore cells boundaries zero x = 4294967296 ≤ x.first
IsBefore cells boundaries (suc k) x = slice_get cells (get_or boundaries k 0) ≡ Some x

between_kept : (by_class : List Transitions) (x y : Cell) → x.first < y.first → has_edges (slice_get by_class x.class) ≡ true → between by_class x y ≡ block x y ∷ []
between_kept by_class x y less some = rw (lt-ltb x.first y.first less, some) refl

between_passed : (by_class : List Transitions) (x y : Cell) → (y.first ≤ x.first) ⊎ (has_edges (slice_get by_class x.class) ≡ false) → between by_class x y ≡ []
between_passed by_class x y (inl more) = rw (le-ltb x.first y.first more) refl
between_passed by_class x y (inr none) = elim (cases_Bool (nat_lt x.first y.first)) [ inl t ↦ rw (t, none) refl | inr f ↦ rw f refl ]

seam : (xs : List Block) (b : Block) (rest : List Block) → slice_get (xs ++ b ∷ rest) (length xs) ≡ Some b
seam [] b rest = refl
seam (x ∷ xs) b rest = seam xs b rest

module _ (cells : List Cell) (by_class : List Transitions) (boundaries : List ℕ) where
  block_is : (k : ℕ) (x y : Cell) → slice_get cells (get_or boundaries k 0) ≡ Some x → slice_get cells (get_or boundaries (suc k) 0) ≡ Some y → block_to cells by_class boundaries (suc k) ≡ between by_class x y
  block_is k x y here next = ap₂ (between by_class) (get_or_from_slice_get cells (get_or boundaries k 0) x no_cell here) (get_or_from_slice_get cells (get_or boundaries (suc k) 0) y no_cell next)

  -- one more block, or none
  pub block_kept : (k : ℕ) (x y : Cell) → IsBefore cells boundaries k x → slice_get cells (get_or boundaries k 0) ≡ Some y → y.first ≤ 4294967296 → x.first < y.first → has_edges (slice_get by_class x.class) ≡ true
      → blocks_to cells by_class boundaries (k + 1) ≡ blocks_to cells by_class boundaries k ++ block x y ∷ []
  block_kept zero x y before here small less some = absurd (omega (arith, before, small, less))
  block_kept (suc k) x y before here small less some = rw add-one (ap (λ bs. blocks_to cells by_class boundaries (suc k) ++ bs) (block_is k x y before here ∙ between_kept by_class x y less some))

  pub block_passed : (k : ℕ) (x y : Cell) → IsBefore cells boundaries k x → slice_get cells (get_or boundaries k 0) ≡ Some y → (y.first ≤ x.first) ⊎ (has_edges (slice_get by_class x.class) ≡ false)
      → blocks_to cells by_class boundaries (k + 1) ≡ blocks_to cells by_class boundaries k
  block_passed zero x y before here why = refl
  block_passed (suc k) x y before here why = rw add-one (ap (λ bs. blocks_to cells by_class boundaries (suc k) ++ bs) (block_is k x y before here ∙ between_passed by_class x y why) ∙ append-nil (blocks_to cells by_class boundaries (suc k)))

  -- the blocks up to a boundary begin those up to a later one
  more_blocks : (j d : ℕ) → (rest : List Block) × (blocks_to cells by_class boundaries (j + d) ≡ blocks_to cells by_class boundaries j ++ rest)
  more_blocks j zero = (let e : j + 0 ≡ j = omega arith in ([], rw e (sym (append-nil (blocks_to cells by_class boundaries j)))))
  more_blocks j (suc d) =
      let (rest, is) = more_blocks j d in
      let e : j + suc d ≡ suc (j + d) = omega arith in
      (rest ++ block_to cells by_class boundaries (j + d), rw e (ap (λ bs. bs ++ block_to cells by_class boundaries (j + d)) is ∙ append_assoc (blocks_to cells by_class boundaries j) rest (block_to cells by_class boundaries (j + d))))

  -- where a block is the last up to a boundary
  pub block_stands : (k : ℕ) (b : Block) → k < length boundaries → blocks_to cells by_class boundaries (k + 1) ≡ blocks_to cells by_class boundaries k ++ b ∷ [] → slice_get (blocks_of cells by_class boundaries) (length (blocks_to cells by_class boundaries k)) ≡ Some b
  block_stands k b l is =
      let (rest, whole) = more_blocks (k + 1) (length boundaries - (k + 1)) in
      let e : k + 1 + (length boundaries - (k + 1)) ≡ length boundaries = omega (arith, l) in
      let all : blocks_of cells by_class boundaries ≡ blocks_to cells by_class boundaries k ++ b ∷ rest = sym (ap (blocks_to cells by_class boundaries) e) ∙ (whole ∙ (ap (λ bs. bs ++ rest) is ∙ append_assoc (blocks_to cells by_class boundaries k) (b ∷ []) rest)) in
      rw all (seam (blocks_to cells by_class boundaries k) b rest)

  -- the class of each block has edges
  pub has_some_to : (k : ℕ) (b : Block) → Contains (blocks_to cells by_class boundaries k) b → has_edges (slice_get by_class b.class) ≡ true
  has_some_to zero b h = absurd (contains_none b h)
  has_some_to (suc k) b h = elim (Contains-append_cases (blocks_to cells by_class boundaries k) (block_to cells by_class boundaries k) b h) [ inl before ↦ has_some_to k b before | inr here ↦ has_some_at k b here ]
    where
      has_some_by : (x y : Cell) (b : Block) (p e : Bool) → nat_lt x.first y.first ≡ p → has_edges (slice_get by_class x.class) ≡ e → Contains (between by_class x y) b → has_edges (slice_get by_class b.class) ≡ true
      has_some_by x y b true true less some h = (let same : block x y ≡ b = contains_only (block x y) b (rw (less, some) at h) in subst (λ (c : Block). has_edges (slice_get by_class c.class) ≡ true) same some)
      has_some_by x y b true false less none h = absurd (contains_none b (rw (less, none) at h))
      has_some_by x y b false e more some h = absurd (contains_none b (rw more at h))

      has_some_at : (k : ℕ) (b : Block) → Contains (block_to cells by_class boundaries k) b → has_edges (slice_get by_class b.class) ≡ true
      has_some_at zero b h = absurd (contains_none b h)
      has_some_at (suc k) b h = has_some_by (cell_at cells boundaries k) (cell_at cells boundaries (suc k)) b (nat_lt (first_of cells boundaries k) (first_of cells boundaries (suc k))) (has_edges (slice_get by_class (cell_at cells boundaries k).class)) refl refl h

-- ---- the blocks up to all boundaries
module _ (cells : List Cell) (count : ℕ) (are : AreCells cells count) (boundaries : List ℕ) (ascending : IsNonDecreasing boundaries) (below : AreBelow (length cells) boundaries) (by_class : List Transitions) (counted : length by_class ≡ count) where
  at_boundary : (k : ℕ) → k < length boundaries → slice_get cells (get_or boundaries k 0) ≡ Some (cell_at cells boundaries k)
  at_boundary k l = slice_get-get_or cells (get_or boundaries k 0) no_cell (below (get_or boundaries k 0) (Contains-get_or boundaries k 0 l))

  turn : (k : ℕ) → k + 1 < length boundaries → IsKept cells boundaries by_class k (cell_at cells boundaries k) (blocks_to cells by_class boundaries (k + 1)) (blocks_to cells by_class boundaries (k + 1 + 1))
      ⊎ IsPassed cells boundaries by_class k (cell_at cells boundaries k) (blocks_to cells by_class boundaries (k + 1)) (blocks_to cells by_class boundaries (k + 1 + 1))
  turn k l =
      let x : Cell = cell_at cells boundaries k in
      let y : Cell = cell_at cells boundaries (k + 1) in
      let before : IsBefore cells boundaries (k + 1) x = rw add-one (at_boundary k (omega (arith, l))) in
      let small : y.first ≤ 4294967296 = (are.within (get_or boundaries (k + 1) 0) y (at_boundary (k + 1) l)).0 in
      elim (cases_lt x.first y.first) [
        | inl less ↦ elim (cases_Bool (has_edges (slice_get by_class x.class))) [
          | inl some ↦ inl (less, some_edges by_class x.class some, block_kept cells by_class boundaries (k + 1) x y before (at_boundary (k + 1) l) small less some)
          | inr none ↦ inr (inr (no_edges by_class x.class none), block_passed cells by_class boundaries (k + 1) x y before (at_boundary (k + 1) l) (inr none))
        ]
        | inr more ↦ inr (inl more, block_passed cells by_class boundaries (k + 1) x y before (at_boundary (k + 1) l) (inl more))
      ]

  taken_to : (k : ℕ) → k < length boundaries → AreTaken cells by_class (blocks_to cells by_class boundaries (k + 1))
  taken_to zero l = λ b h. absurd (contains_none b h)
  taken_to (suc k) l =
      let l2 : k + 1 < length boundaries = omega (arith, l) in
      subst (λ n. AreTaken cells by_class (blocks_to cells by_class boundaries (n + 1))) (add-one k)
      (turned_classes cells count are boundaries ascending below by_class counted k (cell_at cells boundaries k) (blocks_to cells by_class boundaries (k + 1)) (blocks_to cells by_class boundaries (k + 1 + 1)) l2 (at_boundary k (omega (arith, l))) (turn k l2) (taken_to k (omega (arith, l))))

  taken_all : (n : ℕ) → n ≡ length boundaries → AreTaken cells by_class (blocks_to cells by_class boundaries n)
  taken_all zero e = λ b h. absurd (contains_none b h)
  taken_all (suc k) e = rw add-one at (taken_to k (omega (arith, e)))

  pub all_taken : AreTaken cells by_class (blocks_of cells by_class boundaries)
  all_taken = taken_all (length boundaries) refl

  module _ (ns : List Graph) (s : List Item) (laid : IsLaidOut ns s cells boundaries by_class) where
    below_to : (k : ℕ) → k < length boundaries → BlocksBelow (IsLeaving ns s) (map range_of (blocks_to cells by_class boundaries (k + 1))) (first_of cells boundaries k)
    below_to zero l = start cells count are boundaries ascending below ns s by_class laid
    below_to (suc k) l =
        let l2 : k + 1 < length boundaries = omega (arith, l) in
        subst (λ n. BlocksBelow (IsLeaving ns s) (map range_of (blocks_to cells by_class boundaries (n + 1))) (first_of cells boundaries n)) (add-one k)
        (turned cells count are boundaries ascending below by_class counted k (cell_at cells boundaries k) (blocks_to cells by_class boundaries (k + 1)) (blocks_to cells by_class boundaries (k + 1 + 1)) l2 (at_boundary k (omega (arith, l))) ns s laid (turn k l2) (below_to k (omega (arith, l))))

    whole_to : (n : ℕ) → n ≡ length boundaries → IsPartition (IsLeaving ns s) (map range_of (blocks_to cells by_class boundaries n))
    whole_to zero e = finish cells count are boundaries ascending below ns s by_class laid 0 [] (omega (arith, e)) (λ some. absurd (omega (arith, some, e))) (start cells count are boundaries ascending below ns s by_class laid)
    whole_to (suc k) e =
        finish cells count are boundaries ascending below ns s by_class laid k (map range_of (blocks_to cells by_class boundaries (suc k))) (omega (arith, e)) (λ some. omega (arith, e))
        (rw add-one at (below_to k (omega (arith, e))))

    pub blocks_partition : IsPartition (IsLeaving ns s) (map range_of (blocks_of cells by_class boundaries))
    blocks_partition = whole_to (length boundaries) refl
