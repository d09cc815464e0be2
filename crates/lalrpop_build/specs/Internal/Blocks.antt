-- The values from boundary to boundary, where the boundaries are cells of an alphabet.
use Rattle.std.specs.Prelude.{ℕ, ◌-◌, Bool, false, nat_lt, cond, List, [], ◌∷◌, ◌++◌, length, slice_get, Option, Some, None}
use Rattle.std.proofs.Common.{get_or, zero, suc}
use Rattle.lalrpop_hir.specs.Range.{Range}
use Rattle.lalrpop_build.specs.declared.alphabet.Cell.{Cell}
use Rattle.lalrpop_build.specs.declared.build.scratch.Transitions.{Transitions}

-- values that lie in the same labels, and the class of the first of them
pub record Block : Type 0 where
  pub range : Range
  pub class : ℕ

abbrev pub no_cell : Cell
no_cell = record { first = 0; class = 0 }

-- the cell at the k-th boundary, and its first value
abbrev pub cell_at : List Cell → List ℕ → ℕ → Cell
cell_at cells boundaries k = get_or cells (get_or boundaries k 0) no_cell

abbrev pub first_of : List Cell → List ℕ → ℕ → ℕ
first_of cells boundaries k = (cell_at cells boundaries k).first

-- the values take some edge
abbrev pub has_edges : Option Transitions → Bool
has_edges None = false
has_edges (Some t) = nat_lt 0 (length t.list.items)

-- the values from a cell up to another one, if there are any and they take some edge
abbrev pub between : List Transitions → Cell → Cell → List Block
between by_class x y = cond (nat_lt x.first y.first) (cond (has_edges (slice_get by_class x.class)) (record { range = record { start = x.first; end = y.first - 1 }; class = x.class } ∷ []) []) []

-- the block up to the k-th boundary from the one before it
abbrev pub block_to : List Cell → List Transitions → List ℕ → ℕ → List Block
block_to cells by_class boundaries zero = []
block_to cells by_class boundaries (suc k) = between by_class (cell_at cells boundaries k) (cell_at cells boundaries (suc k))

-- the blocks up to the first k of the boundaries, and up to all of them
abbrev pub blocks_to : List Cell → List Transitions → List ℕ → ℕ → List Block
blocks_to cells by_class boundaries zero = []
blocks_to cells by_class boundaries (suc k) = blocks_to cells by_class boundaries k ++ block_to cells by_class boundaries k

abbrev pub blocks_of : List Cell → List Transitions → List ℕ → List Block
blocks_of cells by_class boundaries = blocks_to cells by_class boundaries (length boundaries)
