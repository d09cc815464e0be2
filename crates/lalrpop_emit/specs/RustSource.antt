-- cases: proofs/Cases/RustSource.antt
-- The source file of a lexer in Rust.
use Rattle.std.specs.Prelude.{◌≡◌, ℕ, ◌<◌, Bool, List, [], ◌∷◌, ◌++◌, codes, decimal, if◌then◌else◌, IsFalse, Some, slice_get}
use Rattle.std.specs.List.{list_all, list_any}
use Rattle.std.specs.Str.{bytes_eq}
use Rattle.lalrpop_dense.specs.DenseTable.{TableNumbers}
use Rattle.lalrpop_emit.specs.Names.{IsIdentifier}
use Rattle.lalrpop_emit.specs.Ahead.{AheadNumbers}
use Rattle.lalrpop_emit.specs.NumberedRules.{NumberedRules}
use Rattle.lalrpop_emit.specs.CSource.{flags, is_narrow_ahead, listed}
use Rattle.lalrpop_emit.specs.declared.error.EmitError.{EmitError}
use Rattle.lalrpop_emit.specs.declared.error.EmitError.TheVariants.{BadVariant, OutOfMemory}
use Rattle.lalrpop_emit.specs.declared.rust_text.TheConstants.{HEAD, INTERFACE, DRIVER}

-- ---- names

-- the words that name nothing even after `r#`
abbrev pub reserved : List (List ℕ)
reserved = codes "_" ∷ codes "self" ∷ codes "super" ∷ codes "crate" ∷ codes "Self" ∷ []

-- after `r#` the name can be that of a variant
pub record IsVariant (name : List ℕ) : Type 0 where
  pub identifier : IsIdentifier name
  pub free : IsFalse (list_any (bytes_eq name) reserved)

-- the name k is the first that can't be that of a variant
pub record IsFirstBadVariant (names : List (List ℕ)) (k : ℕ) : Type 0 where
  pub name : List ℕ
  pub at : slice_get names k ≡ Some name
  pub bad : ¬ IsVariant name
  pub before : (j : ℕ) (n : List ℕ) → j < k → slice_get names j ≡ Some n → IsVariant n

-- the error of a source file in Rust is right
abbrev pub IsRustError : List (List ℕ) → EmitError → Type 0
IsRustError names (BadVariant k) = IsFirstBadVariant names k
IsRustError names OutOfMemory = Unit {0}
IsRustError names _ = ⊥

-- ---- the file

-- a line for each name, with a text before and after it
abbrev pub name_lines : List ℕ → List ℕ → List (List ℕ) → List ℕ
name_lines before behind [] = []
name_lines before behind (name ∷ names) = before ++ (name ++ (behind ++ name_lines before behind names))

-- `pub enum Kind`, with a variant for each name
unfoldable pub kind_enum : List (List ℕ) → List ℕ
kind_enum names = codes "pub enum Kind {\n" ++ (name_lines (codes "    r#") (codes ",\n") names ++ codes "}\n")

-- the type of cells: 16 bits if all fit
unfoldable pub cell_type : Bool → List ℕ
cell_type narrow = if narrow then codes "u16" else codes "u32"

-- a field that is a number, and one that is a list of numbers
unfoldable pub number_field : List ℕ → ℕ → List ℕ
number_field name n = name ++ (codes ": " ++ (decimal n ++ codes ",\n"))

unfoldable pub list_field : List ℕ → List ℕ → List ℕ
list_field name ns = name ++ (codes ": &[\n" ++ (listed 0 ns ++ codes "],\n"))

-- of the numbers of a table, those that tell the classes of characters
unfoldable pub table_text : TableNumbers → List ℕ
table_text t =
    codes "        Table {\n"
    ++ (list_field (codes "            blocks") t.blocks
    ++ (list_field (codes "            pages") t.pages
    ++ codes "        },\n"))

abbrev pub table_texts : List TableNumbers → List ℕ
table_texts [] = []
table_texts (t ∷ ts) = table_text t ++ table_texts ts

unfoldable pub ahead_text : AheadNumbers → List ℕ
ahead_text a =
    codes "        Ahead {\n"
    ++ (number_field (codes "            start") a.start
    ++ (number_field (codes "            width") a.width
    ++ (number_field (codes "            ends") a.ends
    ++ (number_field (codes "            waiting") a.waiting
    ++ (number_field (codes "            before") a.before
    ++ (list_field (codes "            cells") a.cells
    ++ codes "        },\n"))))))

abbrev pub ahead_texts : List AheadNumbers → List ℕ
ahead_texts [] = []
ahead_texts (a ∷ aheads) = ahead_text a ++ ahead_texts aheads

-- the variants of the kinds, and what they are called
unfoldable pub name_fields : List (List ℕ) → List ℕ
name_fields names =
    codes "    variants: &[\n"
    ++ (name_lines (codes "        Kind::r#") (codes ",\n") names
    ++ (codes "    ],\n    names: &[\n"
    ++ (name_lines (codes "        \"") (codes "\",\n") names ++ codes "    ],\n")))

-- `static NUMBERS`, with the numbers of the rules
unfoldable pub numbers_text : NumberedRules → List ℕ
numbers_text r =
    codes "#[rustfmt::skip]\nstatic NUMBERS: Numbers = Numbers {\n"
    ++ (name_fields r.names
    ++ (list_field (codes "    kinds") r.kinds
    ++ (list_field (codes "    skipped") (flags r.skips)
    ++ (list_field (codes "    first_actions") r.first_actions
    ++ (list_field (codes "    actions") r.actions
    ++ (codes "    tables: &[\n" ++ (table_texts r.tables
    ++ (codes "    ],\n    ahead: &[\n" ++ (ahead_texts r.ahead ++ codes "    ],\n};\n")))))))))

-- the whole file
unfoldable pub rust_file : NumberedRules → List ℕ
rust_file r =
    HEAD.now
    ++ (kind_enum r.names
    ++ (INTERFACE.now ++ (DRIVER.now
    ++ (codes "\ntype AheadCell = " ++ (cell_type (list_all is_narrow_ahead r.ahead) ++ (codes ";\n\n" ++ numbers_text r))))))
