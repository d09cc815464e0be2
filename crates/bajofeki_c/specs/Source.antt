-- cases: proofs/Cases/Source.antt
-- A lexer as a source file, into an array.
use Rattle.std.specs.Prelude.{◌≡◌, ◌⊎◌, List, ℕ, Result, Ok, Err}
use Rattle.std.specs.List.{All}
use Rattle.lalrpop_emit.specs.CSource.{c_file}
use Rattle.lalrpop_emit.specs.Names.{IsIdentifier}
use Rattle.lalrpop_emit.specs.RustSource.{IsVariant, rust_file}
use Rattle.bajofeki_c.specs.Page.{IsNone}
use Rattle.bajofeki_c.specs.Rules.{IsWritten}
use Rattle.bajofeki_c.specs.declared.held.BuildError.{BuildError}
use Rattle.bajofeki_c.specs.declared.held.BuiltLexer.{BuiltLexer}
use Rattle.bajofeki_c.specs.declared.held.Held.{Held}
use Rattle.bajofeki_c.specs.declared.page.Page.{Page}

-- the file is written, as much as fits, if its names are good; if they aren't, nothing is. Memory can be refused for it
abbrev pub IsSource : Type 0 → List ℕ → List ℕ → Page → List ℕ → Type 0
IsSource Good file before page after =
    (Good × ((page.code ≡ 0) × IsWritten file before after page.length)) ⊎ ((¬ Good × IsNone 1 before page after) ⊎ IsNone 7 before page after)

-- the lexer in C, whose names begin with the prefix; none if there is no lexer
abbrev pub IsCSourceBy : Result BuiltLexer BuildError → List ℕ → List ℕ → Page → List ℕ → Type 0
IsCSourceBy (Ok l) prefix before page after = IsSource (IsIdentifier prefix) (c_file prefix l.numbers) before page after
IsCSourceBy (Err e) prefix before page after = IsNone 9 before page after

abbrev pub IsCSource : Held → List ℕ → List ℕ → Page → List ℕ → Type 0
IsCSource h prefix before page after = IsCSourceBy h.made prefix before page after

-- the lexer in Rust, where each name of a rule is that of a variant
abbrev pub IsRustSourceBy : Result BuiltLexer BuildError → List ℕ → Page → List ℕ → Type 0
IsRustSourceBy (Ok l) before page after = IsSource (All IsVariant l.numbers.names) (rust_file l.numbers) before page after
IsRustSourceBy (Err e) before page after = IsNone 9 before page after

abbrev pub IsRustSource : Held → List ℕ → Page → List ℕ → Type 0
IsRustSource h before page after = IsRustSourceBy h.made before page after
