use Rattle.std.proofs.Common.{◌≡◌, ◌++◌, string_bytes, drop, map}
use Rattle.lalrpop_emit.specs.RustSource.{table_texts}
use Rattle.lalrpop_emit.specs.Internal.Lists.{list_numbers}
use Rattle.lalrpop_emit.proofs.rust_file.push_tables.Given as goal

-- with the tables that are left the text is complete
abbrev pub invariant-loop-table : goal.invariant-loop-table
invariant-loop-table l = string_bytes l.source ++ table_texts (map list_numbers (drop l.table-index l.tables)) ≡ string_bytes l.initial.source ++ table_texts (map list_numbers l.tables)
