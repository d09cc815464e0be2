use Rattle.std.proofs.Common.{◌≡◌, ◌++◌, string_bytes, drop, map}
use Rattle.lalrpop_emit.specs.CSource.{table_rows}
use Rattle.lalrpop_emit.specs.Internal.Lists.{list_numbers}
use Rattle.lalrpop_emit.proofs.c_file.push_table_rows.Given as goal

-- with the tables that are left the text is complete
abbrev pub invariant-loop-mode : goal.invariant-loop-mode
invariant-loop-mode l = string_bytes l.source ++ table_rows l.prefix l.mode (map list_numbers (drop l.mode l.tables)) ≡ string_bytes l.initial.source ++ table_rows l.prefix 0 (map list_numbers l.tables)
