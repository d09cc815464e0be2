use Rattle.std.proofs.Common.{◌≡◌, ◌++◌, string_bytes, drop, map}
use Rattle.lalrpop_emit.specs.CSource.{ahead_rows}
use Rattle.lalrpop_emit.specs.Internal.Lists.{ahead_numbers}
use Rattle.lalrpop_emit.proofs.c_file.push_ahead_rows.Given as goal

-- with the tables that are left the text is complete
abbrev pub invariant-loop-mode : goal.invariant-loop-mode
invariant-loop-mode l = string_bytes l.source ++ ahead_rows l.prefix l.mode (map ahead_numbers (drop l.mode l.aheads)) ≡ string_bytes l.initial.source ++ ahead_rows l.prefix 0 (map ahead_numbers l.aheads)
