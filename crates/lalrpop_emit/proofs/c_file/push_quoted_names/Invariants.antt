use Rattle.std.proofs.Common.{◌≡◌, ◌++◌, string_bytes, drop, map}
use Rattle.lalrpop_emit.specs.CSource.{quoted_names}
use Rattle.lalrpop_emit.proofs.c_file.push_quoted_names.Given as goal

-- with the names that are left the text is complete
abbrev pub invariant-loop-name : goal.invariant-loop-name
invariant-loop-name l = string_bytes l.source ++ quoted_names (map string_bytes (drop l.name-index l.names)) ≡ string_bytes l.initial.source ++ quoted_names (map string_bytes l.names)
