use Rattle.std.proofs.Common.{◌≡◌, ◌++◌, string_bytes, drop, map}
use Rattle.lalrpop_emit.specs.CSource.{enumerators}
use Rattle.lalrpop_emit.proofs.c_file.push_enumerators.Given as goal

-- with the names that are left the text is complete
abbrev pub invariant-loop-kind : goal.invariant-loop-kind
invariant-loop-kind l = string_bytes l.source ++ enumerators l.prefix l.kind (map string_bytes (drop l.kind l.names)) ≡ string_bytes l.initial.source ++ enumerators l.prefix 0 (map string_bytes l.names)
