use Rattle.std.proofs.Common.{◌≡◌, string_bytes, drop, map}
use Rattle.lalrpop_emit.specs.Names.{distinct_behind, distinct_names}
use Rattle.lalrpop_emit.proofs.naming.distinct_names.Given as goal

-- with the names that are left the list is complete
abbrev pub invariant-loop-name : goal.invariant-loop-name
invariant-loop-name l = distinct_behind (map string_bytes l.distinct.items) (map string_bytes (drop l.name-index l.names)) ≡ distinct_names (map string_bytes l.names)
