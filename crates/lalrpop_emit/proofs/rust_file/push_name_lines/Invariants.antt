use Rattle.std.proofs.Common.{◌≡◌, ◌++◌, string_bytes, drop, map}
use Rattle.lalrpop_emit.specs.RustSource.{name_lines}
use Rattle.lalrpop_emit.proofs.rust_file.push_name_lines.Given as goal

-- with the names that are left the text is complete
abbrev pub invariant-loop-name : goal.invariant-loop-name
invariant-loop-name l = string_bytes l.source ++ name_lines l.before l.behind (map string_bytes (drop l.name-index l.names)) ≡ string_bytes l.initial.source ++ name_lines l.before l.behind (map string_bytes l.names)
