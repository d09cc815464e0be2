use Rattle.std.proofs.Common.{◌≡◌, ◌++◌, string_bytes, drop, map}
use Rattle.lalrpop_emit.specs.RustSource.{ahead_texts}
use Rattle.lalrpop_emit.specs.Internal.Lists.{ahead_numbers}
use Rattle.lalrpop_emit.proofs.rust_file.push_aheads.Given as goal

-- with the tables that are left the text is complete
abbrev pub invariant-loop-ahead : goal.invariant-loop-ahead
invariant-loop-ahead l = string_bytes l.source ++ ahead_texts (map ahead_numbers (drop l.ahead-index l.aheads)) ≡ string_bytes l.initial.source ++ ahead_texts (map ahead_numbers l.aheads)
