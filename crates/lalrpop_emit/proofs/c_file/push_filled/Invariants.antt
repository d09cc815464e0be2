use Rattle.std.proofs.Common.{◌≡◌, ◌++◌, string_bytes, flat_map, if◌then◌else◌, ◌==◌}
use Rattle.std.specs.Prelude.{encode_utf8}
use Rattle.lalrpop_emit.proofs.c_file.push_filled.Given as goal

-- the characters so far
abbrev pub invariant-loop-c : goal.invariant-loop-c
invariant-loop-c l = string_bytes l.source ≡ string_bytes l.initial.source ++ flat_map (λ c. if c == 36 then l.prefix else encode_utf8 c) l.yielded
