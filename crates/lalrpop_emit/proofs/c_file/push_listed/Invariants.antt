use Rattle.std.proofs.Common.{◌≡◌, ◌++◌, string_bytes, drop}
use Rattle.lalrpop_emit.specs.CSource.{listed}
use Rattle.lalrpop_emit.proofs.c_file.push_listed.Given as goal

-- with the numbers that are left the text is complete
abbrev pub invariant-loop-place : goal.invariant-loop-place
invariant-loop-place l = string_bytes l.source ++ listed l.place (drop l.place l.numbers) ≡ string_bytes l.initial.source ++ listed 0 l.numbers
