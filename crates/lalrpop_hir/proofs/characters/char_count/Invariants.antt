use Rattle.std.proofs.Common.{◌≡◌, take}
use Rattle.std.specs.List.{count_by}
use Rattle.lalrpop_hir.specs.Starts.{is_start}
use Rattle.lalrpop_hir.proofs.characters.char_count.Given as goal

-- the characters that begin in the bytes so far
abbrev pub invariant-loop-byte : goal.invariant-loop-byte
invariant-loop-byte l = record { count : l.count ≡ count_by is_start (take l.byte-index l.text) }
