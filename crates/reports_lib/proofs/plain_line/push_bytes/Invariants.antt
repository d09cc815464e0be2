use Rattle.std.proofs.Common.{◌≡◌, ◌++◌, codes, flat_map, string_bytes, take}
use Rattle.reports_lib.specs.PieceLines.{byte_told}
use Rattle.reports_lib.proofs.plain_line.push_bytes.Given as goal

-- the quote and the bytes so far
abbrev pub invariant-loop-byte : goal.invariant-loop-byte
invariant-loop-byte l = string_bytes l.text ≡ codes "\"" ++ flat_map byte_told (take l.byte-index l.slice)
