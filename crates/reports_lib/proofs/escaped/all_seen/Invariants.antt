use Rattle.std.proofs.Common.{◌≡◌, flat_map}
use Rattle.std.specs.Str.{encode_utf8_all}
use Rattle.reports_lib.specs.PieceLines.{json_told}
use Rattle.reports_lib.proofs.escaped.all_seen.Given as goal

-- the characters so far stay as they are
abbrev pub invariant-loop-c : goal.invariant-loop-c
invariant-loop-c l = flat_map json_told l.yielded ≡ encode_utf8_all l.yielded
