use Rattle.std.proofs.Common.{◌≡◌, ◌++◌, take, flat_map}
use Rattle.reports_lib.specs.PieceLines.{json_told}
use Rattle.reports_lib.proofs.escaped.escape_from.Given as goal

-- what stood before, and the characters so far
abbrev pub invariant-loop-c : goal.invariant-loop-c
invariant-loop-c l = l.line.items ≡ take l.start l.fn.line.items ++ flat_map json_told l.yielded
