use Rattle.std.proofs.Common.{◌≡◌, ◌++◌, take, flat_map}
use Rattle.reports_lib.specs.PieceLines.{unit_told}
use Rattle.reports_lib.proofs.escaped.push_told.Given as goal

-- the units so far
abbrev pub invariant-loop-unit : goal.invariant-loop-unit
invariant-loop-unit l = l.line.items ≡ l.fn.line.items ++ flat_map unit_told (take l.unit-index l.units)
