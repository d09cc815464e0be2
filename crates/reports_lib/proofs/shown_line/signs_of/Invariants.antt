use Rattle.std.proofs.Common.{◌≡◌, map}
use Rattle.reports_lib.specs.ShownLine.{sign}
use Rattle.reports_lib.proofs.shown_line.signs_of.Given as goal

-- the signs so far
abbrev pub invariant-loop-c : goal.invariant-loop-c
invariant-loop-c l = l.signs.items ≡ map sign l.yielded
