use Rattle.std.proofs.Common.{◌≡◌, drop}
use Rattle.bajofeki_rules.specs.Lines.{lines}
use Rattle.reports_lib.proofs.shown_line.line_at.Given as goal

-- the lines that are left
abbrev pub invariant-loop-passed : goal.invariant-loop-passed
invariant-loop-passed l = drop l.passed (lines l.bytes) ≡ lines l.rest
