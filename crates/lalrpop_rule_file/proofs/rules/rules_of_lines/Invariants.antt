use Rattle.std.proofs.Common.{length}
use Rattle.lalrpop_rule_file.specs.Internal.Lines.{names_in}
use Rattle.lalrpop_rule_file.proofs.FileLines.{HasRead}
use Rattle.lalrpop_rule_file.proofs.rules.rules_of_lines.Given as goal

-- the lines so far are these rules
abbrev pub invariant-loop-line : goal.invariant-loop-line
invariant-loop-line l = HasRead l.bytes l.rest l.number (names_in l.modes) l.here.items l.known l.rules.items

abbrev pub decreases-loop-line : goal.decreases-loop-line
decreases-loop-line l = length l.rest
