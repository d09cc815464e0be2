use Rattle.std.proofs.Common.{length}
use Rattle.lalrpop_rule_file.specs.Internal.Lines.{names_in}
use Rattle.lalrpop_rule_file.specs.Internal.Values.{section_of}
use Rattle.lalrpop_rule_file.proofs.FileLines.{HasNamed}
use Rattle.lalrpop_rule_file.proofs.modes.modes_of_lines.Given as goal

-- the lines so far name these modes
abbrev pub invariant-loop-line : goal.invariant-loop-line
invariant-loop-line l = HasNamed l.bytes l.rest l.number (names_in l.modes.items) (section_of l.section)

abbrev pub decreases-loop-line : goal.decreases-loop-line
decreases-loop-line l = length l.rest
