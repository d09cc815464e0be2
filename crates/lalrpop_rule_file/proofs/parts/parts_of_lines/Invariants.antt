use Rattle.std.proofs.Common.{length}
use Rattle.lalrpop_rule_file.specs.Internal.Lines.{names_in}
use Rattle.lalrpop_rule_file.proofs.Definitions.{HasDefined}
use Rattle.lalrpop_rule_file.proofs.PartPlaces.{HasPlaced}
use Rattle.lalrpop_rule_file.proofs.parts.parts_of_lines.Given as goal

-- the lines so far define these parts
abbrev pub invariant-loop-line : goal.invariant-loop-line
invariant-loop-line l = record {
  defined : HasDefined l.bytes l.rest l.number (names_in l.names.items) l.parts.items;
  placed : HasPlaced l.bytes l.rest l.number l.written.items;
}

abbrev pub decreases-loop-line : goal.decreases-loop-line
decreases-loop-line l = length l.rest
