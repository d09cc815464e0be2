use Rattle.std.proofs.Common.{◌≤◌, ◌+◌, ◌↔◌, length}
use Rattle.lalrpop_rule_file.specs.OutsideClass.{HasClass}
use Rattle.lalrpop_rule_file.proofs.outside_class.has_class.Given as goal

-- the question is the one about what is left, and no more brackets are around it than characters were read
abbrev pub invariant-loop-first : goal.invariant-loop-first
invariant-loop-first l = (l.depth + length l.rest ≤ length l.pattern) × (HasClass 0 l.pattern ↔ HasClass l.depth l.rest)

abbrev pub decreases-loop-first : goal.decreases-loop-first
decreases-loop-first l = length l.rest
