use Rattle.std.proofs.Common.{◌≡◌, length}
use Rattle.lalrpop_rule_file.specs.PassedEnd.{after_plain}
use Rattle.lalrpop_rule_file.proofs.passed_end.after_plain.Given as goal

abbrev pub invariant-loop-next : goal.invariant-loop-next
invariant-loop-next l = after_plain l.rest ≡ after_plain l.text

abbrev pub decreases-loop-next : goal.decreases-loop-next
decreases-loop-next l = length l.rest
