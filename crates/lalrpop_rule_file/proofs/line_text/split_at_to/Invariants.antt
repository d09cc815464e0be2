use Rattle.lalrpop_rule_file.specs.LineText.{NoToBefore}
use Rattle.lalrpop_rule_file.proofs.line_text.split_at_to.Given as goal

-- no `' to '` was seen
abbrev pub invariant-loop-at : goal.invariant-loop-at
invariant-loop-at l = NoToBefore l.inner l.at
