use denote.Shadow.{shadow}
use denote.Text.{Utf8}
use Rattle.std.proofs.Common.{length}
use Rattle.lalrpop_rule_file.proofs.Actions.{HasActed}
use Rattle.lalrpop_rule_file.proofs.head.actions_at.Given as goal

-- the actions so far were read
abbrev pub invariant-loop-actions : goal.invariant-loop-actions
invariant-loop-actions l = record { text : shadow (Utf8 l.rest); acted : HasActed l.text l.rest l.actions.items }

abbrev pub decreases-loop-actions : goal.decreases-loop-actions
decreases-loop-actions l = length l.rest
