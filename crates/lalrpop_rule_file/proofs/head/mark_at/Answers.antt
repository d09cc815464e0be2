use Rattle.lalrpop_rule_file.specs.RuleLine.{nothing}
use Rattle.lalrpop_rule_file.proofs.Stopping.{skipped}
use Rattle.lalrpop_rule_file.proofs.head.mark_at.Goals as goal

pub returns-in-Some-clause-marked : goal.returns-in-Some-clause-marked
returns-in-Some-clause-marked c name = skipped _ _ _ _ c.in-Some.ensures.some c.split_front.ensures.span name

pub returns-in-None-clause-marked : goal.returns-in-None-clause-marked
returns-in-None-clause-marked c name = nothing
