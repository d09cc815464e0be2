use Rattle.std.proofs.Common.{arith}
use Rattle.lalrpop_rule_file.proofs.ModeNumbers.{names_length}
use Rattle.lalrpop_rule_file.proofs.RulesWithin.{rules_within}
use Rattle.lalrpop_rule_file.proofs.file.read_rules.Goals as goal

pub returns-clause-within : goal.returns-clause-within
returns-clause-within c i m r e names =
    let rules = rw c.deref.ensures.value at c.in_ok-rules.ensures.rules in
    let h = rules_within _ _ _ rules i m r e names in
    omega (arith, h, names_length c.in_ok-modes.modes.items)
