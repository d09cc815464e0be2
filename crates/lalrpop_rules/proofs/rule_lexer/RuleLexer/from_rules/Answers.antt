use Rattle.std.proofs.Common.{List}
use Rattle.bajofeki_rules.specs.declared.mode_rule.ModeRule.{ModeRule}
use Rattle.lalrpop_rules.specs.ModeSet.{AreInOneMode, IsRulesError}
use Rattle.lalrpop_rules.specs.declared.error.RulesError.TheVariants.{OutOfMemory}
use Rattle.lalrpop_rules.proofs.OneMode.{in-one-mode}
use Rattle.lalrpop_rules.proofs.Results.{handed_on}
use Rattle.lalrpop_rules.proofs.rule_lexer.RuleLexer.from_rules.Goals as goal

pub returns-in_err-all-clause-error : goal.returns-in_err-all-clause-error
returns-in_err-all-clause-error c =
    let rules = in-one-mode c.args.rules.now in
    handed_on (λ e. (qs : List ModeRule) × (AreInOneMode c.args.rules.now qs × IsRulesError qs 1 e)) c.from_residual.result OutOfMemory
    c.from_residual.ensures.1 (rules.0, (rules.1, tt))
