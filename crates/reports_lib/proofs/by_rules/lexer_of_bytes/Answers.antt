use Rattle.std.proofs.Common.{inr, string_bytes}
use Rattle.bajofeki_rules.specs.Lines.{lines}
use Rattle.lalrpop_rule_file.specs.RuleFile.{without_mark}
use Rattle.lexdfa_lib.specs.declared.layout.LineForm.TheVariants.{Plain}
use Rattle.reports_lib.specs.NamedRules.{AreRulesOf, LinesAnswer, RulesOf, RulesRefused}
use Rattle.reports_lib.specs.WarningsSaid.{IsFileOf, Warned}
use Rattle.reports_lib.proofs.RuleLaws.{warned_lexer, warned_said, warned_refused}
use Rattle.reports_lib.proofs.by_rules.lexer_of_bytes.Goals as goal

pub returns-in_ok-lexer_of_rules-in-Ok-clause-lexer : goal.returns-in_ok-lexer_of_rules-in-Ok-clause-lexer
returns-in_ok-lexer_of_rules-in-Ok-clause-lexer c =
    warned_lexer c.warned_lexer.result c.in_ok-lexer_of_rules-in-Ok.field-0 (λ w. w.lexer) (λ w. w.said) c.in_ok-said-in-Ok.said c.warned_lexer.ensures.lexer
    (λ f. AreRulesOf c.args.bytes.now f f.mode_names) c.in_ok-lexer_of_rules-in-Ok.ensures.lexer

pub returns-in_ok-lexer_of_rules-in-Ok-clause-warned : goal.returns-in_ok-lexer_of_rules-in-Ok-clause-warned
returns-in_ok-lexer_of_rules-in-Ok-clause-warned c =
    let file = c.in-Ok.file in
    let are : IsFileOf (lines (without_mark c.args.bytes.now)) file =
    record { rules = c.in-Ok.ensures.rules; places = c.in-Ok.ensures.places; parts = c.in-Ok.ensures.parts; part_lines = c.in-Ok.ensures.part_lines } in
    warned_said c.warned_lexer.result c.in_ok-lexer_of_rules-in-Ok.field-0 (λ w. w.lexer) (λ w. w.said) c.in_ok-said-in-Ok.said c.warned_lexer.ensures.lexer
    (λ s. Warned Plain c.args.verbosity c.args.name.now (lines (without_mark c.args.bytes.now)) (string_bytes s)) (file, (are, c.in_ok-said-in-Ok.ensures.said))

pub returns-in_ok-lexer_of_rules-in-Ok-clause-refused : goal.returns-in_ok-lexer_of_rules-in-Ok-clause-refused
returns-in_ok-lexer_of_rules-in-Ok-clause-refused c =
    let file = c.in-Ok.file in
    let are : IsFileOf (lines (without_mark c.args.bytes.now)) file =
    record { rules = c.in-Ok.ensures.rules; places = c.in-Ok.ensures.places; parts = c.in-Ok.ensures.parts; part_lines = c.in-Ok.ensures.part_lines } in
    warned_refused c.warned_lexer.result c.in_ok-lexer_of_rules-in-Ok.field-0 (string_bytes c.in_ok-said-in-Ok.said)
    (LinesAnswer RulesRefused c.args.name.now (lines (without_mark c.args.bytes.now))) (RulesOf c.args.verbosity RulesRefused c.args.name.now c.args.bytes.now)
    (λ own answer is same. inr (string_bytes c.in_ok-said-in-Ok.said, ((file, (are, c.in_ok-said-in-Ok.ensures.said)), (own, (is, same)))))
    c.warned_lexer.ensures.refused c.in_ok-lexer_of_rules-in-Ok.ensures.refused
