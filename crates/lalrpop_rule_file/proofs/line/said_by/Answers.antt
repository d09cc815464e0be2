use Rattle.lalrpop_rule_file.specs.FileModes.{Said}
use Rattle.lalrpop_rule_file.specs.RuleFile.{Says}
use Rattle.lalrpop_rule_file.specs.RuleLine.{Start}
use Rattle.lalrpop_rule_file.specs.Internal.Stops.{IsStopped, IsUnread}
use Rattle.lalrpop_rule_file.specs.declared.stop.Unread.{Unread}
use Rattle.lalrpop_rule_file.proofs.Lexemes.{joined}
use Rattle.lalrpop_rule_file.proofs.Results.{handed_on}
use Rattle.lalrpop_rule_file.proofs.Stopping.{bracket, unread_behind}
use Rattle.lalrpop_rule_file.proofs.StoppingLaws.{unread_says_neither}
use Rattle.lalrpop_rule_file.proofs.line.said_by.Goals as goal

pub returns-in_err-section-clause-none : goal.returns-in_err-section-clause-none
returns-in_err-section-clause-none c =
    let own = c.in_err-section.field-0.0 in
    let lead = c.in-Some.ensures.some in
    handed_on (λ (e : Unread). IsStopped e → (said : Said) → ¬ Says c.args.line.now said) c.from_residual.result own c.from_residual.ensures.1
    (unread_says_neither c.args.line.now own c.if-says_nothing.ensures (unread_behind own (bracket _ lead.0 _ lead.1) c.in_err-section.ensures.unread))

pub returns-in_err-section-clause-unread : goal.returns-in_err-section-clause-unread
returns-in_err-section-clause-unread c =
    let own = c.in_err-section.field-0.0 in
    let lead = c.in-Some.ensures.some in
    handed_on (IsUnread Start c.args.line.now) c.from_residual.result own c.from_residual.ensures.1 (unread_behind own (bracket _ lead.0 _ lead.1) c.in_err-section.ensures.unread)

pub returns-in-Some-clause-says : goal.returns-in-Some-clause-says
returns-in-Some-clause-says c =
    let lead = c.in-Some.ensures.some in
    joined (bracket _ lead.0 _ lead.1) c.in_ok-section.ensures.section

pub returns-in_err-said-clause-none : goal.returns-in_err-said-clause-none
returns-in_err-said-clause-none c =
    let own = c.in_err-said.field-0.0 in
    handed_on (λ (e : Unread). IsStopped e → (said : Said) → ¬ Says c.args.line.now said) c.from_residual-in_err-said.result own c.from_residual-in_err-said.ensures.1
    (unread_says_neither c.args.line.now own c.if-says_nothing.ensures c.in_err-said.ensures.unread)
