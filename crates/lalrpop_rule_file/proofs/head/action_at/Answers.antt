use Rattle.lalrpop_rule_file.specs.RuleLine.{Head, Named, an_entry, lexeme_then, nothing}
use Rattle.lalrpop_rule_file.specs.RuleFault.{StopsBefore}
use Rattle.lalrpop_rule_file.specs.Internal.Values.{entry_of}
use Rattle.lalrpop_rule_file.specs.declared.stop.Stop.{Stop}
use Rattle.lalrpop_rule_file.proofs.Actions.{no_entry, placed_behind}
use Rattle.lalrpop_rule_file.proofs.Results.{handed_on}
use Rattle.lalrpop_rule_file.proofs.Stopping.{popped, stops_behind}
use Rattle.lalrpop_rule_file.proofs.head.action_at.Goals as goal

pub returns-in-Some-clause-acts : goal.returns-in-Some-clause-acts
returns-in-Some-clause-acts c = popped _ _ _ _ c.in-Some.ensures.some c.split_front.ensures.span

pub returns-in_err-action-in-Some-entry_at-clause-stops : goal.returns-in_err-action-in-Some-entry_at-clause-stops
returns-in_err-action-in-Some-entry_at-clause-stops c =
    let err = c.in_err-action-in-Some-entry_at in
    let found = c.in-Some-entry_at in
    handed_on (λ (s : Stop). (head : Head) → StopsBefore (Named head) c.args.text.now s.rest.now s.fault) c.from_residual.result err.field-0.0 c.from_residual.ensures.1
    (λ head. stops_behind (lexeme_then (an_entry (entry_of found.found.0) found.ensures.some) nothing) (err.ensures.stops head))

pub returns-in_ok-action-in-Some-entry_at-clause-acts : goal.returns-in_ok-action-in-Some-entry_at-clause-acts
returns-in_ok-action-in-Some-entry_at-clause-acts c head =
    let found = c.in-Some-entry_at in
    lexeme_then (an_entry (entry_of found.found.0) found.ensures.some) (c.in_ok-action-in-Some-entry_at.ensures.acts head)

pub returns-in_ok-action-in-Some-entry_at-clause-placed : goal.returns-in_ok-action-in-Some-entry_at-clause-placed
returns-in_ok-action-in-Some-entry_at-clause-placed c head =
    let found = c.in-Some-entry_at in
    let action = c.in_ok-action-in-Some-entry_at in
    placed_behind head action.action.0 (lexeme_then (an_entry (entry_of found.found.0) found.ensures.some) nothing) (action.ensures.placed head)

pub returns-in-None-clause-none : goal.returns-in-None-clause-none
returns-in-None-clause-none c behind = (c.in_default.ensures.none behind, no_entry c.args.text.now behind (λ entry. c.in-None.ensures.none entry behind))
