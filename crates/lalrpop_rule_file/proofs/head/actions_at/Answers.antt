use Rattle.std.proofs.Common.{ℕ, Bool, List, [], rules}
use Rattle.lalrpop_rule_file.specs.Internal.Stops.{IsUnread}
use Rattle.lalrpop_rule_file.specs.declared.stop.Unread.{Unread}
use Rattle.lalrpop_rule_file.specs.declared.stop.Unread.TheVariants.{Stopped}
use Rattle.lalrpop_rule_file.specs.RuleLine.{Named}
use Rattle.lalrpop_rule_file.specs.Internal.Values.{head_with}
use Rattle.lalrpop_rule_file.proofs.Results.{handed_on}
use Rattle.lalrpop_rule_file.proofs.Stopping.{stops_behind}
use Rattle.lalrpop_rule_file.proofs.Actions.{acted_none, acted_more}
use Rattle.lalrpop_rule_file.proofs.head.actions_at.Goals as goal

pub loop-actions-init : goal.loop-actions-init
loop-actions-init c = record { text = c.utf8.text; acted = rw c.new-actions.ensures.items (acted_none c.args.text.now c.requires) }

pub loop-actions-preserved : goal.loop-actions-preserved
loop-actions-preserved c =
    let found = c.in-Some.found in
    let acts = rw c.in-Some.is at c.in_ok-found.ensures.acts in
    let placed = rw c.in-Some.is at c.in_ok-found.ensures.placed in
    let blank = rw c.in-Some.is at c.in_ok-found.ensures.no_blank in
    record { text = search rules; acted = acted_more _ _ _ _ _ found.0 c.loop-actions.invariant.acted acts placed blank c.in_ok-push.ensures.items }

pub returns-in_err-found-clause-unread : goal.returns-in_err-found-clause-unread
returns-in_err-found-clause-unread c =
    let own = c.in_err-found.field-0.0 in
    let acted = c.loop-actions.invariant.acted in
    handed_on (λ (e : Unread). (name : List ℕ) (skipped : Bool) → IsUnread (Named (head_with name skipped [])) c.args.text.now e) c.from_residual.result (Stopped own) c.from_residual.ensures.1
    (λ name skipped. stops_behind (acted.reads name skipped) (c.in_err-found.ensures.stops (head_with name skipped c.loop-actions.actions.items)))
