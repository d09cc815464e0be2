use Rattle.std.proofs.Common.{codes}
use Rattle.lalrpop_rule_file.specs.RuleLine.{Named, bare}
use Rattle.lalrpop_rule_file.specs.Internal.Stops.{IsUnread}
use Rattle.lalrpop_rule_file.specs.Internal.Values.{head_with}
use Rattle.lalrpop_rule_file.specs.declared.stop.Unread.TheVariants.{Stopped}
use Rattle.lalrpop_rule_file.proofs.Actions.{all_placed_behind, no_word_behind}
use Rattle.lalrpop_rule_file.proofs.Lexemes.{joined}
use Rattle.lalrpop_rule_file.proofs.Results.{handed_on}
use Rattle.lalrpop_rule_file.proofs.Stopping.{equals, no_equals, unread_behind}
use Rattle.lalrpop_rule_file.proofs.head.left_part.Goals as goal

pub returns-in_err-actions-clause-unread : goal.returns-in_err-actions-clause-unread
returns-in_err-actions-clause-unread c =
    let own = c.in_err-actions.field-0.0 in
    let name = c.args.name.now in
    handed_on (IsUnread (Named (bare name)) c.args.text.now) c.from_residual.result own c.from_residual.ensures.1
    (unread_behind own (c.mark_at-is_skipped.ensures.marked name) (c.in_err-actions.ensures.unread name c.mark_at-is_skipped.result.0))

pub returns-in_err-right-clause-unread : goal.returns-in_err-right-clause-unread
returns-in_err-right-clause-unread c =
    let own = c.in_err-right.field-0.0 in
    let name = c.args.name.now in
    let mark = c.mark_at-is_skipped in
    let actions = c.in_ok-actions in
    let head = head_with name mark.result.0 actions.actions.items in
    handed_on (IsUnread (Named (bare name)) c.args.text.now) c.from_residual-in_err-right.result (Stopped own) c.from_residual-in_err-right.ensures.1
    (no_equals (Named (bare name)) c.args.text.now head actions.rest.now own.rest.now own.fault (joined (mark.ensures.marked name) (actions.ensures.acts name mark.result.0)) actions.ensures.no_blank c.in_err-right.ensures.none actions.ensures.none
    (no_word_behind (codes "skip") name mark.result.0 actions.actions.items c.args.text.now mark.result.1.now actions.rest.now mark.ensures.no_skip mark.ensures.same actions.ensures.no_skip)
    (no_word_behind (codes "part") name mark.result.0 actions.actions.items c.args.text.now mark.result.1.now actions.rest.now (λ e. c.requires.no_part) mark.ensures.same actions.ensures.no_skip)
    c.in_err-right.ensures.stops)

pub returns-clause-left : goal.returns-clause-left
returns-clause-left c =
    let name = c.args.name.now in
    let mark = c.mark_at-is_skipped in
    let actions = c.in_ok-actions in
    equals (Named (bare name)) c.args.text.now (head_with name mark.result.0 actions.actions.items) actions.rest.now c.in_ok-right.right.now
    (joined (mark.ensures.marked name) (actions.ensures.acts name mark.result.0)) c.in_ok-right.ensures.equals

pub returns-clause-placed : goal.returns-clause-placed
returns-clause-placed c =
    let name = c.args.name.now in
    all_placed_behind c.in_ok-actions.actions.items (c.mark_at-is_skipped.ensures.marked name) (c.in_ok-actions.ensures.placed name c.mark_at-is_skipped.result.0)
