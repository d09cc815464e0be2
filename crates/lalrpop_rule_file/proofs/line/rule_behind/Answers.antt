use Rattle.lalrpop_rule_file.specs.RuleLine.{Named, bare}
use Rattle.lalrpop_rule_file.specs.Internal.Stops.{IsUnread}
use Rattle.lalrpop_rule_file.specs.Internal.Values.{head_of}
use Rattle.lalrpop_rule_file.specs.declared.stop.Unread.TheVariants.{Stopped}
use Rattle.lalrpop_rule_file.proofs.Lexemes.{joined}
use Rattle.lalrpop_rule_file.proofs.Results.{handed_on}
use Rattle.lalrpop_rule_file.proofs.Stopping.{ends_behind, ends_reads, stops_behind}
use Rattle.lalrpop_rule_file.proofs.line.rule_behind.Goals as goal

pub returns-in_err-precedence-clause-unread : goal.returns-in_err-precedence-clause-unread
returns-in_err-precedence-clause-unread c =
    handed_on (IsUnread (Named (bare c.args.name.now)) c.args.text.now) c.from_residual-in_err-precedence.result (Stopped c.in_err-precedence.field-0.0) c.from_residual-in_err-precedence.ensures.1
    (stops_behind c.in_ok-head.ensures.left (c.in_err-precedence.ensures.stops (head_of c.in_ok-head.head)))

pub returns-clause-rule : goal.returns-clause-rule
returns-clause-rule c = joined c.in_ok-head.ensures.left (c.in_ok-precedence.ensures.right (head_of c.in_ok-head.head))

pub returns-clause-begins : goal.returns-clause-begins
returns-clause-begins c =
    let front = ends_reads c.in_ok-head.ensures.left in
    let here = ends_behind front.0 _ _ _ front.1 c.in_ok-precedence.ensures.here in
    (here.0, (here.1, c.in_ok-precedence.ensures.begins))
