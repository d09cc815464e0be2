use Rattle.std.proofs.Common.{sym}
use Rattle.std.proofs.lemmas.Bool.{eqb-false}
use Rattle.lalrpop_rule_file.proofs.Comments.{comment_test}
use Rattle.lalrpop_rule_file.proofs.line.says_nothing.Goals as goal

pub returns : goal.returns
returns c =
    rw c.is_some.ensures (comment_test _ _ _ _ c.split_front.ensures.span (eqb-false _ _ (sym c.if-is_empty.ensures)) c.behind.ensures.some c.behind.ensures.none)
