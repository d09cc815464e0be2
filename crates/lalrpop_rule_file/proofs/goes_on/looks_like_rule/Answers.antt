use Rattle.std.proofs.Common.{◌∙◌, sym}
use Rattle.lalrpop_rule_file.proofs.EarlyEnds.{rule_test}
use Rattle.lalrpop_rule_file.proofs.goes_on.looks_like_rule.Goals as goal

pub returns : goal.returns
returns c =
    rw c.is_some.ensures (rule_test _ _ _ _ _ _ (sym c.begins_name.ensures ∙ c.if-not-begins_name.false) c.split_front.ensures.span c.split_front-2.ensures.span c.behind.ensures.some c.behind.ensures.none)
