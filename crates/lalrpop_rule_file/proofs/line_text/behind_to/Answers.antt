use Rattle.std.proofs.Common.{sym, arith}
use Rattle.std.proofs.lemmas.Bool.{eqb-true}
use Rattle.lalrpop_rule_file.proofs.FromTos.{no_blank_no_to, no_quote_no_to, no_word_no_to}
use Rattle.lalrpop_rule_file.proofs.Results.{if_none}
use Rattle.lalrpop_rule_file.proofs.line_text.behind_to.Goals as goal

pub returns-then-is_empty-clause-none : goal.returns-then-is_empty-clause-none
returns-then-is_empty-clause-none c rest to =
    no_blank_no_to _ _ _ _ c.in_ok-first.ensures.some c.split_front.ensures.span (eqb-true _ _ (sym c.if-is_empty.ensures)) rest to

pub returns-in_err-second-clause-none : goal.returns-in_err-second-clause-none
returns-in_err-second-clause-none c =
    rw c.from_residual-in_err-second.ensures (no_word_no_to _ _ _ _ c.in_ok-first.ensures.some c.split_front.ensures.span c.in_err-second.ensures.cases)

pub returns-clause-none : goal.returns-clause-none
returns-clause-none c =
    let cases = c.in_ok-second.ensures.cases in
    if_none c.behind-2.result (no_quote_no_to _ _ _ _ _ _ _ c.in_ok-first.ensures.some c.split_front.ensures.span (grind (arith, cases)) c.split_front-2.ensures.span) c.behind-2.ensures.none
