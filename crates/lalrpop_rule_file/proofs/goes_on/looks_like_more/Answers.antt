use Rattle.std.proofs.Common.{refl, sym}
use Rattle.std.proofs.lemmas.Bool.{eqb-false, eqb-true, false≢true}
use Rattle.lalrpop_rule_file.proofs.EarlyEnds.{more_test, needs_blank}
use Rattle.lalrpop_rule_file.proofs.goes_on.looks_like_more.Goals as goal

pub returns-then-is_empty : goal.returns-then-is_empty
returns-then-is_empty c = (λ e. absurd (false≢true e), λ more. absurd (needs_blank _ _ _ c.split_front.ensures.span (eqb-true _ _ (sym c.if-is_empty.ensures)) more))

pub returns : goal.returns
returns c = more_test _ _ _ c.looks_like_line.result c.split_front.ensures.span (eqb-false _ _ (sym c.if-is_empty.ensures)) c.looks_like_line.ensures
