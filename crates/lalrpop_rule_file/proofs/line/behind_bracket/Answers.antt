use Rattle.std.proofs.Common.{ℕ, List, ◌++◌, ◌≢◌, ◌∷◌}
use Rattle.std.specs.Prelude.{codes}
use Rattle.lalrpop_rule_file.specs.Words.{IsSpan, is_blank}
use Rattle.lalrpop_rule_file.proofs.Results.{if_none}
use Rattle.lalrpop_rule_file.proofs.Spans.{IsSpan-unique}
use Rattle.lalrpop_rule_file.proofs.line.behind_bracket.Goals as goal

no_bracket : (line gap here : List ℕ) → IsSpan is_blank line gap here → ((rest : List ℕ) → here ≢ 91 ∷ rest) → (lead right : List ℕ) → ¬ IsSpan is_blank line lead (codes "[" ++ right)
no_bracket line gap here own none lead right span = none right (IsSpan-unique is_blank line gap here lead (codes "[" ++ right) own span).1

pub returns-clause-none : goal.returns-clause-none
returns-clause-none c = if_none c.behind.result (no_bracket c.args.line.now _ _ c.split_front.ensures.span) c.behind.ensures.none
