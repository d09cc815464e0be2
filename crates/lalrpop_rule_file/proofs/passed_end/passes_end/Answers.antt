use Rattle.std.proofs.Common.{◌≡◌, List, ℕ, ◌++◌, codes, ap, sym, ◌∙◌}
use Rattle.lalrpop_rule_file.proofs.EndLaws.{flagged}
use Rattle.lalrpop_rule_file.proofs.passed_end.passes_end.Goals as goal

pub returns-in-Some : goal.returns-in-Some
returns-in-Some c =
    let cases = c.in-Some.ensures.cases in
    let begun : c.args.pattern.now ≡ codes "(?s)" ++ c.in-Some.rest.now = cases.1.1 ∙ ap (λ (x : List ℕ). codes "(?s)" ++ x) (sym cases.2) in
    flagged _ _ c.is_between_plain.result c.is_between_plain-in-Some.result begun c.if-is_between_plain.false
    (rw c.as_bytes.ensures.value at c.is_between_plain.ensures) (rw c.as_bytes-in-Some.ensures.value at c.is_between_plain-in-Some.ensures)
