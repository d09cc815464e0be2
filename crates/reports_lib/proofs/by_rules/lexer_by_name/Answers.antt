use Rattle.std.proofs.Common.{inr}
use Rattle.reports_lib.proofs.RuleLaws.{in_both, in_found}
use Rattle.reports_lib.proofs.by_rules.lexer_by_name.Goals as goal

pub returns-in-Ok-clause-lexer : goal.returns-in-Ok-clause-lexer
returns-in-Ok-clause-lexer g c =
    in_found c.lexer_of_bytes.result
    (λ f are warned. (c.in-Ok.bytes.items, (rw c.in-Ok.is at c.in_ok-bytes.ensures.bytes, (are, warned))))
    (rw c.deref.ensures.value at c.lexer_of_bytes.ensures.lexer) (rw c.deref.ensures.value at c.lexer_of_bytes.ensures.warned)

pub returns-in-Ok-clause-refused : goal.returns-in-Ok-clause-refused
returns-in-Ok-clause-refused g c =
    in_both c.lexer_of_bytes.result
    (λ answer is. inr (c.in-Ok.bytes.items, (rw c.in-Ok.is at c.in_ok-bytes.ensures.bytes, is)))
    (rw c.deref.ensures.value at c.lexer_of_bytes.ensures.refused)
