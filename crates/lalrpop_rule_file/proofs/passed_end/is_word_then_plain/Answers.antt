use Rattle.std.proofs.lemmas.Bool.{false≢true}
use Rattle.lalrpop_rule_file.proofs.EndLaws.{then_plain}
use Rattle.lalrpop_rule_file.proofs.passed_end.is_word_then_plain.Goals as goal

pub returns-in-Some : goal.returns-in-Some
returns-in-Some c = then_plain _ _ _ c.are_plain.result c.in-Some.ensures.some c.are_plain.ensures

pub returns-in-None : goal.returns-in-None
returns-in-None c = (λ e. absurd (false≢true e), λ stands. absurd (c.in-None.ensures.none stands.0 stands.1.0))
