use Rattle.std.proofs.Common.{List, ℕ, ◌++◌, sym, ap, ◌∙◌}
use Rattle.lalrpop_rule_file.proofs.OneOf.{no_word_there, word_there}
use Rattle.lalrpop_rule_file.proofs.word.after_word.Goals as goal

pub returns-clause-some : goal.returns-clause-some
returns-clause-some c =
    let rest = c.in_ok-rest.rest.now in
    word_there c.args.text.now c.as_bytes.result.now rest c.in_ok-rest.ensures.cases.0 c.in_ok-rest.ensures.cases.1 ∙ ap (λ (word : List ℕ). word ++ rest) c.as_bytes.ensures.value

pub returns-in_err-rest-clause-none : goal.returns-in_err-rest-clause-none
returns-in_err-rest-clause-none c =
    rw c.from_residual.ensures (λ rest e. no_word_there c.args.text.now c.as_bytes.result.now c.in_err-rest.ensures.cases rest (e ∙ ap (λ (word : List ℕ). word ++ rest) (sym c.as_bytes.ensures.value)))
