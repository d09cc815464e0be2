use Rattle.std.proofs.Common.{List, ℕ, ◌++◌, sym, ap, ◌∙◌}
use Rattle.std.proofs.lemmas.Str.{encode_ascii}
use Rattle.lalrpop_rule_file.proofs.word.behind.Goals as goal

pub returns-in_err-rest-clause-none : goal.returns-in_err-rest-clause-none
returns-in_err-rest-clause-none c =
    rw c.from_residual.ensures (λ rest e. c.in_err-rest.ensures.cases rest (e ∙ ap (λ (x : List ℕ). x ++ rest) (sym (encode_ascii c.args.mark c.requires))))
