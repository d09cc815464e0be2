use Rattle.std.proofs.Common.{List, ℕ, ◌++◌, sym, ap, ◌∙◌, lit<}
use Rattle.std.proofs.lemmas.Str.{encode_ascii}
use Rattle.lalrpop_rule_file.specs.RuleFile.{without_return}
use Rattle.lalrpop_rule_file.proofs.Returns.{return_off, no_return, return_stripped}
use Rattle.reports_lib.proofs.shown_line.without_return.Goals as goal

pub returns-in-Some : goal.returns-in-Some
returns-in-Some c =
    let line = c.args.line.now in
    let before = c.in-Some.before.now in
    sym (ap without_return (return_stripped line before c.in-Some.ensures.cases) ∙ return_off before)

pub returns-in-None : goal.returns-in-None
returns-in-None c =
    sym (no_return c.args.line.now (λ front e. c.in-None.ensures.cases front (e ∙ ap (λ (x : List ℕ). front ++ x) (sym (encode_ascii 13 (lit< tt))))))
