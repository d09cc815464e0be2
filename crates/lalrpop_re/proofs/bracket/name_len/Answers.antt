use Rattle.std.proofs.Common.{◌∙◌, ap}
use Rattle.lalrpop_re.specs.Text.{Text, begins}
use Rattle.lalrpop_re.proofs.BracketLoops.{name_found, tail_part}
use Rattle.lalrpop_re.proofs.bracket.name_len.Goals as goal

pub returns-clause-value : goal.returns-clause-value
returns-clause-value c =
    name_found c.then_some.result c.starts_with.result c.letters_len-len.result c.args.text.now c.then_some.ensures
    (c.starts_with.ensures.value ∙ ap (λ (u : Text). begins ":]" u) (tail_part c.letters_len-len.result c.args.text.now)) c.letters_len-len.ensures.value
