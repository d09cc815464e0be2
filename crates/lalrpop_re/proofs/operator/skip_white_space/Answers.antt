use Rattle.std.proofs.Common.{◌∙◌, ap, sym, refl, take, drop}
use Rattle.unicode.specs.Binary.{is_white_space}
use Rattle.lalrpop_re.specs.Text.{Text}
use Rattle.lalrpop_re.specs.Internal.Views.{text}
use Rattle.lalrpop_re.proofs.Lexemes.{cut_at}
use Rattle.lalrpop_re.proofs.operator.skip_white_space.Goals as goal

pub returns-clause-text : goal.returns-clause-text
returns-clause-text c =
    let n = c.leading_white_space-length.result in
    let cut = cut_at is_white_space (text c.args.cursor.now) c.rest.result.now (take n c.rest.result.now) (drop n c.rest.result.now) n c.rest.ensures c.leading_white_space-length.ensures.value refl refl in
    c.advance.ensures.text ∙ ap (λ (u : Text). drop n u) (sym c.rest.ensures) ∙ ap (λ y. y.1) (sym cut)
