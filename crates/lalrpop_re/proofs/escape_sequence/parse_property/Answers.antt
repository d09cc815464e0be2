use Rattle.std.proofs.Common.{◌∙◌, ap, sym, refl, drop}
use Rattle.lalrpop_re.specs.Text.{Text}
use Rattle.lalrpop_re.specs.Escape.{set}
use Rattle.lalrpop_re.specs.Internal.Reading.{name_of}
use Rattle.lalrpop_re.specs.Internal.Views.{text}
use Rattle.lalrpop_re.proofs.Lexemes.{property_read}
use Rattle.lalrpop_re.proofs.escape_sequence.parse_property.Goals as goal

pub returns-clause-value : goal.returns-clause-value
returns-clause-value c =
    let name = c.in-Some.name.inner.now in
    let after = drop c.in-Some.name.width c.rest.result.now in
    let found = rw c.in-Some-2.is at c.in_ok-class.ensures.found in
    let read = property_read c.args.negated (text c.args.cursor.now) name after found.0 (ap name_of (sym c.rest.ensures) ∙ c.in-Some.ensures.value) (sym c.is_empty.ensures ∙ c.if-is_empty.false)
    (sym c.is_spelled_like_set.ensures ∙ c.if-not-is_spelled_like_set.false) found.1 in
    ((set found.0 c.args.negated, after), read, ((found.2, refl), c.advance.ensures.text ∙ ap (λ (u : Text). drop c.in-Some.name.width u) (sym c.rest.ensures)))
