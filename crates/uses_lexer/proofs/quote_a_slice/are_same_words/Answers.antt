use Rattle.std.proofs.Common.{sym, ap, ◌∙◌, string_bytes}
use Rattle.std.proofs.lemmas.Slice.Eq.{bytes_eq-Decides}
use Rattle.bajofeki_rules.specs.Quoted.{quoted_word}
use Rattle.bajofeki_rules.proofs.Quotes.{quoted_word-unique}
use Rattle.uses_lexer.proofs.Words.{is_word}
use Rattle.uses_lexer.proofs.quote_a_slice.are_same_words.Goals as goal

pub returns : goal.returns
returns c =
    let one = c.args.one.now in
    let other = c.args.other.now in
    let first = c.in_ok-first.ensures.ok in
    let second = c.in_ok-second.ensures.ok in
    let forms = bytes_eq-Decides (string_bytes c.in_ok-first.first) (string_bytes c.in_ok-second.second) in
    record {
      same = (
        λ yes. quoted_word-unique one other (is_word one c.type_inv.one) (is_word other c.type_inv.other) (sym first ∙ forms.0 (sym c.eq.ensures ∙ yes) ∙ second),
        λ e. c.eq.ensures ∙ forms.1 (first ∙ ap quoted_word e ∙ sym second),
      );
    }
