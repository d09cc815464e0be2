use Rattle.std.proofs.Common.{sym, ap, ◌∙◌, string_bytes}
use Rattle.std.proofs.lemmas.Slice.Eq.{bytes_eq-Decides}
use Rattle.bajofeki_rules.specs.Quoted.{quoted}
use Rattle.bajofeki_rules.proofs.Quotes.{quoted-unique}
use Rattle.uses_lexer.proofs.quote_a_slice.are_same.Goals as goal

pub returns : goal.returns
returns c =
    let first = c.in_ok-first.ensures.quoted in
    let second = c.in_ok-second.ensures.quoted in
    let forms = bytes_eq-Decides (string_bytes c.in_ok-first.first) (string_bytes c.in_ok-second.second) in
    record {
      same = (
        λ yes. quoted-unique c.args.one.now c.args.other.now c.utf8.one c.utf8.other (sym first ∙ forms.0 (sym c.eq.ensures ∙ yes) ∙ second),
        λ e. c.eq.ensures ∙ forms.1 (first ∙ ap quoted e ∙ sym second),
      );
    }
