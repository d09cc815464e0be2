use Rattle.std.proofs.Common.{sym, subst, ◌∙◌, arith}
use Rattle.std.specs.Str.{NoCharPasses}
use Rattle.std.proofs.lemmas.Str.Pattern.{contains_char}
use Rattle.bajofeki_rules.specs.Quoted.{is_unseen}
use Rattle.bajofeki_rules.proofs.Quotes.{quoted_is_seen}
use Rattle.uses_lexer.proofs.Lines.{no_line_feed}
use Rattle.uses_lexer.proofs.quote_a_slice.has_two_lines.Goals as goal

pub returns : goal.returns
returns c =
    let text = c.deref.result.now in
    let seen : NoCharPasses is_unseen text = subst (NoCharPasses is_unseen) (sym (c.deref.ensures ∙ c.in_ok-text.ensures.quoted)) (quoted_is_seen c.args.slice.now c.utf8.slice) in
    record { never = no_line_feed c.contains.result text seen (contains_char 10 text c.contains.result c.contains.ensures.cases (omega arith)).0 }
