use Rattle.std.proofs.Common.{◌∙◌, sym}
use Rattle.lalrpop_re.specs.Escape.{is_set_name_char}
use Rattle.lalrpop_re.proofs.Lexemes.{cut_at, name_found, name_open}
use Rattle.lalrpop_re.proofs.escape_sequence.name_at.Goals as goal

pub returns-then-not-starts_with-2-clause-value : goal.returns-then-not-starts_with-2-clause-value
returns-then-not-starts_with-2-clause-value c =
    let t = c.args.text.now in
    let s = c.split_at-2.result in
    let cut = cut_at is_set_name_char _ c.split_at.result.1.now s.0.now s.1.now c.leading_name.result c.split_at.ensures.back c.leading_name.ensures.value c.split_at-2.ensures.front c.split_at-2.ensures.back in
    name_open t s.0.now s.1.now (sym c.starts_with.ensures.value ∙ c.if-not-starts_with.false) cut (sym c.starts_with-2.ensures.value ∙ c.if-not-starts_with-2.true)

pub returns-clause-value : goal.returns-clause-value
returns-clause-value c =
    let t = c.args.text.now in
    let s = c.split_at-2.result in
    let cut = cut_at is_set_name_char _ c.split_at.result.1.now s.0.now s.1.now c.leading_name.result c.split_at.ensures.back c.leading_name.ensures.value c.split_at-2.ensures.front c.split_at-2.ensures.back in
    name_found t s.0.now s.1.now (sym c.starts_with.ensures.value ∙ c.if-not-starts_with.false) cut (sym c.starts_with-2.ensures.value ∙ c.if-not-starts_with-2.false)
