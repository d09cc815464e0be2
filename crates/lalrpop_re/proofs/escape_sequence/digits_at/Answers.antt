use Rattle.std.proofs.Common.{◌∙◌, sym}
use Rattle.std.specs.Char.{is_ascii_hexdigit}
use Rattle.lalrpop_re.proofs.Lexemes.{cut_at, digits_found, digits_missing, digits_open}
use Rattle.lalrpop_re.proofs.escape_sequence.digits_at.Goals as goal
use Rattle.lalrpop_re.proofs.escape_sequence.digits_at.Goals.{then-is_empty-via-then-is_empty, then-is_empty-via-else-is_empty+then-not-starts_with-2}

pub returns-then-is_empty-clause-value : goal.returns-then-is_empty-clause-value
returns-then-is_empty-clause-value c =
    let t = c.args.text.now in
    let s = c.split_at-2.result in
    let cut = cut_at is_ascii_hexdigit _ c.split_at.result.1.now s.0.now s.1.now c.leading_hex_digits.result c.split_at.ensures.back c.leading_hex_digits.ensures.value c.split_at-2.ensures.front c.split_at-2.ensures.back in
    let open_brace = sym c.starts_with.ensures.value ∙ c.if-not-starts_with.false in
    elim c.then-is_empty.branch [
      | then-is_empty-via-then-is_empty w ↦ digits_missing c.args.count t s.0.now s.1.now open_brace cut (sym c.is_empty.ensures ∙ w.if-is_empty.true)
      | then-is_empty-via-else-is_empty+then-not-starts_with-2 w ↦
          digits_open c.args.count t s.0.now s.1.now open_brace cut (sym w.starts_with-else-is_empty.ensures.value ∙ w.if-not-starts_with-2.true)
    ]

pub returns-clause-value : goal.returns-clause-value
returns-clause-value c =
    let t = c.args.text.now in
    let s = c.split_at-2.result in
    let cut = cut_at is_ascii_hexdigit _ c.split_at.result.1.now s.0.now s.1.now c.leading_hex_digits.result c.split_at.ensures.back c.leading_hex_digits.ensures.value c.split_at-2.ensures.front c.split_at-2.ensures.back in
    digits_found c.args.count t s.0.now s.1.now (sym c.starts_with.ensures.value ∙ c.if-not-starts_with.false) cut (sym c.is_empty.ensures ∙ c.if-is_empty.false)
    (sym c.starts_with-else-is_empty.ensures.value ∙ c.if-not-starts_with-2.false)
