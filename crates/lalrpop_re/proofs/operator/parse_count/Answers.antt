use Rattle.std.proofs.Common.{◌≡◌, ◌∙◌, ◌&&◌, ◌^◌, nat_lt, ap, sym, drop, length, Some}
use Rattle.std.specs.Char.{is_ascii_digit}
use Rattle.std.specs.List.{prefix_len}
use Rattle.unicode.specs.Binary.{is_white_space}
use Rattle.lalrpop_re.specs.Text.{Text}
use Rattle.lalrpop_re.specs.Operator.{decimal}
use Rattle.lalrpop_re.specs.Internal.Reading.{span}
use Rattle.lalrpop_re.specs.Internal.Views.{text}
use Rattle.lalrpop_re.proofs.Lexemes.{cut_at, count_is, decimal_passes, fit, unfit}
use Rattle.lalrpop_re.proofs.operator.parse_count.Goals as goal

pub decimal_of-requires : goal.decimal_of-requires
decimal_of-requires c =
    let u = text c.skip_white_space.new.cursor in
    let s = c.split_at.result in
    let reached = c.leading_digits.ensures.value ∙ ap (λ (t : Text). prefix_len is_ascii_digit t) (c.rest-2.ensures ∙ sym c.rest.ensures) in
    decimal_passes u s.0.now s.1.now (cut_at is_ascii_digit u c.rest.result.now s.0.now s.1.now c.leading_digits.result c.rest.ensures reached c.split_at.ensures.front c.split_at.ensures.back)

pub returns-in_default-clause-value : goal.returns-in_default-clause-value
returns-in_default-clause-value c =
    let t = text c.args.cursor.now in
    let u = text c.skip_white_space.new.cursor in
    let s = c.split_at.result in
    let reached = c.leading_digits.ensures.value ∙ ap (λ (v : Text). prefix_len is_ascii_digit v) (c.rest-2.ensures ∙ sym c.rest.ensures) in
    let cut = cut_at is_ascii_digit u c.rest.result.now s.0.now s.1.now c.leading_digits.result c.rest.ensures reached c.split_at.ensures.front c.split_at.ensures.back in
    rw c.error.ensures
    (count_is t u s.0.now s.1.now c.skip_white_space.ensures.text cut
    ∙ unfit (nat_lt 0 (length s.0.now) && nat_lt (decimal s.0.now 0) (2 ^ 32)) (decimal s.0.now 0) (span is_white_space s.1.now).1 (sym c.decimal_of.ensures ∙ c.in_default.is))

pub returns-clause-value : goal.returns-clause-value
returns-clause-value c =
    let t = text c.args.cursor.now in
    let u = text c.skip_white_space.new.cursor in
    let s = c.split_at.result in
    let reached = c.leading_digits.ensures.value ∙ ap (λ (v : Text). prefix_len is_ascii_digit v) (c.rest-2.ensures ∙ sym c.rest.ensures) in
    let cut = cut_at is_ascii_digit u c.rest.result.now s.0.now s.1.now c.leading_digits.result c.rest.ensures reached c.split_at.ensures.front c.split_at.ensures.back in
    let behind : text c.advance.new.self ≡ s.1.now =
    c.advance.ensures.text ∙ ap (λ n. drop n u) c.split_at.ensures.front_len ∙ ap (λ (v : Text). drop c.leading_digits.result v) (sym c.rest.ensures) ∙ sym c.split_at.ensures.back in
    count_is t u s.0.now s.1.now c.skip_white_space.ensures.text cut
    ∙ fit (nat_lt 0 (length s.0.now) && nat_lt (decimal s.0.now 0) (2 ^ 32)) (decimal s.0.now 0) c.in-Some.count (span is_white_space s.1.now).1 (sym c.decimal_of.ensures ∙ c.in-Some.is)
    ∙ ap (λ (v : Text). Some (c.in-Some.count, v)) (ap (λ (v : Text). (span is_white_space v).1) (sym behind) ∙ sym c.skip_white_space-2.ensures.text)
