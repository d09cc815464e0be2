use Rattle.std.proofs.Common.{◌≡◌, ◌++◌, List, ℕ, false, codes, length, take, drop, string_bytes, sym, ap, ap₂, ◌∙◌, arith}
use Rattle.std.specs.List.{repeat}
use Rattle.std.specs.Str.{chars, encode_utf8_all}
use Rattle.std.proofs.lemmas.List.{take_all}
use Rattle.std.proofs.lemmas.Result.{IfOk-weaker}
use Rattle.std.proofs.lemmas.Str.{chars_from_encodes}
use Rattle.unicode_width.specs.Width.{str_width}
use Rattle.reports_lib.specs.ShownLine.{dots, shown}
use Rattle.reports_lib.proofs.shown_line.pointed_from.Goals as goal

pub returns : goal.returns
returns c =
    let first = c.args.first in
    let signs = c.args.signs.now in
    let before : List ℕ = dots first ++ drop first (take c.args.place signs) in
    let line : string_bytes c.in_ok-line.line ≡ shown first (drop first signs) =
    c.in_ok-line.ensures ∙ ap (shown first) (c.between.ensures ∙ ap (drop first) (take_all (length signs) signs (omega arith))) in
    let text : encode_utf8_all before ≡ c.as_str.result.now =
    sym (c.as_str.ensures.value ∙ c.in_ok-before.ensures ∙ ap (λ (t : List ℕ). encode_utf8_all (dots first ++ t)) c.between-2.ensures) in
    let width : c.width.result ≡ str_width false before = c.width.ensures.value ∙ ap (str_width false) (sym (chars_from_encodes before c.as_str.result.now c.as_str.utf8 text)) in
    let blanks : string_bytes c.in_ok-blanks.blanks ≡ repeat (str_width false before) (codes " ") = c.in_ok-blanks.ensures.bytes ∙ ap (λ n. repeat n (codes " ")) width in
    IfOk-weaker c.format.result _ _ (λ message e. e ∙ ap₂ (λ (l b : List ℕ). codes "    " ++ (l ++ (codes "\n    " ++ (b ++ codes "^\n")))) line blanks) c.format.ensures.ok
