use Rattle.std.proofs.Common.{◌≡◌, ◌++◌, List, ℕ, length, take, string_bytes, sym, ap, ◌∙◌, append-nil}
use Rattle.std.specs.Char.{encode_utf8}
use Rattle.std.specs.Str.{encode_utf8_all}
use Rattle.reports_lib.specs.ShownLine.{dots}
use Rattle.reports_lib.proofs.LineLaws.{dots_for_none, dots_for_some, dots_pushed}
use Rattle.reports_lib.proofs.shown_line.shown.Goals as goal
use Rattle.reports_lib.proofs.shown_line.shown.Goals.{then-signs-gt-MOST_SHOWN+in_ok-push, else-signs-gt-MOST_SHOWN}

pub returns : goal.returns
returns c =
    let signs = c.args.signs.now in
    let front : List ℕ = dots c.args.before in
    let first : string_bytes c.in_ok-text.text ≡ encode_utf8_all (front ++ take 160 signs) = c.in_ok-text.ensures ∙ ap (λ (t : List ℕ). encode_utf8_all (front ++ t)) c.between.ensures in
    elim c.if-signs-gt-MOST_SHOWN.branch [
      | then-signs-gt-MOST_SHOWN+in_ok-push w ↦
          ap string_bytes w.text-is ∙ w.in_ok-push.ensures.bytes ∙ ap (λ (t : List ℕ). t ++ encode_utf8 8230) first ∙ dots_pushed front (take 160 signs) 8230
          ∙ ap (λ (d : List ℕ). encode_utf8_all (front ++ (take 160 signs ++ d))) (sym (dots_for_some (length signs) 160 w.if-signs-gt-MOST_SHOWN.true))
      | else-signs-gt-MOST_SHOWN w ↦
          ap string_bytes w.text-is ∙ first ∙ ap (λ (t : List ℕ). encode_utf8_all (front ++ t)) (sym (append-nil (take 160 signs)))
          ∙ ap (λ (d : List ℕ). encode_utf8_all (front ++ (take 160 signs ++ d))) (sym (dots_for_none (length signs) 160 w.if-signs-gt-MOST_SHOWN.false))
    ]
