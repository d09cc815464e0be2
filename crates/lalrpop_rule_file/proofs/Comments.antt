-- A line that is blank or a comment.
use Rattle.std.proofs.Common.{◌≡◌, ◌≢◌, ℕ, inl, inr, Option, Some, None, List, ◌∷◌, ◌++◌, length, refl, ap, ◌∙◌, Bor}
use Rattle.std.specs.Prelude.{IfSome, IfNone, codes}
use Rattle.std.specs.Option.{is_some}
use Rattle.std.specs.Bool.{MatchBool}
use Rattle.lalrpop_rule_file.specs.Words.{is_blank, IsSpan}
use Rattle.lalrpop_rule_file.specs.RuleFile.{IsBlankOrComment}
use Rattle.lalrpop_rule_file.proofs.Spans.{IsSpan-unique, nothing_left}

-- after blanks stands a `#` or something else
pub comment_test : (line front here : List ℕ) (found : Option (Bor (List ℕ))) → IsSpan is_blank line front here → (length here ≡ 0 → ⊥) → IfSome found (λ rest. here ≡ 35 ∷ rest.now) → IfNone found ((rest : List ℕ) → here ≢ 35 ∷ rest) → MatchBool (is_some found) (IsBlankOrComment line) (¬ IsBlankOrComment line)
comment_test line front here (Some rest) span some is none =
    inr (front, (rest.now, (span.parts ∙ ap (λ (x : List ℕ). front ++ x) is, span.passes)))
comment_test line front here None span some is none = neither
  where
    neither : ¬ IsBlankOrComment line
    neither (inl blanks) = some (nothing_left is_blank line front here span blanks)
    neither (inr (lead, (comment, (parts, blanks)))) =
        let own : IsSpan is_blank line lead (codes "#" ++ comment) = record { parts = parts; passes = blanks; stops = refl } in
        none comment (IsSpan-unique is_blank line front here lead (codes "#" ++ comment) span own).1
