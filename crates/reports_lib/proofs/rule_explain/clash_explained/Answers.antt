use Rattle.std.proofs.Common.{◌≡◌, ◌++◌, ℕ, List, refl, ap, ap₂, ◌∙◌}
use Rattle.bajofeki_rules.specs.Lines.{lines}
use Rattle.reports_lib.specs.ShownLine.{numbered}
use Rattle.std.proofs.lemmas.Result.{IfOk-weaker}
use Rattle.bajofeki_rules.specs.declared.position.Position.{Position}
use Rattle.lalrpop_rules.specs.ModeSet.{rules_of}
use Rattle.bajofeki_rules.specs.declared.mode_rule.ModeRule.{ModeRule}
use Rattle.lalrpop_rules.specs.RuleSet.{names_of}
use Rattle.reports_lib.specs.PieceLines.{name_at}
use Rattle.reports_lib.specs.Reasons.{clash_text, mode_said}
use Rattle.reports_lib.proofs.rule_explain.clash_explained.Goals as goal

same_clash : (l m e f : ℕ) (l_name m_name e_name f_name i j v w shown other a b : List ℕ) → l ≡ m → l_name ≡ m_name → e ≡ f → e_name ≡ f_name → i ≡ j → v ≡ w → shown ≡ other
    → a ≡ b → clash_text l l_name e e_name i v shown a ≡ clash_text m m_name f f_name j w other b
same_clash l m e f l_name m_name e_name f_name i j v w shown other a b p q r s k t x u = rw (p, q, r, s, k, t, x, u) refl

pub returns : goal.returns
returns c =
    let line : Position → ℕ = λ p. p.line in
    let later_name = c.name_of-later_name.ensures.name ∙ ap (λ (r : List ModeRule). name_at (names_of (rules_of r)) c.args.rules.1) c.deref-2.ensures.value in
    let earlier_name = c.name_of-earlier_name.ensures.name ∙ ap (λ (r : List ModeRule). name_at (names_of (rules_of r)) c.args.rules.0) c.deref.ensures.value in
    record {
      said = IfOk-weaker c.clash_told.result _ _
          (λ message e.
          e ∙ same_clash _ _ _ _ _ _ _ _ _ _ _ _ _ _ _ _ (ap line c.place_of-later.ensures) later_name (ap line c.place_of-earlier.ensures) earlier_name
          (c.as_str.ensures.value ∙ c.in_ok-mode.ensures.shown ∙ ap mode_said (rw c.deref-3.ensures.value at c.mode_named.ensures.name))
          (c.as_str-2.ensures.value ∙ c.in_ok-quoted.ensures.quoted)
          (c.as_str-3.ensures.value ∙ c.in_ok-lines.ensures
          ∙ ap₂ (λ (p q : ℕ). numbered (lines c.args.bytes.now) p ++ numbered (lines c.args.bytes.now) q) (ap line c.place_of-earlier.ensures) (ap line c.place_of-later.ensures))
          c.clash_advice-advice.ensures.text)
          c.clash_told.ensures.told;
    }
