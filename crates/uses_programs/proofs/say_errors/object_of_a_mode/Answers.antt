use Rattle.std.proofs.Common.{◌≡◌, ℕ, zero, suc, inl, inr, List, [], ◌∷◌, ◌++◌, codes, flat_map, append-nil, refl, sym, ap, subst, ◌∙◌, arith, Contains}
use Rattle.std.proofs.lemmas.Result.{IfOk-weaker}
use Rattle.bajofeki_rules.specs.Lines.{lines}
use Rattle.bajofeki_rules.specs.declared.position.Position.{Position}
use Rattle.lalrpop_rule_file.specs.FileModes.{Said}
use Rattle.lalrpop_rule_file.specs.RuleFile.{LinesSay, without_mark}
use Rattle.lalrpop_rule_file.specs.Warnings.{ComesBefore}
use Rattle.lalrpop_rule_file.specs.declared.file.RuleFile.{RuleFile}
use Rattle.lalrpop_rule_file.specs.declared.warning.Warning.{Warning}
use Rattle.lalrpop_rule_file.specs.declared.warning.Warning.TheVariants.{ModeNotEntered}
use Rattle.tokens_lib.specs.PieceLines.{string_member, object_line}
use Rattle.tokens_lib.specs.ModePlace.{section_place}
use Rattle.tokens_lib.specs.Warned.{AreWarnings, SaysWarnings, mode_name, warned_members, warning_members, warning_text}
use Rattle.lexdfa_lib.specs.declared.layout.LineForm.TheVariants.{Json}
use Rattle.uses_programs.proofs.say_errors.object_of_a_mode.Goals as goal

is_it : (x w : Warning) → Contains (x ∷ []) w → w ≡ x
is_it x w (zero, within, is) = sym is
is_it x w (suc k, within, is) = absurd (omega (arith, within))

not_before_itself : (w : Warning) → ¬ ComesBefore w w
not_before_itself w (inl less) = omega (arith, less)
not_before_itself w (inr (same, less)) = omega (arith, less)

-- the warnings are one, if it is the only one
one_alone : (file : RuleFile) (x : Warning) (ws : List Warning) → AreWarnings file (x ∷ []) → AreWarnings file ws → ws ≡ x ∷ []
one_alone file x [] one are = let none = (are.all x).1 ((one.all x).0 (0, omega arith, refl)) in absurd (omega (arith, none.1))
one_alone file x (w ∷ []) one are = ap (λ (v : Warning). v ∷ []) (is_it x w ((one.all w).1 ((are.all w).0 (0, omega arith, refl))))
one_alone file x (v ∷ w ∷ ws) one are =
    let first : v ≡ x = is_it x v ((one.all v).1 ((are.all v).0 (0, omega arith, refl))) in
    let second : w ≡ x = is_it x w ((one.all w).1 ((are.all w).0 (1, omega arith, refl))) in
    absurd (not_before_itself x (subst (λ (y : Warning). ComesBefore y x) first (subst (ComesBefore v) second (are.in_order 0 1 v w (omega arith) refl refl))))

object_of : (name : List ℕ) (ls : List (List ℕ)) (file : RuleFile) (object : List ℕ) → AreWarnings file (ModeNotEntered 0 ∷ []) → SaysWarnings Json name ls file object
    → (said : List Said) → LinesSay ls said → object ≡ object_line (warning_members name (section_place 1 ls said) file (ModeNotEntered 0))
object_of name ls file object one (section, (tells, (ws, (are, e)))) said say =
    e ∙ ap (flat_map (warning_text Json name section file)) (one_alone file (ModeNotEntered 0) ws one are) ∙ append-nil (object_line (warning_members name section file (ModeNotEntered 0)))
    ∙ ap (λ (p : Position). object_line (warned_members name p (codes "mode-not-entered") ++ string_member (codes "mode") (mode_name file 0))) (tells said say (mode_name file 0))

pub returns : goal.returns
returns c = record {
  object = IfOk-weaker c.warnings_json.result _ _
      (λ object says. object_of (codes "f") (lines (without_mark c.args.bytes.now)) c.args.file.now object.items c.requires.warning says) c.warnings_json.ensures.objects;
}
