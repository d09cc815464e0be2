-- Cases of specs/Warnings.antt.
use Rattle.std.proofs.Common.{◌≡◌, ℕ, zero, suc, inl, inr, List, [], ◌∷◌, refl, ap, arith, Bor}
use Rattle.std.specs.Prelude.{codes}
use Rattle.std.specs.Str.Iter.{HasSubslice}
use Rattle.bajofeki_rules.specs.declared.rule_text.RuleText.TheVariants as texts
use Rattle.bajofeki_rules.specs.EnteredModes.{first_mode}
use Rattle.lalrpop_rule_file.specs.declared.file.RuleFile.{RuleFile}
use Rattle.lalrpop_rule_file.specs.declared.file_rule.FileRule.{FileRule}
use Rattle.lalrpop_rule_file.specs.declared.part_line.PartLine.{PartLine}
use Rattle.lalrpop_rule_file.specs.declared.warning.Warning.TheVariants.{NoRules, PartUnused, ModeNotEntered, ModeNotLeft}
use Rattle.lalrpop_rule_file.specs.Warnings.{AreInOrder, ComesBefore, IsWarning, StandsIn, StandsInPart, StandsInRule, reference}

reference_of_d : reference (codes "D") ≡ codes "{D}"
reference_of_d = refl

stands_in_the_middle : HasSubslice (codes "a{D}b") (reference (codes "D"))
stands_in_the_middle = (codes "a", codes "b", refl)

literals_name_no_part : (bytes : List ℕ) (text : Bor (List ℕ)) → ¬ StandsIn bytes (texts.Literal text)
literals_name_no_part bytes text is = is

no_part_behind_the_last : (bytes : List ℕ) (p : PartLine) → ¬ StandsInPart bytes 0 (p ∷ [])
no_part_behind_the_last bytes p (zero, (q, (less, at, stands))) = omega (arith, less)
no_part_behind_the_last bytes p (suc j, (q, (less, at, stands))) = absurd (cc)

rule_below : (r : FileRule) (text : Bor (List ℕ)) → r.known ≡ 1 → r.rule.text ≡ texts.Pattern text → text.now ≡ codes "a{D}b" → StandsInRule (reference (codes "D")) 0 (r ∷ [])
rule_below r text known pattern is = (0, (r, (omega (arith, known), refl, rw pattern (rw is stands_in_the_middle))))

rule_above : (bytes : List ℕ) (r : FileRule) → r.known ≡ 0 → ¬ StandsInRule bytes 0 (r ∷ [])
rule_above bytes r known (zero, (q, (less, at, stands))) = let same : q ≡ r = cc in omega (arith, less, known, ap (λ (x : FileRule). x.known) same)
rule_above bytes r known (suc j, (q, (less, at, stands))) = absurd (cc)

-- ---- rules and modes

no_rules : (file : RuleFile) → file.rules.items ≡ [] → IsWarning file NoRules
no_rules file none = none

first_mode_is_entered : (file : RuleFile) → ¬ IsWarning file (ModeNotEntered 0)
first_mode_is_entered file is = is.1 first_mode

first_mode_needs_no_end : (file : RuleFile) → ¬ IsWarning file (ModeNotLeft 0)
first_mode_needs_no_end file is = omega (arith, is.0)

-- ---- the order

kinds_in_order : ComesBefore (PartUnused 7) (ModeNotEntered 0)
kinds_in_order = inl (omega arith)

numbers_in_order : ComesBefore (ModeNotLeft 1) (ModeNotLeft 2)
numbers_in_order = inr (refl, omega arith)

not_before_itself : ¬ ComesBefore (ModeNotEntered 1) (ModeNotEntered 1)
not_before_itself (inl less) = omega (arith, less)
not_before_itself (inr (same, less)) = omega (arith, less)

none_in_order : AreInOrder []
none_in_order i j v w less at behind = absurd (cc)

two_alike : ¬ AreInOrder (NoRules ∷ NoRules ∷ [])
two_alike all = elim (all 0 1 NoRules NoRules (omega arith) refl refl) [ inl less ↦ omega (arith, less) | inr both ↦ omega (arith, both.1) ]
