-- Cases of specs/NamedRules.antt.
use Rattle.std.proofs.Common.{◌≡◌, ◌≤◌, ℕ, List, [], ◌∷◌, ◌++◌, refl, ap, arith, ◌∙◌}
use Rattle.std.specs.Prelude.{max}
use Rattle.lalrpop_hir.specs.Clashes.{Entry}
use Rattle.lalrpop_hir.specs.declared.error.NfaConstructionError.TheVariants.{LookAround}
use Rattle.lalrpop_rules.specs.declared.error.RulesError.TheVariants.{NotCompiled, OutOfMemory}
use Rattle.bajofeki_rules.specs.declared.mode_rule.ModeRule.{ModeRule}
use Rattle.reports_lib.specs.Answer.{Answer, refusal, remark}
use Rattle.lexdfa_lib.specs.declared.layout.LineForm.{LineForm}
use Rattle.lexdfa_lib.specs.declared.layout.LineForm.TheVariants.{Plain}
use Rattle.reports_lib.specs.NamedRules.{rules_status, ErrorAnswer, clashes_status, WarnedAnswer}
use Rattle.lexdfa_lib.specs.declared.command.Verbosity.{Verbosity}
use Rattle.lexdfa_lib.specs.declared.command.Verbosity.TheVariants.{Quiet}

-- a rule that can't be compiled
refused : rules_status (NotCompiled 0 LookAround) ≡ 2
refused = refl

-- no clash in two modes, and one in the second
statuses : (c : Entry) → (clashes_status ([] ∷ [] ∷ []) ≡ 0) × (clashes_status ([] ∷ (c ∷ []) ∷ []) ≡ 2)
statuses c = (refl, refl)

-- memory that was refused is no error of the rules that is told
memory_is_not_told : (file : List ℕ) (ls modes : List (List ℕ)) (rs : List ModeRule) (answer : Answer) → ¬ ErrorAnswer file ls modes rs OutOfMemory answer
memory_is_not_told file ls modes rs answer (places, (are, (said, (says, e)))) = says

-- a warning that is a remark changes neither the status nor what is written
only_said : (verbosity : Verbosity) (Is : Answer → Type 0) (file : List ℕ) (ls : List (List ℕ)) (answer : Answer) → WarnedAnswer Plain remark verbosity Is file ls answer
    → (own : Answer) × (Is own × ((answer.status ≡ own.status) × (answer.out ≡ own.out)))
only_said verbosity Is file ls answer (said, (warned, (own, (is, e)))) =
    let status : answer.status ≡ max 0 own.status = ap (λ (a : Answer). a.status) e in
    (own, (is, (omega (arith, status), ap (λ (a : Answer). a.out) e)))

-- and with --quiet nothing is said before the answer
quiet_is_as_before : (Is : Answer → Type 0) (file : List ℕ) (ls : List (List ℕ)) (answer : Answer) → WarnedAnswer Plain remark Quiet Is file ls answer
    → (own : Answer) × (Is own × (answer.err ≡ own.err))
quiet_is_as_before Is file ls answer (said, ((rules, (are, none)), (own, (is, e)))) =
    (own, (is, ap (λ (a : Answer). a.err) e ∙ ap (λ (bytes : List ℕ). bytes ++ own.err) none))

-- one that has a status counts
counted : (form : LineForm) (verbosity : Verbosity) (Is : Answer → Type 0) (file : List ℕ) (ls : List (List ℕ)) (answer : Answer) → WarnedAnswer form (refusal 1) verbosity Is file ls answer
    → 1 ≤ answer.status
counted form verbosity Is file ls answer (said, (warned, (own, (is, e)))) =
    let status : answer.status ≡ max 1 own.status = ap (λ (a : Answer). a.status) e in
    omega (arith, status)
