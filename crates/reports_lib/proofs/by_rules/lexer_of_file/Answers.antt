use Rattle.std.proofs.Common.{ℕ, length, map, sym, subst}
use Rattle.std.proofs.lemmas.List.{length-map}
use Rattle.lalrpop_rules.specs.ModeSet.{AreModeRules, IsRulesError}
use Rattle.reports_lib.specs.NamedRules.{NameOnly}
use Rattle.reports_lib.proofs.Refusals.{error_said}
use Rattle.reports_lib.proofs.by_rules.lexer_of_file.Goals as goal

pub with_modes-requires : goal.with_modes-requires
with_modes-requires c = record { some = rw c.deref-2.ensures.value c.requires.some }

pub rules_refused-requires : goal.rules_refused-requires
rules_refused-requires c =
    let error_is : IsRulesError c.args.file.now.rules.items (length (map (λ m. m.now) c.args.file.now.modes.items)) c.in-Err.error =
    subst (λ (n : ℕ). IsRulesError c.args.file.now.rules.items n c.in-Err.error) (sym (length-map c.args.file.now.modes.items (λ m. m.now)))
    (rw (c.deref.ensures.value, c.deref-2.ensures.value) at c.in-Err.ensures.error) in
    record { error = error_said c.args.file.now.rules.items _ c.in-Err.error (subst (NameOnly c.args.file.now.rules.items) (sym (length-map c.args.file.now.modes.items (λ m. m.now))) c.requires.within) error_is }

pub returns-in_ok-rules_refused-in-Err-clause-refused : goal.returns-in_ok-rules_refused-in-Err-clause-refused
returns-in_ok-rules_refused-in-Err-clause-refused c =
    let error_is : IsRulesError c.args.file.now.rules.items (length (map (λ m. m.now) c.args.file.now.modes.items)) c.in-Err.error =
    subst (λ (n : ℕ). IsRulesError c.args.file.now.rules.items n c.in-Err.error) (sym (length-map c.args.file.now.modes.items (λ m. m.now)))
    (rw (c.deref.ensures.value, c.deref-2.ensures.value) at c.in-Err.ensures.error) in
    (c.in-Err.error, (error_is, (c.args.file.now.places.items, (c.requires.places, c.in_ok-rules_refused-in-Err.ensures.answer))))

pub returns-in-Ok-clause-lexer : goal.returns-in-Ok-clause-lexer
returns-in-Ok-clause-lexer c =
    let rs = c.args.file.now.rules.items in
    let names = map (λ m. m.now) c.args.file.now.modes.items in
    let are : AreModeRules rs (length names) c.in-Ok.lexer =
    subst (λ (n : ℕ). AreModeRules rs n c.in-Ok.lexer) (sym (length-map c.args.file.now.modes.items (λ m. m.now)))
    (rw (c.deref.ensures.value, c.deref-2.ensures.value) at c.in-Ok.ensures.rules) in
    record { rules = are; no_clash = c.in-Ok.ensures.no_clash }

pub returns-in-Ok-clause-names : goal.returns-in-Ok-clause-names
returns-in-Ok-clause-names c = rw c.deref-2.ensures.value at c.in-Ok.ensures.modes
