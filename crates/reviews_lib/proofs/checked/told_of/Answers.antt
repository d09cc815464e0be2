use Rattle.std.proofs.Common.{ℕ, length, map, sym, subst, inr}
use Rattle.std.proofs.lemmas.List.{length-map}
use Rattle.lalrpop_rules.specs.ModeSet.{AreModeRules, IsRulesError}
use Rattle.reports_lib.specs.NamedRules.{IsSetOf}
use Rattle.reviews_lib.proofs.checked.told_of.Goals as goal

pub with_modes-requires : goal.with_modes-requires
with_modes-requires c = record { some = rw c.deref-2.ensures.value c.requires.some }

pub told_instead-requires : goal.told_instead-requires
told_instead-requires c = record {
  error = subst (λ (n : ℕ). IsRulesError c.args.file.now.rules.items n c.in-Err.error) (sym (length-map c.args.file.now.modes.items (λ m. m.now)))
      (rw (c.deref.ensures.value, c.deref-2.ensures.value) at c.in-Err.ensures.error);
}

pub returns-in-Ok-told_review-clause-told : goal.returns-in-Ok-told_review-clause-told
returns-in-Ok-told_review-clause-told c =
    let found = c.in-Ok-told_review.ensures in
    let are : AreModeRules c.args.file.now.rules.items (length (map (λ m. m.now) c.args.file.now.modes.items)) c.in-Ok.lexer =
    subst (λ (n : ℕ). AreModeRules c.args.file.now.rules.items n c.in-Ok.lexer) (sym (length-map c.args.file.now.modes.items (λ m. m.now)))
    (rw (c.deref.ensures.value, c.deref-2.ensures.value) at c.in-Ok.ensures.rules) in
    let set : IsSetOf c.args.file.now.rules.items (map (λ m. m.now) c.args.file.now.modes.items) c.in-Ok.lexer = record { rules = are; no_clash = c.in-Ok.ensures.no_clash } in
    inr (c.in-Ok.lexer, (found.0, (set, (found.1.0, found.1.1))))
