use Rattle.std.proofs.Common.{ℕ, length, map, sym, subst, ◌∙◌}
use Rattle.std.proofs.lemmas.List.{length-map}
use Rattle.lalrpop_rules.specs.ModeClashes.{AreModeClashes}
use Rattle.lalrpop_rules.specs.ModeSet.{AreModeRules}
use Rattle.lalrpop_rules.specs.Modes.{ModeRules}
use Rattle.reviews_lib.proofs.checked.told_clashes.Goals as goal

pub returns-in-Ok-clause-told : goal.returns-in-Ok-clause-told
returns-in-Ok-clause-told c =
    let found = map (λ cs. cs.items) c.in_ok-found.found.items in
    let are : (r : ModeRules) × (AreModeRules c.args.file.now.rules.items (length (map (λ m. m.now) c.args.file.now.modes.items)) r
    × AreModeClashes r (map (λ cs. cs.items) c.in_ok-found.found.items)) =
    subst (λ (n : ℕ). (r : ModeRules) × (AreModeRules c.args.file.now.rules.items n r × AreModeClashes r (map (λ cs. cs.items) c.in_ok-found.found.items)))
    (c.len.ensures ∙ c.args.file.now.modes.ok.0 ∙ sym (length-map c.args.file.now.modes.items (λ m. m.now))) (rw c.deref.ensures.value at c.in_ok-found.ensures.clashes) in
    (are.0, (found, (are.1.0, (are.1.1, rw c.deref-2.ensures.value at c.in-Ok.ensures))))
