use Rattle.std.proofs.Common.{ℕ, length, map, sym, subst, ◌∙◌}
use Rattle.std.proofs.lemmas.List.{length-map}
use Rattle.lalrpop_rules.specs.ModeClashes.{IsModesFault}
use Rattle.reports_lib.specs.NamedRules.{NameOnly}
use Rattle.reports_lib.proofs.Refusals.{fault_said}
use Rattle.reviews_lib.proofs.listing.list_clashes_of.Goals as goal

pub rules_refused-requires : goal.rules_refused-requires
rules_refused-requires c =
    let fault_is : IsModesFault c.args.file.now.rules.items (length (map (λ m. m.now) c.args.file.now.modes.items)) c.in-Err.error =
    subst (λ (n : ℕ). IsModesFault c.args.file.now.rules.items n c.in-Err.error) (c.len.ensures ∙ c.args.file.now.modes.ok.0 ∙ sym (length-map c.args.file.now.modes.items (λ m. m.now)))
    (rw c.deref.ensures.value at c.in-Err.ensures.error) in
    record {
      error = fault_said c.args.file.now.rules.items _ c.in-Err.error (subst (NameOnly c.args.file.now.rules.items) (sym (length-map c.args.file.now.modes.items (λ m. m.now))) c.requires.within) fault_is;
    }
