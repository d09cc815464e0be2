use Rattle.std.proofs.Common.{sym, subst}
use Rattle.std.proofs.lemmas.List.{length-map}
use Rattle.reports_lib.specs.NamedRules.{NameOnly}
use Rattle.reports_lib.proofs.Refusals.{fault_said}
use Rattle.reviews_lib.proofs.checked.check_rules.Goals as goal

pub rules_refused-requires : goal.rules_refused-requires
rules_refused-requires c =
    record {
      error = fault_said c.args.file.now.rules.items _ c.in-Err.error (subst (NameOnly c.args.file.now.rules.items) (sym (length-map c.args.file.now.modes.items (λ m. m.now))) c.requires.within) c.in-Err.ensures.fault;
    }
