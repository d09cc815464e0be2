use Rattle.std.proofs.Common.{ℕ, Option, ◌∷◌}
use Rattle.lalrpop_rule_file.specs.LineText.{delimiter}
use Rattle.lalrpop_rule_file.specs.Internal.Values.{form_of}
use Rattle.lalrpop_rule_file.specs.Internal.Stops.{StopsText}
use Rattle.lalrpop_rule_file.specs.declared.stop.Stop.{Stop}
use Rattle.lalrpop_rule_file.proofs.Results.{handed_on}
use Rattle.lalrpop_rule_file.proofs.Stopping.{not_quoted, quoted}
use Rattle.lalrpop_rule_file.proofs.line_text.quoted.Goals as goal

pub returns-in_err-text-clause-stops : goal.returns-in_err-text-clause-stops
returns-in_err-text-clause-stops c =
    let err = c.in_err-text in
    handed_on (λ (s : Stop). (written : Option ℕ) → StopsText written (delimiter (form_of c.args.form) ∷ c.args.inner.now) s.rest.now s.fault) c.from_residual.result err.field-0.0 c.from_residual.ensures.1
    (rw err.ensures.fault (not_quoted (form_of c.args.form) _ _ err.ensures.not_closed))

pub returns-clause-quoted : goal.returns-clause-quoted
returns-clause-quoted c = quoted (form_of c.args.form) _ _ c.in_ok-text.ensures.closed
