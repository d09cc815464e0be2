use Rattle.std.proofs.Common.{ℕ, Option, ◌++◌}
use Rattle.std.specs.Prelude.{codes}
use Rattle.lalrpop_rule_file.specs.RuleLine.{Head, From}
use Rattle.lalrpop_rule_file.specs.RuleFault.{StopsBefore}
use Rattle.lalrpop_rule_file.specs.declared.stop.Stop.{Stop}
use Rattle.lalrpop_rule_file.proofs.Results.{handed_on}
use Rattle.lalrpop_rule_file.proofs.Stopping.{from_a_to_b, no_b, without_to}
use Rattle.lalrpop_rule_file.proofs.line_text.joined.Goals as goal

pub returns-in_default-clause-stops : goal.returns-in_default-clause-stops
returns-in_default-clause-stops c = without_to _ _ _ c.in_default.ensures.none c.from_apostrophe.ensures.1

pub returns-in_err-to-clause-stops : goal.returns-in_err-to-clause-stops
returns-in_err-to-clause-stops c =
    let err = c.in_err-to in
    handed_on (λ (s : Stop). (head : Head) (written : Option ℕ) → StopsBefore (From head written) (codes "'" ++ c.args.inner.now) s.rest.now s.fault) c.from_residual.result err.field-0.0 c.from_residual.ensures.1
    (rw err.ensures.fault (no_b _ _ _ _ c.in-Some.ensures.some err.ensures.not_closed))

pub returns-clause-joined : goal.returns-clause-joined
returns-clause-joined c = from_a_to_b _ _ _ _ c.in-Some.ensures.some c.in_ok-to.ensures.closed
