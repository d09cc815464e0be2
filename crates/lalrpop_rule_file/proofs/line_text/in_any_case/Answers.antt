use Rattle.std.proofs.Common.{ℕ, Option, ◌++◌}
use Rattle.std.specs.Prelude.{codes}
use Rattle.lalrpop_rule_file.specs.RuleLine.{Head, InAnyCase}
use Rattle.lalrpop_rule_file.specs.RuleFault.{StopsBefore}
use Rattle.lalrpop_rule_file.specs.declared.stop.Stop.{Stop}
use Rattle.lalrpop_rule_file.proofs.Results.{handed_on}
use Rattle.lalrpop_rule_file.proofs.Stopping.{in_any_case, open_in_any_case}
use Rattle.lalrpop_rule_file.proofs.line_text.in_any_case.Goals as goal

pub returns-in_err-text-clause-stops : goal.returns-in_err-text-clause-stops
returns-in_err-text-clause-stops c =
    let err = c.in_err-text in
    handed_on (λ (s : Stop). (head : Head) (written : Option ℕ) → StopsBefore (InAnyCase head written) (codes "'" ++ c.args.inner.now) s.rest.now s.fault) c.from_residual.result err.field-0.0 c.from_residual.ensures.1
    (rw err.ensures.fault (open_in_any_case _ _ err.ensures.not_closed))

pub returns-clause-any_case : goal.returns-clause-any_case
returns-clause-any_case c = in_any_case _ _ c.in_ok-text.ensures.closed
