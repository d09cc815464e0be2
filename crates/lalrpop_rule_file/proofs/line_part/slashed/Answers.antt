use Rattle.std.proofs.Common.{[], ◌++◌, codes, refl}
use Rattle.lalrpop_rule_file.specs.RuleLine.{Defines}
use Rattle.lalrpop_rule_file.specs.RuleFault.{StopsBefore}
use Rattle.lalrpop_rule_file.specs.declared.stop.Stop.{Stop}
use Rattle.lalrpop_rule_file.proofs.PartLines.{not_slashed, slashed}
use Rattle.lalrpop_rule_file.proofs.Results.{handed_on}
use Rattle.lalrpop_rule_file.proofs.line_part.slashed.Goals as goal

pub returns-in_err-pattern-clause-stops : goal.returns-in_err-pattern-clause-stops
returns-in_err-pattern-clause-stops c =
    let err = c.in_err-pattern in
    handed_on (λ (s : Stop). StopsBefore (Defines c.args.name.name.now) (codes "/" ++ c.args.inner.now) s.rest.now s.fault) c.from_residual.result err.field-0.0 c.from_residual.ensures.1
    (rw err.ensures.fault (not_slashed c.args.name.name.now _ _ err.ensures.not_closed))

pub returns-clause-part : goal.returns-clause-part
returns-clause-part c = slashed c.args.name.name.now _ _ c.in_ok-pattern.ensures.closed

pub returns-clause-pattern : goal.returns-clause-pattern
returns-clause-pattern c = let closed = c.in_ok-pattern.ensures.closed in ([], (refl, (closed.0, (closed.1.0, closed.1.2))))
