use Rattle.lalrpop_dense.specs.Internal.Runs.{LeadOnAlike}
use Rattle.lalrpop_dense.proofs.check.lead_on_alike.Given as goal

abbrev pub invariant-loop-class : goal.invariant-loop-class
invariant-loop-class l = LeadOnAlike l.cells l.row l.earlier l.class l.ends l.from
