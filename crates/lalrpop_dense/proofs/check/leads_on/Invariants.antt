use Rattle.lalrpop_dense.specs.Internal.Runs.{LeadsOn}
use Rattle.lalrpop_dense.proofs.check.leads_on.Given as goal

abbrev pub invariant-loop-class : goal.invariant-loop-class
invariant-loop-class l = LeadsOn l.cells l.row l.target l.class l.ends l.from
