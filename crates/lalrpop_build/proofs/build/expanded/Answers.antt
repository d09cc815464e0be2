use Rattle.std.proofs.Common.{◌∙◌, ap}
use Rattle.std.proofs.lemmas.Result.{err_from_is_err_and}
use Rattle.lalrpop_build.specs.Internal.Labelled.{Labelled}
use Rattle.lalrpop_build.proofs.build.expanded.Goals as goal

pub returns-in_err-run-clause-err : goal.returns-in_err-run-clause-err
returns-in_err-run-clause-err c =
    let p = err_from_is_err_and c.from_residual-in_err-run.result c.from_residual-in_err-run.ensures.1 in
    rw (p.1, p.2) (λ ts k. (rw c.in_ok-expansion.ensures.precedences at (c.in_err-run.ensures.err ts (rw c.in_ok-expansion.ensures.graphs k))))

pub returns-clause-ok : goal.returns-clause-ok
returns-clause-ok c = rw (c.in_ok-expansion.ensures.graphs, c.in_ok-expansion.ensures.precedences) at c.in_ok-run.ensures.ok

pub returns-clause-graphs : goal.returns-clause-graphs
returns-clause-graphs c = ap (λ (a : Labelled). a.graphs) c.in_ok-run.ensures.automata ∙ c.in_ok-expansion.ensures.graphs
