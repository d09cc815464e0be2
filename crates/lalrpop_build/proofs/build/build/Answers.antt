use Rattle.std.proofs.Common.{length, map}
use Rattle.std.proofs.lemmas.Result.{err_from_is_err_and}
use Rattle.lalrpop_build.proofs.Builds.{built_all, built_bound}
use Rattle.lalrpop_build.proofs.build.build.Goals as goal

pub returns-in_err-expansion-clause-err : goal.returns-in_err-expansion-clause-err
returns-in_err-expansion-clause-err c =
    let p = err_from_is_err_and c.from_residual.result c.from_residual.ensures.1 in
    rw (p.1, p.2) (λ ts k. c.in_err-expansion.ensures.err ts k)

pub new-requires : goal.new-requires
new-requires c = rw c.into_rows.ensures (built_all c.args.nfas.now (map (λ p. p.0) c.args.precedences.now) c.in_ok-expansion.expansion.kernels.list c.in_ok-expansion.expansion.origins c.in_ok-expansion.expansion.written.rows c.in_ok-expansion.ensures.ok c.requires.automata.0 c.requires.automata.1).2

pub returns-clause-stands : goal.returns-clause-stands
returns-clause-stands c ts k =
    let all = built_all c.args.nfas.now (map (λ p. p.0) c.args.precedences.now) c.in_ok-expansion.expansion.kernels.list c.in_ok-expansion.expansion.origins c.in_ok-expansion.expansion.written.rows c.in_ok-expansion.ensures.ok ts k in
    rw (c.in_ok-new.ensures, c.into_rows.ensures) (all.0, all.1)

pub returns-clause-bound : goal.returns-clause-bound
returns-clause-bound c =
    rw (c.in_ok-new.ensures, c.into_rows.ensures) (built_bound c.args.nfas.now (map (λ p. p.0) c.args.precedences.now) c.in_ok-expansion.expansion.kernels.list c.in_ok-expansion.expansion.origins c.in_ok-expansion.expansion.written.rows (length c.in_ok-expansion.expansion.kernels.list) c.in_ok-expansion.ensures.ok)

pub returns-clause-items : goal.returns-clause-items
returns-clause-items c =
    rw (c.in_ok-new.ensures, c.into_rows.ensures) (built_all c.args.nfas.now (map (λ p. p.0) c.args.precedences.now) c.in_ok-expansion.expansion.kernels.list c.in_ok-expansion.expansion.origins c.in_ok-expansion.expansion.written.rows c.in_ok-expansion.ensures.ok c.requires.automata.0 c.requires.automata.1).3

pub returns-clause-others : goal.returns-clause-others
returns-clause-others c =
    rw (c.in_ok-new.ensures, c.into_rows.ensures) (built_all c.args.nfas.now (map (λ p. p.0) c.args.precedences.now) c.in_ok-expansion.expansion.kernels.list c.in_ok-expansion.expansion.origins c.in_ok-expansion.expansion.written.rows c.in_ok-expansion.ensures.ok c.requires.automata.0 c.requires.automata.1).4

pub returns-clause-order : goal.returns-clause-order
returns-clause-order c =
    rw (c.in_ok-new.ensures, c.into_rows.ensures) (built_all c.args.nfas.now (map (λ p. p.0) c.args.precedences.now) c.in_ok-expansion.expansion.kernels.list c.in_ok-expansion.expansion.origins c.in_ok-expansion.expansion.written.rows c.in_ok-expansion.ensures.ok c.requires.automata.0 c.requires.automata.1).5
