use Rattle.std.proofs.Common.{ℕ, map, subst}
use Rattle.std.proofs.lemmas.Result.{err_from_is_err_and}
use Rattle.lalrpop_build.specs.Internal.Ties.{AreOwn}
use Rattle.lalrpop_build.proofs.AllClashes.{distinct_fault}
use Rattle.lalrpop_build.proofs.all_clashes.clashes_of.Goals as goal

pub returns-in_err-expansion-clause-err : goal.returns-in_err-expansion-clause-err
returns-in_err-expansion-clause-err c =
    let p = err_from_is_err_and c.from_residual-in_err-expansion.result c.from_residual-in_err-expansion.ensures.1 in
    rw (p.1, p.2)
    (λ ts k.
    distinct_fault ts (map (λ p. p.0) c.deref.result.now) c.in_err-expansion.field-0.0
    (rw c.deref.ensures.value (subst (λ (n : ℕ). AreOwn n (map (λ p. p.0) c.in_ok-distinct.distinct.items)) k.same_length c.in_ok-distinct.ensures))
    (c.in_err-expansion.ensures.err ts k))
