use Rattle.std.proofs.Common.{ℕ, List, sym, subst, drop}
use Rattle.std.specs.Prelude.{Some}
use Rattle.lalrpop_hir.specs.Longest.{IsLongest}
use Rattle.lalrpop_dense.proofs.Blocks.{ahead_prefix}
use Rattle.lalrpop_dense.proofs.ahead.Ahead.next_found.Goals as goal

pub returns-clause-answer : goal.returns-clause-answer
returns-clause-answer c =
    let i = c.self.inside in
    let first = rw c.in-Some.ensures.some at c.self.invariant.ahead in
    rw (← c.self.view_is) (λ ts ps r.
    subst (λ (p : List ℕ). IsLongest ts ps (drop i.at i.text.now) (Some (c.in-Some.found.index, p))) (sym c.range-slice.ensures.value) (first.0.longest ts ps r))

pub returns-clause-prefix : goal.returns-clause-prefix
returns-clause-prefix c =
    let i = c.self.inside in
    let first = rw c.in-Some.ensures.some at c.self.invariant.ahead in
    rw (← c.self.view_is)
    (ahead_prefix i.dense.now i.text.now c.range-slice.result.now i.at c.in-Some.found.index c.in-Some.found.end c.range-slice.utf8 first.0 c.range-slice.ensures.value)
