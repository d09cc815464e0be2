use Rattle.std.proofs.Common.{◌≡◌, length, ap, arith}
use Rattle.std.proofs.lemmas.Result.{err_from_is_err_and}
use Rattle.lalrpop_build.specs.Internal.Stage.{Stage}
use Rattle.lalrpop_build.proofs.Builds.{built_end, built_few, built_clash, next_given, next_none, at_rows}
use Rattle.lalrpop_build.proofs.build.Expansion.run.Goals as goal

pub returns-in_err-row-clause-err : goal.returns-in_err-row-clause-err
returns-in_err-row-clause-err c =
    let e = c.loop-set.self in
    let inv = c.loop-set.invariant in
    let p = err_from_is_err_and c.from_residual-in_err-row.result c.from_residual-in_err-row.ensures.1 in
    let here = at_rows e.kernels.list e.kernels.place (length e.written.rows) c.in-Some.set (next_given c.in_ok-set.field-0 c.in-Some.set _ _ c.in_ok-set.ensures.given c.in-Some.is) inv.place in
    let moved = c.in_ok-set.ensures.moves in
    rw (p.1, p.2, ← inv.automata, ← inv.precedences)
    (built_clash e.automata.graphs e.precedences e.kernels.list e.origins e.written.rows c.in-Some.set c.in_err-row.field-0.0 inv.built.built here
    (rw (ap (λ (z : Stage). z.precedences) moved, ap (λ (z : Stage). z.origins) moved, ap (λ (z : Stage). z.written) moved) at c.in_err-row.ensures.err))

pub loop-set-smaller : goal.loop-set-smaller
loop-set-smaller c =
    let e = c.loop-set.self in
    let inv = c.loop-set.invariant in
    let here = at_rows e.kernels.list e.kernels.place (length e.written.rows) c.in-Some.set (next_given c.in_ok-set.field-0 c.in-Some.set _ _ c.in_ok-set.ensures.given c.in-Some.is) inv.place in
    let moved = c.in_ok-set.ensures.moves in
    rw (c.in_ok-row.ensures.automata, ap (λ (z : Stage). z.automata) moved)
    (omega (arith, c.in_ok-row.ensures.one, ap (λ (z : Stage). length z.written.rows) moved, built_few e.automata.graphs e.precedences e.kernels.list e.origins e.written.rows c.in-Some.set inv.built.built here))

pub returns-clause-ok : goal.returns-clause-ok
returns-clause-ok c =
    let e = c.loop-set.self in
    let inv = c.loop-set.invariant in
    let moved = c.in_ok-set.ensures.moves in
    let list : c.next.new.self.kernels.list ≡ e.kernels.list = ap (λ (z : Stage). z.kernels.list) moved in
    let origins : c.next.new.self.origins ≡ e.origins = ap (λ (z : Stage). z.origins) moved in
    let written : c.next.new.self.written ≡ e.written = ap (λ (z : Stage). z.written) moved in
    rw (list, origins, written, ← inv.automata, ← inv.precedences)
    (built_end e.automata.graphs e.precedences e.kernels.list e.origins e.written.rows e.kernels.place inv.built.built inv.place (next_none c.in_ok-set.field-0 _ _ c.in_ok-set.ensures.given c.in_default.not-Some))
