use Rattle.std.proofs.Common.{◌*◌, ◌+◌, arith, ap, ℕ}
use Rattle.lalrpop_emit.specs.Internal.Lists.{list_numbers}
use Rattle.lalrpop_emit.specs.Internal.Standings.{place_in}
use Rattle.lalrpop_emit.proofs.RegularSteps.{place_small}
use Rattle.lalrpop_emit.proofs.regular_ahead.target.Goals as goal

pub overflow_cast-result : goal.overflow_cast-result
overflow_cast-result c =
    let small = place_small (list_numbers c.args.table.now) c.args.shape c.requires.regular c.requires.stride c.args.width c.requires.width c.args.standing c.args.column c.requires.among c.requires.column c.requires.few in
    let is = ap (λ (n : ℕ). n * (c.args.width + 1)) c.place_in.ensures.place in
    let led = ap (λ x. place_in c.args.shape x * (c.args.width + 1)) c.by_column.ensures in
    record { fits = omega (arith, small, is, led) }

pub returns-clause-small : goal.returns-clause-small
returns-clause-small c =
    let small = place_small (list_numbers c.args.table.now) c.args.shape c.requires.regular c.requires.stride c.args.width c.requires.width c.args.standing c.args.column c.requires.among c.requires.column c.requires.few in
    let is = ap (λ (n : ℕ). n * (c.args.width + 1)) c.place_in.ensures.place in
    let led = ap (λ x. place_in c.args.shape x * (c.args.width + 1)) c.by_column.ensures in
    omega (arith, small, is, led)
