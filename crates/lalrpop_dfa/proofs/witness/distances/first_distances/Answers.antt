use Rattle.std.proofs.Common.{◌≡◌, ◌∙◌, length, arith}
use Rattle.lalrpop_dfa.proofs.Distances.{ways_at_first}
use Rattle.lalrpop_dfa.proofs.witness.distances.first_distances.Goals as goal

pub returns-clause-ways : goal.returns-clause-ways
returns-clause-ways c =
    let d = c.args.dfa.now in
    let i = c.loop-number.invariant in
    let all : c.loop-number.number ≡ length d = omega (arith, c.loop-number-test.false, c.loop-number.auto.number-end, c.states-number-end.ensures.states.same_length) in
    ways_at_first d c.args.count c.loop-number.distances.items (i.same_length ∙ all)
    (λ p l. i.each p (omega (arith, all)))
