use Rattle.std.proofs.Common.{◌<◌, ap, length, subst, arith}
use Rattle.lalrpop_dfa.specs.Internal.Ranks.{IsNearer, unknown}
use Rattle.lalrpop_dfa.proofs.Distances.{nearest_found, none_near}
use Rattle.lalrpop_dfa.proofs.witness.distances.distances.Goals as goal

pub nearer-one_more-requires-clause-same_length : goal.nearer-one_more-requires-clause-same_length
nearer-one_more-requires-clause-same_length c =
    let ways = c.in_ok-states.ensures.ways c.args.count c.in_ok-first_distances.ensures.ways in
    omega (arith, ap length c.deref.ensures.value, ways.same_length)

pub returns-then-one_more-clause-none : goal.returns-then-one_more-clause-none
returns-then-one_more-clause-none c =
    let d = c.args.dfa.now in
    let ways = c.in_ok-states.ensures.ways c.args.count c.in_ok-first_distances.ensures.ways in
    let small : length d < unknown = omega (arith, ways.same_length, c.deref.type_inv.0, ap length c.deref.ensures.value) in
    let nearer = subst (λ xs. IsNearer d xs 0 unknown c.nearer-one_more.result) c.deref.ensures.value c.nearer-one_more.ensures.nearer in
    none_near d c.args.count c.in_ok-states.states.items ways c.in_ok-states.ensures.still c.in_ok-first_distances.ensures.well_formed small c.nearer-one_more.result nearer
    c.if-one_more.true

pub returns-clause-found : goal.returns-clause-found
returns-clause-found c =
    let d = c.args.dfa.now in
    let ways = c.in_ok-states.ensures.ways c.args.count c.in_ok-first_distances.ensures.ways in
    let small : length d < unknown = omega (arith, ways.same_length, c.deref.type_inv.0, ap length c.deref.ensures.value) in
    let nearer = subst (λ xs. IsNearer d xs 0 unknown c.nearer-one_more.result) c.deref.ensures.value c.nearer-one_more.ensures.nearer in
    nearest_found d c.args.count c.in_ok-states.states.items ways c.in_ok-states.ensures.still c.in_ok-first_distances.ensures.well_formed small c.nearer-one_more.result nearer
    c.if-one_more.false
