use Rattle.std.proofs.Common.{◌≡◌, ◌-◌, ◌+◌, ◌<◌, get_or, length, set, subst, arith}
use Rattle.lalrpop_dfa.specs.Internal.Ranks.{IsNearer}
use Rattle.lalrpop_dfa.proofs.Distances.{IsSpreading, spreading_end, spreading_first, spreading_more}
use Rattle.lalrpop_dfa.proofs.witness.distances.spread.Goals as goal

pub loop-back-init : goal.loop-back-init
loop-back-init c =
    let d = c.args.dfa.now in
    subst (IsSpreading d c.args.distances.now c.args.distances.now) (omega (arith, c.states-count.ensures.states.same_length)) (spreading_first d c.args.distances.now)

pub loop-back-preserved : goal.loop-back-preserved
loop-back-preserved c =
    let d = c.args.dfa.now in
    let old = c.args.distances.now in
    let new = c.loop-back.distances in
    let count = length c.states-count.result.now in
    let place = count - 1 - c.loop-back.back in
    let value = c.nearer.result in
    let same : count ≡ length d = c.states-count.ensures.states.same_length in
    let long : length new ≡ length d = omega (arith, c.loop-back.auto.distances, c.requires.same_length) in
    let on : count - c.loop-back.back ≡ place + 1 = omega (arith, c.loop-back-test.true) in
    let there : place ≡ count - (c.loop-back.back + 1) = omega arith in
    let within : place < length d = omega (arith, c.loop-back-test.true, same) in
    let less = subst (λ p. IsNearer d new p (get_or new place 0) value) c.new-state.ensures.value c.nearer.ensures.nearer in
    subst (IsSpreading d old (set new place value)) there
    (spreading_more d old new place (count - c.loop-back.back) value on c.loop-back.invariant long within c.states-count.ensures.well_formed c.nearer.ensures.fits less)

pub returns : goal.returns
returns c =
    let d = c.args.dfa.now in
    spreading_end d c.args.distances.now c.loop-back.distances (subst (IsSpreading d c.args.distances.now c.loop-back.distances) (omega (arith, c.loop-back-test.false)) c.loop-back.invariant)
