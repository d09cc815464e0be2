use Rattle.std.proofs.Common.{◌≡◌, ◌-◌, ◌+◌, ◌<◌, get_or, length, set, subst, arith}
use Rattle.lalrpop_dfa.specs.Internal.Ranks.{IsShallower}
use Rattle.lalrpop_dfa.proofs.Depths.{IsRising, rising_end, rising_first, rising_more, rising_past}
use Rattle.lalrpop_dfa.proofs.witness.depths.rise.Goals as goal
use Rattle.lalrpop_dfa.proofs.witness.depths.rise.Goals.{then-depths-number-gt0, else-depths-number-gt0}

pub loop-back-init : goal.loop-back-init
loop-back-init c =
    let d = c.args.dfa.now in
    subst (IsRising d c.args.depths.now c.args.depths.now) (omega (arith, c.states-count.ensures.states.same_length)) (rising_first d c.args.depths.now)

pub loop-back-preserved : goal.loop-back-preserved
loop-back-preserved c =
    let d = c.args.dfa.now in
    let old = c.args.depths.now in
    let new = c.loop-back.depths in
    let count = length c.states-count.result.now in
    let place = count - 1 - c.loop-back.back in
    let next = count - c.loop-back.back in
    let same = c.states-count.ensures.states.same_length in
    let long : length new ≡ length d = omega (arith, c.loop-back.auto.depths, c.requires.same_length) in
    let on : next ≡ place + 1 = omega (arith, c.loop-back-test.true) in
    let within : place < length d = omega (arith, c.loop-back-test.true, same) in
    let there : place ≡ count - (c.loop-back.back + 1) = omega arith in
    let h = c.loop-back.invariant in
    let well = c.states-count.ensures.well_formed in
    elim c.if-depths-number-gt0.branch [
      | then-depths-number-gt0 w ↦
          (let less : IsShallower d new place (get_or new place 0) w.shallower.result = subst (λ p. IsShallower d new p (get_or new place 0) w.shallower.result) w.new-state.ensures.value w.shallower.ensures in
          rw w.depths-is
          (subst (λ k. IsRising d old (set new place w.shallower.result) k) there (rising_more d old new place next on h long within well w.shallower.result less)))
      | else-depths-number-gt0 w ↦
          rw w.depths-is
          (subst (λ k. IsRising d old new k) there (rising_past d old new place next on h long within well (omega (arith, w.if-depths-number-gt0.false))))
    ]

pub returns : goal.returns
returns c =
    let d = c.args.dfa.now in
    rising_end d c.args.depths.now c.loop-back.depths (subst (IsRising d c.args.depths.now c.loop-back.depths) (omega (arith, c.loop-back-test.false)) c.loop-back.invariant)
