use Rattle.std.proofs.Common.{◌≡◌, ◌-◌, ◌+◌, ◌<◌, length, set, subst, arith}
use Rattle.lalrpop_dfa.specs.Dfa.{step}
use Rattle.lalrpop_dfa.specs.Internal.Marks.{IsWaiting, Marked}
use Rattle.lalrpop_dfa.proofs.EdgeTargets.{step_within}
use Rattle.lalrpop_dfa.specs.Internal.Waits.{IsGreatest}
use Rattle.lalrpop_dfa.proofs.Lookaheads.{waits_none}
use Rattle.lalrpop_dfa.proofs.Marking.{marked_read, read_marked}
use Rattle.lalrpop_dfa.proofs.Waiting.{IsLengthening, lengthening_by_max, lengthening_end, lengthening_first, lengthening_stays, waits_few}
use Rattle.lalrpop_dfa.proofs.lookahead.lengthen.Goals as goal
use Rattle.lalrpop_dfa.proofs.lookahead.lengthen.Goals.{then-waiting-number+then-not-ever-number, else-waiting-number, else-waiting-number-via-then-waiting-number+else-not-ever-number, else-waiting-number-via-else-waiting-number}

pub loop-back-init : goal.loop-back-init
loop-back-init c =
    let d = c.args.dfa.now in
    let ever = c.args.ever.now in
    subst (IsLengthening d ever c.args.numbers.now c.args.numbers.now) (omega (arith, c.states-count.ensures.states.same_length)) (lengthening_first d ever c.args.numbers.now c.requires.numbers)

pub overflow_add-most : goal.overflow_add-most
overflow_add-most c =
    let d = c.args.dfa.now in
    let place = length c.states-count.result.now - 1 - c.loop-back.back in
    let (v, same) = c.greatest-most.ensures.reached in
    let within : c.new.result < length d = omega (arith, c.new.ensures.value, c.loop-back-test.true, c.states-count.ensures.states.same_length) in
    let few = waits_few d c.args.ever.now c.requires.ever c.loop-back.numbers c.loop-back.invariant.are (step d c.new.result v) (step_within d c.new.result v c.states-count.ensures.well_formed within) in
    let small : length d < 18446744073709551615 = c.requires.fits in
    omega (arith, same, few, small)

pub loop-back-preserved : goal.loop-back-preserved
loop-back-preserved c =
    let d = c.args.dfa.now in
    let ever = c.args.ever.now in
    let old = c.args.numbers.now in
    let new = c.loop-back.numbers in
    let count = length c.states-count.result.now in
    let place = count - 1 - c.loop-back.back in
    let next = count - c.loop-back.back in
    let same = c.states-count.ensures.states.same_length in
    let well = c.states-count.ensures.well_formed in
    let on : next ≡ place + 1 = omega (arith, c.loop-back-test.true) in
    let within : place < length d = omega (arith, c.loop-back-test.true, same) in
    let in_waiting : place < length c.args.waiting.now = omega (arith, within, c.requires.waiting.same_length) in
    let in_ever : place < length ever = omega (arith, within, c.requires.ever.1.1.0.same_length) in
    let h = c.loop-back.invariant in
    let there : place ≡ count - (c.loop-back.back + 1) = omega arith in
    elim c.if-waiting-number.branch [
      | then-waiting-number+then-not-ever-number w ↦
          (let waits : IsWaiting d place = ((c.requires.waiting.each place within).0 (marked_read c.args.waiting.now place in_waiting w.if-waiting-number.true)).0 in
          let none : ¬ Marked ever place = λ m. (let yes = read_marked ever place m in let not = w.if-not-ever-number.true in cc) in
          let greatest : IsGreatest d new place w.greatest-most.result = subst (λ p. IsGreatest d new p w.greatest-most.result) w.new.ensures.value w.greatest-most.ensures in
          rw w.numbers-is
          (subst (λ k. IsLengthening d ever old (set new place w.max.result) k) there
          (lengthening_by_max d ever old new place next on h well within w.greatest-most.result w.max.result waits none greatest w.max.ensures)))
      | else-waiting-number w ↦
          rw w.numbers-is
          (subst (λ k. IsLengthening d ever old new k) there
          (lengthening_stays d ever old new place next on h well within
          (elim w.else-waiting-number.branch [
            | else-waiting-number-via-then-waiting-number+else-not-ever-number v ↦ (λ waits none. none (marked_read ever place in_ever v.if-not-ever-number.false))
            | else-waiting-number-via-else-waiting-number v ↦
                (λ waits none. (let yes = read_marked c.args.waiting.now place ((c.requires.waiting.each place within).1 (waits_none d place waits)) in let not = v.if-waiting-number.false in cc))
          ])))
    ]

pub returns : goal.returns
returns c =
    let d = c.args.dfa.now in
    let ever = c.args.ever.now in
    lengthening_end d ever c.args.numbers.now c.loop-back.numbers (subst (IsLengthening d ever c.args.numbers.now c.loop-back.numbers) (omega (arith, c.loop-back-test.false)) c.loop-back.invariant)
