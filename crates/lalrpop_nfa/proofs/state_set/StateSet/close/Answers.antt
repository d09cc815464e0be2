use Rattle.std.proofs.Common.{◌<◌, ap, sym, length, arith}
use Rattle.lalrpop_nfa.proofs.StateSetLemmas.{read_at, closing_start, closing_more, closing_end}
use Rattle.lalrpop_nfa.proofs.state_set.StateSet.close.Goals as goal

pub loop-place-init : goal.loop-place-init
loop-place-init c = record {
  counted = omega arith;
  within = omega arith;
  closing = closing_start c.args.nfa.now.edges c.args.self.now;
}

pub add_epsilon_targets-requires : goal.add_epsilon_targets-requires
add_epsilon_targets-requires c =
    let s = c.states-in-loop-place in
    let below : c.loop-place.place < length s.result.now = omega (arith, ap length s.ensures.value, ap length c.states.ensures.value) in
    let within = s.ensures.within c.index-states-place.result (c.loop-place.place, below, sym c.index-states-place.is) in
    omega (arith, c.loop-place.invariant.closing.room)

pub loop-place-preserved : goal.loop-place-preserved
loop-place-preserved c =
    let s = c.states-in-loop-place in
    let i = c.loop-place.invariant in
    let now = c.loop-place.self in
    let below : c.loop-place.place < length now.states = omega (arith, ap length c.states.ensures.value) in
    let at = read_at now.states s.result.now c.loop-place.place c.index-states-place.result s.ensures.value (omega (arith, ap length s.ensures.value)) c.index-states-place.is in
    record {
      counted = omega (arith, i.counted, c.tick.ensures.counted);
      within = omega (arith, c.states.ensures.few, i.closing.room);
      closing =
          closing_more c.args.nfa.now.edges c.args.self.now now c.add_epsilon_targets.new.self c.loop-place.place c.index-states-place.result i.closing below at c.in_ok-add_epsilon_targets.ensures;
    }

pub returns-clause-states : goal.returns-clause-states
returns-clause-states c =
    closing_end c.args.nfa.now.edges c.args.self.now c.loop-place.self c.loop-place.place c.loop-place.invariant.closing (omega (arith, c.loop-place-test.false, ap length c.states.ensures.value))
