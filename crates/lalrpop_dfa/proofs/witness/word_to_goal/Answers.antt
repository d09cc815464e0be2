use Rattle.std.proofs.Common.{◌≡◌, ◌-◌, ◌+◌, suc, sym, ap, ◌∙◌, arith}
use Rattle.lalrpop_dfa.specs.Dfa.{step, after}
use Rattle.lalrpop_dfa.proofs.AfterLaws.{after_push}
use Rattle.lalrpop_dfa.proofs.Walks.{leading_first, leading_some, leading_more, leading_end}
use Rattle.lalrpop_dfa.proofs.witness.word_to_goal.Goals as goal

pub overflow_add-left : goal.overflow_add-left
overflow_add-left c = omega (arith, c.requires.distances.1.fits)

pub loop-left-init : goal.loop-left-init
loop-left-init c =
    let d = c.args.dfa.now in
    let word = c.new-word.result.items in
    record {
      within = c.requires.distances.1.well_formed.some;
      low = omega arith;
      state = sym (ap (after d) c.new-word.ensures.items);
      leading = λ n h. leading_first d n c.args.nearest c.args.states.now word h c.new-word.ensures.items;
    }

pub unwrap-value-requires : goal.unwrap-value-requires
unwrap-value-requires c =
    let left = c.loop-left.left in
    let i = c.loop-left.invariant in
    let h = c.requires.distances in
    let is : left ≡ suc (left - 1) = omega (arith, c.loop-left-test.true) in
    leading_some c.args.dfa.now c.least_value.ensures.well_formed h.0 c.args.nearest c.args.states.now h.1 c.loop-left.word.items c.loop-left.state left (left - 1) is i.within i.low (i.leading h.0 h.1)
    c.least_value.result c.least_value.ensures.least

pub loop-left-preserved : goal.loop-left-preserved
loop-left-preserved c =
    let d = c.args.dfa.now in
    let left = c.loop-left.left in
    let i = c.loop-left.invariant in
    let word = c.loop-left.word.items in
    let is : left ≡ suc (left - 1) = omega (arith, c.loop-left-test.true) in
    record {
      within = c.step-state.ensures.within;
      low = omega (arith, i.low);
      state =
          c.step-state.ensures.leads ∙ ap (λ p. step d p c.unwrap-value.result) i.state ∙ sym (after_push d word c.unwrap-value.result) ∙ ap (after d) (sym c.in_ok-push.ensures.items);
      leading = λ n h.
          leading_more d c.least_value.ensures.well_formed n c.args.nearest c.args.states.now h word c.loop-left.state left (left - 1) is i.within i.low (i.leading n h) c.least_value.result
          c.least_value.ensures.least c.unwrap-value.result c.push.new.self.items c.step-state.result c.unwrap-value.ensures c.in_ok-push.ensures.items c.step-state.ensures.leads;
    }

pub returns-clause-word : goal.returns-clause-word
returns-clause-word c = λ n h.
    let none : c.loop-left.left ≡ 0 = omega (arith, c.loop-left-test.false) in
    leading_end c.args.dfa.now n (c.args.nearest + 1) c.loop-left.word.items c.loop-left.state c.loop-left.left none (c.loop-left.invariant.leading n h)
