use Rattle.std.proofs.Common.{◌≡◌, ◌+◌, ◌-◌, ◌/◌, ◌<◌, length, set, get_or, refl, sym, ap, subst, ◌∙◌, arith}
use Rattle.std.proofs.lemmas.List.{get_or_default}
use Rattle.bajofeki_rules.specs.Stack.{act as act_of}
use Rattle.lalrpop_emit.specs.NumberedRules.{NumberedRules}
use Rattle.lalrpop_emit.specs.Internal.Driving.{stack_of}
use Rattle.lalrpop_emit.specs.declared.driver.State.{State}
use Rattle.lalrpop_emit.proofs.Actions.{ActsLeft, read_within, number_read, below_pushed, length-below, acts_first, next_act, acts_done, mode_of, acts_pop, acts_pop_last, acts_push, acts_mode, stack, stack_is}
use Rattle.lalrpop_emit.proofs.driver.act.Goals as goal
use Rattle.lalrpop_emit.proofs.driver.act.Goals.{then-action-ne1, then-action-eq1, else-action-eq1, else-action-ne1+then-state-gt0, else-action-ne1+else-state-gt0}

pub actions-init : goal.actions-init
actions-init c = record {
  within = c.requires.within;
  at = omega arith;
  left = λ acts there fits.
      acts_first c.args.numbers.now.actions (length c.args.numbers.now.tables) (length c.args.below.now) c.args.first acts (stack_of c.args.state.now c.args.below.now) there fits;
}

pub index-requires : goal.index-requires
index-requires c =
    let n = c.args.numbers.now in
    let same : c.numbers.inside.actions.items ≡ n.actions = ap (λ (x : NumberedRules). x.actions) c.numbers.view_is in
    let h = c.actions.invariant.left c.requires.actions.0 c.requires.actions.1.0 c.requires.actions.1.1 in
    omega (arith, read_within c.numbers.inside.actions.items n.actions (length n.tables) c.actions.place h.left same h.there, c.numbers.inside.actions.ok.0)

pub index-action-requires : goal.index-action-requires
index-action-requires c =
    let n = c.args.numbers.now in
    let same : c.numbers.inside.actions.items ≡ n.actions = ap (λ (x : NumberedRules). x.actions) c.numbers.view_is in
    let h = c.actions.invariant.left c.requires.actions.0 c.requires.actions.1.0 c.requires.actions.1.1 in
    omega (arith, read_within c.numbers.inside.actions.items n.actions (length n.tables) c.actions.place h.left same h.there, c.numbers.inside.actions.ok.0)

pub bounds-below-state : goal.bounds-below-state
bounds-below-state c =
    let n = c.args.numbers.now in
    let place = c.actions.place in
    let number = c.index-action.result.now in
    let s = c.actions.state in
    let same : c.numbers.inside.actions.items ≡ n.actions = ap (λ (x : NumberedRules). x.actions) c.numbers.view_is in
    let h = c.actions.invariant.left c.requires.actions.0 c.requires.actions.1.0 c.requires.actions.1.1 in
    let read = number_read c.numbers.inside.actions.items n.actions (length n.tables) place c.index.result.now number h.left same h.there c.index.ensures c.actions-test.true c.index-action.ensures in
    let next = next_act n.actions (length n.tables) (length c.args.below.now) c.requires.actions.0 (stack_of c.args.state.now c.args.below.now) place (stack_of s c.actions.below) number h read in
    omega (
      arith,
      next.room_for,
      below_pushed next.first number (stack_of s c.actions.below) next.number_is c.if-action-ne1.true c.if-action-eq1.true,
      length-below s.mode s.depth c.actions.below c.actions.invariant.within,
      c.actions.auto.below,
    )

pub overflow_sub-state : goal.overflow_sub-state
overflow_sub-state c =
    let n = c.args.numbers.now in
    let place = c.actions.place in
    let number = c.index-action.result.now in
    let same : c.numbers.inside.actions.items ≡ n.actions = ap (λ (x : NumberedRules). x.actions) c.numbers.view_is in
    let h = c.actions.invariant.left c.requires.actions.0 c.requires.actions.1.0 c.requires.actions.1.1 in
    let read = number_read c.numbers.inside.actions.items n.actions (length n.tables) place c.index.result.now number h.left same h.there c.index.ensures c.actions-test.true c.index-action.ensures in
    omega (arith, read.some, c.if-action-ne1.true)

pub overflow_cast-state : goal.overflow_cast-state
overflow_cast-state c =
    let n = c.args.numbers.now in
    let place = c.actions.place in
    let number = c.index-action.result.now in
    let same : c.numbers.inside.actions.items ≡ n.actions = ap (λ (x : NumberedRules). x.actions) c.numbers.view_is in
    let h = c.actions.invariant.left c.requires.actions.0 c.requires.actions.1.0 c.requires.actions.1.1 in
    let read = number_read c.numbers.inside.actions.items n.actions (length n.tables) place c.index.result.now number h.left same h.there c.index.ensures c.actions-test.true c.index-action.ensures in
    let next = next_act n.actions (length n.tables) (length c.args.below.now) c.requires.actions.0 (stack_of c.args.state.now c.args.below.now) place (stack_of c.actions.state c.actions.below) number h read in
    omega (
      arith,
      mode_of next.first number (length n.tables) next.number_is c.if-action-ne1.true next.within,
      c.numbers.invariant.0.modes,
      ap (λ (x : NumberedRules). length x.tables) c.numbers.view_is,
    )

pub overflow_add-place : goal.overflow_add-place
overflow_add-place c =
    let n = c.args.numbers.now in
    let same : c.numbers.inside.actions.items ≡ n.actions = ap (λ (x : NumberedRules). x.actions) c.numbers.view_is in
    let h = c.actions.invariant.left c.requires.actions.0 c.requires.actions.1.0 c.requires.actions.1.1 in
    omega (arith, read_within c.numbers.inside.actions.items n.actions (length n.tables) c.actions.place h.left same h.there, c.numbers.invariant.0.all_actions)

pub actions-smaller : goal.actions-smaller
actions-smaller c =
    let n = c.args.numbers.now in
    let h = c.actions.invariant.left c.requires.actions.0 c.requires.actions.1.0 c.requires.actions.1.1 in
    omega (arith, read_within n.actions n.actions (length n.tables) c.actions.place h.left refl h.there)

pub actions-preserved : goal.actions-preserved
actions-preserved c =
    let n = c.args.numbers.now in
    let place = c.actions.place in
    let number = c.index-action.result.now in
    let s = c.actions.state in
    let below = c.actions.below in
    let new = c.if-action-ne1.state in
    let same : c.numbers.inside.actions.items ≡ n.actions = ap (λ (x : NumberedRules). x.actions) c.numbers.view_is in
    record {
      within = elim c.if-action-ne1.branch [
        | then-action-ne1 w ↦ elim w.if-action-eq1.branch [
          | then-action-eq1 w' ↦
              let h = c.actions.invariant.left c.requires.actions.0 c.requires.actions.1.0 c.requires.actions.1.1 in
              let read = number_read c.numbers.inside.actions.items n.actions (length n.tables) place c.index.result.now number h.left same h.there c.index.ensures c.actions-test.true c.index-action.ensures in
              let next = next_act n.actions (length n.tables) (length c.args.below.now) c.requires.actions.0 (stack_of c.args.state.now c.args.below.now) place (stack_of s below) number h read in
              omega (
                arith,
                next.room_for,
                below_pushed next.first number (stack_of s below) next.number_is w.if-action-ne1.true w'.if-action-eq1.true,
                length-below s.mode s.depth below c.actions.invariant.within,
                ap (λ (x : State). x.depth) w.state-is,
                ap (λ (x : State). x.depth) w'.state-is,
                c.if-action-ne1.auto.below,
                c.actions.auto.below,
              )
          | else-action-eq1 w' ↦
              omega (arith, ap (λ (x : State). x.depth) w.state-is, ap (λ (x : State). x.depth) w'.state-is, c.actions.invariant.within, c.if-action-ne1.auto.below)
        ]
        | else-action-ne1+then-state-gt0 w ↦ omega (arith, ap (λ (x : State). x.depth) w.state-is, c.actions.invariant.within, c.if-action-ne1.auto.below)
        | else-action-ne1+else-state-gt0 w ↦ omega (arith, ap (λ (x : State). x.depth) w.state-is, c.actions.invariant.within, c.if-action-ne1.auto.below)
      ];
      at = elim c.if-action-ne1.branch [
        | then-action-ne1 w ↦ elim w.if-action-eq1.branch [
          | then-action-eq1 w' ↦ ap (λ (x : State). x.at) w.state-is ∙ ap (λ (x : State). x.at) w'.state-is ∙ c.actions.invariant.at
          | else-action-eq1 w' ↦ ap (λ (x : State). x.at) w.state-is ∙ ap (λ (x : State). x.at) w'.state-is ∙ c.actions.invariant.at
        ]
        | else-action-ne1+then-state-gt0 w ↦ ap (λ (x : State). x.at) w.state-is ∙ c.actions.invariant.at
        | else-action-ne1+else-state-gt0 w ↦ ap (λ (x : State). x.at) w.state-is ∙ c.actions.invariant.at
      ];
      left = λ acts there fits.
          let room = length c.args.below.now in
          let old = stack_of c.args.state.now c.args.below.now in
          let h = c.actions.invariant.left acts there fits in
          let read = number_read c.numbers.inside.actions.items n.actions (length n.tables) place c.index.result.now number h.left same h.there c.index.ensures c.actions-test.true c.index-action.ensures in
          let next = next_act n.actions (length n.tables) room acts old place (stack_of s below) number h read in
          let a = next.first in
          let is = next.number_is in
          let step : act_of a (stack_of s below) ≡ stack_of new c.if-action-ne1.below = elim c.if-action-ne1.branch [
            | then-action-ne1 w ↦ elim w.if-action-eq1.branch [
              | then-action-eq1 w' ↦
                  let within : s.depth < length below = omega (arith, next.room_for, below_pushed a number (stack_of s below) is w.if-action-ne1.true w'.if-action-eq1.true, length-below s.mode s.depth below c.actions.invariant.within, c.actions.auto.below) in
                  stack_is (act_of a (stack_of s below)) new c.if-action-ne1.below (number / 2 - 1) (s.depth + 1) (set below s.depth s.mode)
                  (acts_push a number s.mode s.depth below is w.if-action-ne1.true w'.if-action-eq1.true within)
                  (ap (λ (x : State). x.mode) w.state-is) (ap (λ (x : State). x.depth) w.state-is ∙ ap (λ (x : State). x.depth) w'.state-is) (w.below-is ∙ w'.below-is)
              | else-action-eq1 w' ↦
                  stack_is (act_of a (stack_of s below)) new c.if-action-ne1.below (number / 2 - 1) s.depth below
                  (acts_mode a number s.mode s.depth below is w'.if-action-eq1.false)
                  (ap (λ (x : State). x.mode) w.state-is) (ap (λ (x : State). x.depth) w.state-is ∙ ap (λ (x : State). x.depth) w'.state-is) (w.below-is ∙ w'.below-is)
            ]
            | else-action-ne1+then-state-gt0 w ↦
                let depth = s.depth - 1 in
                let more : s.depth ≡ depth + 1 = omega (arith, w.if-state-gt0.true) in
                let within : depth < length below = omega (arith, w.if-state-gt0.true, c.actions.invariant.within) in
                stack_is (act_of a (stack_of s below)) new c.if-action-ne1.below (get_or below depth 0) depth below
                (
                ap (λ k. act_of a (stack s.mode k below)) more
                ∙ acts_pop a number s.mode depth below (get_or below depth 0) is w.if-action-ne1.false within (get_or_default below depth 0 (get_or below depth 0) within)
                )
                (ap (λ (x : State). x.mode) w.state-is) (ap (λ (x : State). x.depth) w.state-is) w.below-is
            | else-action-ne1+else-state-gt0 w ↦
                let none : s.depth ≡ 0 = omega (arith, w.if-state-gt0.false) in
                stack_is (act_of a (stack_of s below)) new c.if-action-ne1.below s.mode s.depth below
                (ap (λ k. act_of a (stack s.mode k below)) none ∙ acts_pop_last a number s.mode below is w.if-action-ne1.false ∙ ap (λ k. stack s.mode k below) (sym none))
                (ap (λ (x : State). x.mode) w.state-is) (ap (λ (x : State). x.depth) w.state-is) w.below-is
          ] in
          subst (λ u. ActsLeft n.actions (length n.tables) room acts old (place + 1) u) step next.behind;
    }

pub returns-clause-acted : goal.returns-clause-acted
returns-clause-acted c = λ acts there fits.
    let n = c.args.numbers.now in
    let number = c.index.result.now in
    let same : c.numbers.inside.actions.items ≡ n.actions = ap (λ (x : NumberedRules). x.actions) c.numbers.view_is in
    acts_done c.numbers.inside.actions.items n.actions (length n.tables) (length c.args.below.now) acts (stack_of c.args.state.now c.args.below.now) c.actions.place (stack_of c.actions.state c.actions.below) number same
    (c.actions.invariant.left acts there fits) c.index.ensures c.actions-test.false
