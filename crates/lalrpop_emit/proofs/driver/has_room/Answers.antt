use Rattle.std.proofs.Common.{◌≡◌, length, refl, ap, arith}
use Rattle.std.proofs.lemmas.Bool.{false≢true}
use Rattle.lalrpop_emit.specs.NumberedRules.{NumberedRules}
use Rattle.lalrpop_emit.proofs.Actions.{read_within, number_read, below_popped, below_pushed, below_same, room_first, room_on, no_room, all_fit}
use Rattle.lalrpop_emit.proofs.driver.has_room.Goals as goal
use Rattle.lalrpop_emit.proofs.driver.has_room.Goals.{then-action-eq1, else-action-eq1+then-action-eq1-2+else-depth-room, else-action-eq1+else-action-eq1-2}

pub actions-init : goal.actions-init
actions-init c = record {
  within = c.requires.within;
  left = λ acts there. room_first c.args.numbers.now.actions (length c.args.numbers.now.tables) c.args.room c.args.first c.args.depth acts there;
}

pub index-requires : goal.index-requires
index-requires c =
    let n = c.args.numbers.now in
    let same : c.numbers.inside.actions.items ≡ n.actions = ap (λ (x : NumberedRules). x.actions) c.numbers.view_is in
    let h = c.actions.invariant.left c.requires.actions.0 c.requires.actions.1 in
    omega (arith, read_within c.numbers.inside.actions.items n.actions (length n.tables) c.actions.place h.left same h.there, c.numbers.inside.actions.ok.0)

pub index-action-requires : goal.index-action-requires
index-action-requires c =
    let n = c.args.numbers.now in
    let same : c.numbers.inside.actions.items ≡ n.actions = ap (λ (x : NumberedRules). x.actions) c.numbers.view_is in
    let h = c.actions.invariant.left c.requires.actions.0 c.requires.actions.1 in
    omega (arith, read_within c.numbers.inside.actions.items n.actions (length n.tables) c.actions.place h.left same h.there, c.numbers.inside.actions.ok.0)

pub returns-then-depth-room : goal.returns-then-depth-room
returns-then-depth-room c = λ acts there s e.
    let n = c.args.numbers.now in
    let place = c.actions.place in
    let number = c.index-action.result.now in
    let same : c.numbers.inside.actions.items ≡ n.actions = ap (λ (x : NumberedRules). x.actions) c.numbers.view_is in
    let h = c.actions.invariant.left acts there in
    let read = number_read c.numbers.inside.actions.items n.actions (length n.tables) place c.index.result.now number h.left same h.there c.index.ensures c.actions-test.true c.index-action.ensures in
    let full = no_room n.actions (length n.tables) c.args.room c.args.depth place c.actions.depth number acts h read c.if-action-eq1.false c.if-action-eq1-2.true c.if-depth-room.true s e in
    (λ t. absurd (false≢true t), λ fits. absurd (full fits))

pub overflow_add-place : goal.overflow_add-place
overflow_add-place c =
    let n = c.args.numbers.now in
    let same : c.numbers.inside.actions.items ≡ n.actions = ap (λ (x : NumberedRules). x.actions) c.numbers.view_is in
    let h = c.actions.invariant.left c.requires.actions.0 c.requires.actions.1 in
    omega (arith, read_within c.numbers.inside.actions.items n.actions (length n.tables) c.actions.place h.left same h.there, c.numbers.invariant.0.all_actions)

pub actions-smaller : goal.actions-smaller
actions-smaller c =
    let n = c.args.numbers.now in
    let h = c.actions.invariant.left c.requires.actions.0 c.requires.actions.1 in
    omega (arith, read_within n.actions n.actions (length n.tables) c.actions.place h.left refl h.there)

pub actions-preserved : goal.actions-preserved
actions-preserved c = record {
  within = elim c.if-action-eq1.branch [
    | then-action-eq1 w ↦ omega (arith, w.depth-is, w.saturating_sub-depth.ensures, c.actions.invariant.within)
    | else-action-eq1+then-action-eq1-2+else-depth-room w ↦ omega (arith, w.depth-is, w.if-depth-room.false)
    | else-action-eq1+else-action-eq1-2 w ↦ omega (arith, w.depth-is, c.actions.invariant.within)
  ];
  left = λ acts there.
      let n = c.args.numbers.now in
      let place = c.actions.place in
      let number = c.index-action.result.now in
      let same : c.numbers.inside.actions.items ≡ n.actions = ap (λ (x : NumberedRules). x.actions) c.numbers.view_is in
      let h = c.actions.invariant.left acts there in
      let read = number_read c.numbers.inside.actions.items n.actions (length n.tables) place c.index.result.now number h.left same h.there c.index.ensures c.actions-test.true c.index-action.ensures in
      let on = room_on n.actions (length n.tables) c.args.room c.args.depth place c.actions.depth c.if-action-eq1.depth number acts h read in
      elim c.if-action-eq1.branch [
        | then-action-eq1 w ↦
            on (λ a t is e. omega (arith, below_popped a number t is w.if-action-eq1.true, e, w.depth-is, w.saturating_sub-depth.ensures))
            (omega (arith, w.depth-is, w.saturating_sub-depth.ensures, c.actions.invariant.within))
        | else-action-eq1+then-action-eq1-2+else-depth-room w ↦
            on (λ a t is e. omega (arith, below_pushed a number t is w.if-action-eq1.false w.if-action-eq1-2.true, e, w.depth-is))
            (omega (arith, w.depth-is, w.if-depth-room.false))
        | else-action-eq1+else-action-eq1-2 w ↦
            on (λ a t is e. omega (arith, below_same a number t is w.if-action-eq1-2.false, e, w.depth-is))
            (omega (arith, w.depth-is, c.actions.invariant.within))
      ];
}

pub returns : goal.returns
returns c = λ acts there s e.
    let n = c.args.numbers.now in
    let same : c.numbers.inside.actions.items ≡ n.actions = ap (λ (x : NumberedRules). x.actions) c.numbers.view_is in
    let fits =
    all_fit c.numbers.inside.actions.items n.actions (length n.tables) c.args.room c.args.depth c.actions.place c.actions.depth c.index.result.now acts same
    (c.actions.invariant.left acts there) c.index.ensures c.actions-test.false s e in
    (λ t. fits, λ f. refl)
