use Rattle.std.proofs.Common.{arith, refl}
use Rattle.lalrpop_dense.proofs.Marks.{row_read, laid_next, laid_pass, laid_all, fresh_apart, fresh_room, none_noted}
use Rattle.lalrpop_dense.proofs.visited_pairs.VisitedPairs.new.Goals as goal
use Rattle.lalrpop_dense.proofs.visited_pairs.VisitedPairs.new.Goals.{then-is_open+in_ok-push+in_ok-end, else-is_open+in_ok-push-2}

pub loop-state-preserved : goal.loop-state-preserved
loop-state-preserved c =
    let at = row_read c.args.dfa.now c.states-state-items.result.now c.loop-state.state-index c.state-item.result c.kind.result.now c.states-state-items.ensures.states c.loop-state-test.true c.state-item.is c.kind.ensures.kind in
    elim c.if-is_open.branch [
      | then-is_open+in_ok-push+in_ok-end w ↦ laid_next c.args.dfa.now c.loop-state.state-index c.loop-state.firsts.items c.if-is_open.firsts.items c.args.places c.loop-state.end c.if-is_open.end c.kind.result.now c.is_open.result at c.is_open.ensures w.if-is_open.true
          (rw w.firsts-is w.in_ok-push.ensures.items) (rw w.end-is w.in_ok-end.ensures) c.loop-state.invariant
      | else-is_open+in_ok-push-2 w ↦ laid_pass c.args.dfa.now c.loop-state.state-index c.loop-state.firsts.items c.if-is_open.firsts.items c.args.places c.loop-state.end c.if-is_open.end c.kind.result.now c.is_open.result at c.is_open.ensures w.if-is_open.false
          (rw w.firsts-is w.in_ok-push-2.ensures.items) (rw w.end-is refl) c.loop-state.invariant
    ]

pub invariant_of-result : goal.invariant_of-result
invariant_of-result c = fresh_apart c.args.dfa.now c.loop-state.state-index c.loop-state.firsts.items c.args.places c.loop-state.end c.in_ok-vec.field-0.items (omega (arith, c.in_ok-vec.ensures.len, c.in_ok-vec.field-0.ok.0)) c.loop-state.invariant

pub returns-clause-open : goal.returns-clause-open
returns-clause-open c = laid_all c.args.dfa.now c.loop-state.state-index c.loop-state.firsts.items c.args.places c.loop-state.end (omega (arith, c.states-state-items.ensures.states.same_length, c.loop-state-test.false)) c.loop-state.invariant

pub returns-clause-nothing : goal.returns-clause-nothing
returns-clause-nothing c = none_noted _ c.loop-state.end (c.in_ok-vec.ensures.items_if_clones_equal (λ y e. e))

pub returns-clause-room : goal.returns-clause-room
returns-clause-room c =
    fresh_room c.args.dfa.now c.loop-state.state-index c.loop-state.firsts.items c.args.places c.loop-state.end c.in_ok-vec.field-0.items (c.in_ok-vec.ensures.items_if_clones_equal (λ y e. e))
    (omega (arith, c.states-state-items.ensures.states.same_length, c.loop-state-test.false)) c.loop-state.invariant
