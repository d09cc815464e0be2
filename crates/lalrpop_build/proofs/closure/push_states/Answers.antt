use Rattle.std.proofs.Common.{◌++◌, ◌∷◌, [], ap, ◌<◌, ◌∙◌, length, rules, arith, sym, append-nil}
use Rattle.lalrpop_build.specs.Internal.Worklist.{marked}
use Rattle.lalrpop_build.proofs.Marks.{marks_start, marks_next, marks_end}
use Rattle.lalrpop_build.proofs.closure.push_states.Goals as goal
use Rattle.lalrpop_build.proofs.closure.push_states.Goals.{then-marks-state+in_ok-push, else-marks-state}

pub loop-state-init : goal.loop-state-init
loop-state-init c = marks_start c.args.pattern c.args.marks.now c.args.found.now.items

pub loop-state-preserved : goal.loop-state-preserved
loop-state-preserved c =
    let l : c.loop-state.state < length c.args.marks.now = search rules in
    marks_next c.args.pattern c.args.marks.now c.loop-state.state c.loop-state.found.items c.if-marks-state.found.items (c.args.found.now.items ++ marked c.args.pattern c.args.marks.now) l c.loop-state.invariant
    (elim c.if-marks-state.branch [
      | then-marks-state+in_ok-push w ↦ rw (w.found-is, w.if-marks-state.true) (w.in_ok-push.ensures.items ∙ ap (λ x. c.loop-state.found.items ++ x ∷ []) w.new-then-marks-state.ensures.value ∙ ap (λ q. c.loop-state.found.items ++ (c.args.pattern, q) ∷ []) w.new.ensures.value)
      | else-marks-state w ↦ rw (w.found-is, w.if-marks-state.false) (sym (append-nil c.loop-state.found.items))
    ])

pub returns : goal.returns
returns c = marks_end c.args.pattern c.args.marks.now c.loop-state.state c.loop-state.found.items (c.args.found.now.items ++ marked c.args.pattern c.args.marks.now) (omega arith) c.loop-state.invariant
