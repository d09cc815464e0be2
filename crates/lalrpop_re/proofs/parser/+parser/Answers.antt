use Rattle.std.proofs.Common.{◌∙◌, Some, None, sym, ap, arith, length-drop, length}
use Rattle.std.proofs.lemmas.Result.{err_from_is_err_and}
use Rattle.lalrpop_re.specs.Internal.Reading.{whole_row, all_branches, begin, inside}
use Rattle.lalrpop_re.specs.Internal.Views.{text}
use Rattle.lalrpop_re.specs.Internal.Parts.{line, step_of}
use Rattle.lalrpop_re.proofs.BracketLoops.{refuses_on}
use Rattle.lalrpop_re.proofs.ParserLoops.{row_stop, row_turn, row_refused, branches_stop, branches_turn, branches_refused, enclosed_full}
use Rattle.lalrpop_re.proofs.parser.+parser.Goals as goal

pub parse_branches-returns-in_err-trees-clause-value : goal.parse_branches-returns-in_err-trees-clause-value
parse_branches-returns-in_err-trees-clause-value t c =
    let p = err_from_is_err_and c.from_residual.result c.from_residual.ensures.1 in
    rw (p.1, p.2) (refuses_on c.in_err-trees.field-0.0 _ (all_branches c.args.parts.now c.args.levels_left (inside c.args.parts.now c.args.levels_left) (begin c.args.cursor.now.flags (text c.args.cursor.now))) c.in_err-trees.ensures.value
    (λ none. sym c.loop-branches.invariant.value ∙ branches_refused c.args.parts.now c.args.levels_left (line c.loop-branches.branches c.loop-branches.cursor) none))

pub parse_branches-returns-then-not-begins-clause-value : goal.parse_branches-returns-then-not-begins-clause-value
parse_branches-returns-then-not-begins-clause-value t c =
    rw (c.in_ok-push.ensures.trees, c.branch_of-tree.ensures, c.in_ok-push.ensures.depth)
    (sym c.loop-branches.invariant.value ∙ branches_stop c.args.parts.now c.args.levels_left (line c.loop-branches.branches c.loop-branches.cursor) _ c.in_ok-trees.ensures.value
    (sym c.begins.ensures ∙ c.if-not-begins.true))

pub parse_branches-loop-branches-preserved : goal.parse_branches-loop-branches-preserved
parse_branches-loop-branches-preserved t c = record {
  value =
      rw (c.in_ok-push.ensures.trees, c.branch_of-tree.ensures, c.in_ok-push.ensures.depth, c.advance.ensures.text, c.advance.ensures.flags)
      (sym (branches_turn c.args.parts.now c.args.levels_left (line c.loop-branches.branches c.loop-branches.cursor) _ c.in_ok-trees.ensures.value
      (sym c.begins.ensures ∙ c.if-not-begins.false)) ∙ c.loop-branches.invariant.value);
  moves = omega (arith, c.in_ok-trees.ensures.moves, length-drop 1 (text c.parse_row.new.cursor), ap length c.advance.ensures.text);
  deep = omega (arith, c.in_ok-push.ensures.depth, c.in_ok-trees.ensures.deep);
}

pub parse_enclosed-returns-then-levels_left-eq0-clause-value : goal.parse_enclosed-returns-then-levels_left-eq0-clause-value
parse_enclosed-returns-then-levels_left-eq0-clause-value t c = rw c.error_at.ensures (enclosed_full c.args.parts.now c.args.levels_left c.args.flags (text c.args.cursor.now) c.if-levels_left-eq0.true)

pub parse_row-returns-in_err-piece-clause-value : goal.parse_row-returns-in_err-piece-clause-value
parse_row-returns-in_err-piece-clause-value t c =
    let p = err_from_is_err_and c.from_residual.result c.from_residual.ensures.1 in
    rw (p.1, p.2) (refuses_on c.in_err-piece.field-0.0 _ (whole_row c.args.parts.now c.args.levels_left (inside c.args.parts.now c.args.levels_left) (begin c.args.cursor.now.flags (text c.args.cursor.now))) c.in_err-piece.ensures.value
    (λ none. sym c.loop-cursor.invariant.value ∙ row_refused c.args.parts.now c.args.levels_left (line c.loop-cursor.row c.loop-cursor.cursor) (sym c.ends_branch.ensures ∙ c.loop-cursor-test.true) none))

pub parse_row-loop-cursor-preserved-in_default : goal.parse_row-loop-cursor-preserved-in_default
parse_row-loop-cursor-preserved-in_default t c =
    let read = rw c.in_default.is at c.in_ok-piece.ensures.value in
    record {
      value =
          sym (row_turn c.args.parts.now c.args.levels_left (line c.loop-cursor.row c.loop-cursor.cursor) (step_of None c.parse_step.new.cursor) (sym c.ends_branch.ensures ∙ c.loop-cursor-test.true) read)
          ∙ c.loop-cursor.invariant.value;
      moves = omega (arith, c.in_ok-piece.ensures.moves);
      deep = c.loop-cursor.invariant.deep;
    }

pub parse_row-loop-cursor-preserved : goal.parse_row-loop-cursor-preserved
parse_row-loop-cursor-preserved t c =
    let read = rw c.in-Some.is at c.in_ok-piece.ensures.value in
    let flat = rw c.in-Some.is at c.in_ok-piece.ensures.deep in
    record {
      value =
          rw (c.in_ok-push.ensures.trees, c.in_ok-push.ensures.depth)
          (sym (row_turn c.args.parts.now c.args.levels_left (line c.loop-cursor.row c.loop-cursor.cursor) (step_of (Some c.in-Some.piece) c.parse_step.new.cursor) (sym c.ends_branch.ensures ∙ c.loop-cursor-test.true) read)
          ∙ c.loop-cursor.invariant.value);
      moves = omega (arith, c.in_ok-piece.ensures.moves);
      deep = omega (arith, c.in_ok-push.ensures.depth, flat);
    }

pub parse_row-returns-clause-value : goal.parse_row-returns-clause-value
parse_row-returns-clause-value t c =
    sym c.loop-cursor.invariant.value ∙ row_stop c.args.parts.now c.args.levels_left (line c.loop-cursor.row c.loop-cursor.cursor) (sym c.ends_branch.ensures ∙ c.loop-cursor-test.false)
