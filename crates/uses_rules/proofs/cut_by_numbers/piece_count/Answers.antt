use Rattle.std.proofs.Common.{◌++◌, [], ◌∷◌, refl, sym, arith, length-append}
use Rattle.lalrpop_emit.proofs.ByteCutLaws.{given_all, given_more, given_too_deep}
use Rattle.bajofeki_rules.specs.Stack.{start}
use Rattle.uses_rules.proofs.cut_by_numbers.piece_count.Goals as goal

pub pieces-init : goal.pieces-init
pieces-init c = record {
  cut = c.in_ok-cutter.ensures.cut c.args.text.now;
  few = omega arith;
  pieces = λ r are. ([], ((sym c.in_ok-cutter.ensures.place, sym c.in_ok-cutter.ensures.stack), refl));
}

pub pieces-preserved : goal.pieces-preserved
pieces-preserved c = record {
  cut = c.in-Ok-Some.ensures.cut;
  few = (let some = rw c.in-Ok-Some.field-0-is at c.in-Ok-Some.ensures.some in omega (arith, some.1));
  pieces = λ r are.
      let so_far = c.pieces.invariant.pieces r are in
      let piece = c.in-Ok-Some.field-0-0 in
      let gives = rw c.in-Ok-Some.field-0-is at (c.in-Ok-Some.ensures.gives r are) in
      let more = given_more r c.args.numbers.now.kinds c.args.text.now 0 start so_far.0 c.pieces.cutter c.next_piece.new.self so_far.1.0 piece gives in
      (so_far.0 ++ piece ∷ [], (more, omega (arith, so_far.1.1, length-append so_far.0 (piece ∷ []))));
}

pub returns-in-Ok-None : goal.returns-in-Ok-None
returns-in-Ok-None c = record {
  count = λ r are.
      let so_far = c.pieces.invariant.pieces r are in
      let gives = rw c.in-Ok-None.field-0-is at (c.in-Ok-None.ensures.gives r are) in
      (so_far.0, (given_all r c.args.numbers.now.kinds c.args.text.now 0 start so_far.0 c.pieces.cutter c.next_piece.new.self so_far.1.0 gives, so_far.1.1));
}

pub returns-in-Err : goal.returns-in-Err
returns-in-Err c = record {
  count = λ r are.
      let so_far = c.pieces.invariant.pieces r are in
      let deep = c.in-Err.ensures.too_deep r are in
      (so_far.0, (given_too_deep r c.args.numbers.now.kinds c.args.text.now 0 start so_far.0 c.pieces.cutter c.next_piece.new.self so_far.1.0 deep, so_far.1.1));
}
