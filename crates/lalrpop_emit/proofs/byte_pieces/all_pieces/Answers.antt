use Rattle.std.proofs.Common.{List, sym, subst}
use Rattle.std.specs.Prelude.{Option}
use Rattle.bajofeki_rules.specs.Stack.{start}
use Rattle.lalrpop_emit.specs.ByteCut.{GivesBytePiece, place_of, stack_in}
use Rattle.lalrpop_emit.specs.BytePieces.{AreBytePiecesTo}
use Rattle.lalrpop_emit.specs.declared.numbered_piece.NumberedPiece.{NumberedPiece}
use Rattle.lalrpop_emit.proofs.ByteCutLaws.{given_all, given_more, given_too_deep}
use Rattle.lalrpop_emit.proofs.byte_pieces.all_pieces.Goals as goal

pub pieces-preserved : goal.pieces-preserved
pieces-preserved c = record {
  cut = c.in-Ok-Some.ensures.cut;
  pieces = λ r are.
      let n = c.args.numbers.now in
      let text = c.args.text.now in
      let new = c.next_piece.new.self in
      subst (λ (xs : List NumberedPiece). AreBytePiecesTo r n.kinds 1024 text 0 start xs (place_of new) (stack_in new)) (sym c.in_ok-push-in-Ok-Some.ensures.items)
      (given_more r n.kinds text 0 start c.pieces.pieces.items c.pieces.cutter new (c.pieces.invariant.pieces r are) c.in-Ok-Some.piece
      (subst (λ (o : Option NumberedPiece). GivesBytePiece r n.kinds text c.pieces.cutter o new) c.in-Ok-Some.field-0-is (c.in-Ok-Some.ensures.gives r are)));
}

pub returns-in-Ok-None : goal.returns-in-Ok-None
returns-in-Ok-None c = record {
  pieces = λ r are.
      let n = c.args.numbers.now in
      let text = c.args.text.now in
      let new = c.next_piece.new.self in
      given_all r n.kinds text 0 start c.pieces.pieces.items c.pieces.cutter new (c.pieces.invariant.pieces r are)
      (subst (λ (o : Option NumberedPiece). GivesBytePiece r n.kinds text c.pieces.cutter o new) c.in-Ok-None.field-0-is (c.in-Ok-None.ensures.gives r are));
}

pub returns-in-Err : goal.returns-in-Err
returns-in-Err c = record {
  pieces = λ r are.
      given_too_deep r c.args.numbers.now.kinds c.args.text.now 0 start c.pieces.pieces.items c.pieces.cutter c.next_piece.new.self (c.pieces.invariant.pieces r are)
      (c.in-Err.ensures.too_deep r are);
}
