use Rattle.std.proofs.Common.{◌≡◌, ◌+◌, [], ◌∷◌, ◌++◌, map, ap, sym, subst, ◌∙◌, arith, length-append, length-set}
use Rattle.std.proofs.lemmas.List.{take_more_set, drop-set-lt, map-append}
use Rattle.std.proofs.lemmas.Grind.{drop_more_same}
use Rattle.std.specs.Prelude.{Option}
use Rattle.lalrpop_emit.specs.ByteCut.{GivesBytePiece}
use Rattle.lalrpop_emit.specs.declared.numbered_piece.NumberedPiece.{NumberedPiece}
use Rattle.lalrpop_emit.proofs.ByteCutLaws.{given_more}
use Rattle.bajofeki_c.specs.Cut.{told}
use Rattle.bajofeki_c.proofs.cut.fill.Goals as goal

pub filling-preserved : goal.filling-preserved
filling-preserved c =
    let i = c.filling.invariant.filled in let x = c.in-Ok-Some.piece in let n = c.args.lexer.now.numbers in
    record {
      within = omega (arith, c.filling-test.true, length-set c.filling.out c.filling.count c.told.result);
      cut = c.in-Ok-Some.ensures.cut;
      filled = record {
        pieces = i.pieces ++ x ∷ [];
        between = λ r are. given_more r n.kinds c.args.text.now _ _ i.pieces c.filling.cutter c.next_piece.new.self (i.between r are) x
            (subst (λ (o : Option NumberedPiece). GivesBytePiece r n.kinds c.args.text.now c.filling.cutter o c.next_piece.new.self) c.in-Ok-Some.field-0-is (c.in-Ok-Some.ensures.gives r are));
        count = omega (arith, i.count, length-append i.pieces (x ∷ []));
        front = let is : c.told.result ≡ told c.args.lexer.now.rules.skips x = c.told.ensures.told ∙ ap (λ skips. told skips x) c.skips.ensures.skips in
            take_more_set c.filling.out c.filling.count c.told.result c.filling-test.true ∙ ap (λ first. first ++ c.told.result ∷ []) i.front
            ∙ ap (λ s. map (told c.args.lexer.now.rules.skips) i.pieces ++ s ∷ []) is ∙ sym (map-append (told c.args.lexer.now.rules.skips) i.pieces (x ∷ []));
        behind = drop-set-lt (c.filling.count + 1) c.filling.out c.filling.count c.told.result (omega arith)
            ∙ drop_more_same c.filling.out _ c.filling.count i.behind;
      };
    }
