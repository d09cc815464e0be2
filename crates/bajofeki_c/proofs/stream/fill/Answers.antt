use Rattle.std.proofs.Common.{◌+◌, inl, [], ◌∷◌, ◌++◌, map, refl, ap, sym, subst, ◌∙◌, arith, length-append, length-set}
use Rattle.std.proofs.lemmas.List.{take_more_set, drop-set-lt, map-append}
use Rattle.std.proofs.lemmas.Grind.{drop_more_same}
use Rattle.std.specs.Prelude.{Option, Some, None, Ok}
use Rattle.lalrpop_rules.specs.declared.piece.Piece.{Piece}
use Rattle.bajofeki.specs.Chunked.{Chunked, GivesFinal, GivesOrRefuses, IsHeldBack}
use Rattle.bajofeki.specs.Given.{piece_of}
use Rattle.bajofeki.specs.declared.given_piece.GivenPiece.{GivenPiece}
use Rattle.bajofeki_c.specs.Document.{told}
use Rattle.bajofeki_c.specs.Stream.{AreGiven}
use Rattle.bajofeki_c.proofs.Giving.{gives_more}
use Rattle.bajofeki_c.proofs.stream.fill.Goals as goal

pub filling-preserved : goal.filling-preserved
filling-preserved c =
    let i = c.filling.invariant.given in let new = c.next_piece.new.self in let piece = c.in-Ok-Some.piece in
    let x : Piece = piece_of piece c.slice.result in
    let gives : GivesOrRefuses c.filling.chunks (Ok (Some piece)) new =
    subst (λ (o : Option GivenPiece). GivesOrRefuses c.filling.chunks (Ok o) new) c.in-Ok-Some.field-0-is c.in-Ok-Some.ensures.gives in
    let final : GivesFinal c.filling.chunks (Some x) new = gives c.slice.result c.slice.ensures.slice in record {
      within = omega (arith, c.filling-test.true, length-set c.filling.out c.filling.count c.told.result);
      given = record {
        pieces = i.pieces ++ x ∷ [];
        given = gives_more c.args.chunks.now i.pieces c.filling.chunks x new i.given final;
        count = omega (arith, i.count, length-append i.pieces (x ∷ []));
        front = take_more_set c.filling.out c.filling.count c.told.result c.filling-test.true ∙ ap (λ first. first ++ c.told.result ∷ []) i.front
            ∙ ap (λ s. map told i.pieces ++ s ∷ []) c.told.ensures.told ∙ sym (map-append told i.pieces (x ∷ []));
        behind = drop-set-lt (c.filling.count + 1) c.filling.out c.filling.count c.told.result (omega arith)
            ∙ drop_more_same c.filling.out _ c.filling.count i.behind;
      };
    }

pub returns-in-Ok-None : goal.returns-in-Ok-None
returns-in-Ok-None c =
    let new = c.next_piece.new.self in
    let none : GivesOrRefuses c.filling.chunks (Ok None) new =
    subst (λ (o : Option GivenPiece). GivesOrRefuses c.filling.chunks (Ok o) new) c.in-Ok-None.field-0-is c.in-Ok-None.ensures.gives in record {
      given = record {
        given = subst (λ (d : Chunked). AreGiven c.args.chunks.now c.args.out.now c.filling.count c.filling.out d) (sym none.0) c.filling.invariant.given;
        why = inl (refl, subst IsHeldBack (sym none.0) none.1);
      };
    }
