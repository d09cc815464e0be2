-- Cases of specs/Cut.antt.
use Rattle.std.proofs.Common.{◌≡◌, ◌≢◌, ℕ, List, [], ◌∷◌, true, false, length, map, refl, ap, arith}
use Rattle.std.proofs.lemmas.List.{length-map}
use Rattle.std.specs.Prelude.{Some, None, Err}
use Rattle.lalrpop_emit.specs.ByteCut.{ByteCut}
use Rattle.lalrpop_emit.specs.declared.numbered_piece.NumberedPiece.{NumberedPiece}
use Rattle.bajofeki_c.specs.Cut.{AreFilled, IsCutOn, told}
use Rattle.bajofeki_c.specs.declared.cut.Cut.{Cut}
use Rattle.bajofeki_c.specs.declared.cut.Piece.{Piece}
use Rattle.bajofeki_c.specs.declared.cutting.BeginError.TheVariants.{NoLexer}
use Rattle.bajofeki_c.specs.declared.held.BuildError.TheVariants.{Freed}
use Rattle.bajofeki_c.specs.declared.held.BuiltLexer.{BuiltLexer}

abbrev token : ℕ → NumberedPiece
token rule = record { kind = Some 0; rule = rule; start = 4; length = 2 }

abbrev piece : ℕ → ℕ → Piece
piece kind rule = record { kind = kind; rule = rule; start = 4; length = 2 }

a_token : told (false ∷ true ∷ []) (token 0) ≡ piece 0 0
a_token = refl

a_skipped_token : told (false ∷ true ∷ []) (token 1) ≡ piece 1 1
a_skipped_token = refl

a_fault : told (true ∷ []) (record { kind = None; rule = 0; start = 4; length = 2 }) ≡ piece 2 0
a_fault = refl

no_skipped_token_is_a_token : told (false ∷ true ∷ []) (token 1) ≢ piece 0 1
no_skipped_token_is_a_token e = let n : 1 ≡ 0 = ap (λ (p : Piece). p.kind) e in omega (arith, n)

abbrev first_kind : List Piece → ℕ
first_kind [] = 9
first_kind (p ∷ ps) = p.kind

module _ (l : BuiltLexer) (c : ByteCut) where
  -- nothing is written into an array without room
  no_room : AreFilled l [] c [] 0 [] c
  no_room = record { pieces = []; between = λ r are. (refl, refl); count = refl; front = refl; behind = refl }

  what_is_behind_stays : ¬ AreFilled l [] c (piece 0 0 ∷ []) 0 (piece 1 1 ∷ []) c
  what_is_behind_stays filled = let n : 1 ≡ 0 = ap first_kind filled.behind in omega (arith, n)

  no_more_are_counted_than_written : ¬ AreFilled l [] c [] 1 [] c
  no_more_are_counted_than_written filled =
      let none : 0 ≡ length (map (told l.rules.skips) filled.pieces) = ap length filled.front in
      omega (arith, none, filled.count, length-map filled.pieces (told l.rules.skips))

abbrev cut_none : ℕ → Cut
cut_none code = record { code = code; count = 0; end = 0 }

without_a_lexer : IsCutOn (record { made = Err Freed }) (97 ∷ []) (record { cutter = Err NoLexer }) [] (cut_none 9) [] (record { cutter = Err NoLexer })
without_a_lexer = (refl, refl, refl)

no_end_without_a_lexer : ¬ IsCutOn (record { made = Err Freed }) (97 ∷ []) (record { cutter = Err NoLexer }) [] (cut_none 0) [] (record { cutter = Err NoLexer })
no_end_without_a_lexer cut = let n : 0 ≡ 9 = ap (λ (k : Cut). k.code) cut.0 in omega (arith, n)
