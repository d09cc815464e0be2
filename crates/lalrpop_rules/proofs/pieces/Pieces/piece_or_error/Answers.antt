use Rattle.std.proofs.Common.{◌≡◌, ◌≢◌, ℕ, List, [], length, false, eqb, sym, ap, subst, ◌∙◌}
use Rattle.std.specs.Prelude.{Option, Some}
use Rattle.std.specs.Str.{IsUtf8}
use Rattle.std.proofs.lemmas.Bool.{false≢true}
use Rattle.lalrpop_rules.specs.declared.piece.Piece.{Piece}
use Rattle.lalrpop_rules.specs.ModeCut.{ModeCut, left_text, GivesModePiece}
use Rattle.lalrpop_rules.proofs.NextRuns.{fewer_behind_piece, fewer_behind_error}
use Rattle.lalrpop_rules.proofs.pieces.Pieces.piece_or_error.Goals as goal

is_not_empty : (bs : List ℕ) → false ≡ eqb (length bs) 0 → bs ≢ []
is_not_empty bs is none = false≢true (is ∙ ap (λ l. eqb (length l) 0) none)

pub returns-in-Ok-Some-clause-goes : goal.returns-in-Ok-Some-clause-goes
returns-in-Ok-Some-clause-goes c =
    let s = c.args.self.now in
    let t = c.next_piece.new.self in
    let on : s.is_over ≡ false = ap (λ (w : ModeCut). w.is_over) (sym c.self.view_is) ∙ c.if-self.false in
    let u : IsUtf8 (left_text s) = subst IsUtf8 c.rest.ensures.rest c.rest.utf8 in
    let gives : GivesModePiece s (Some c.in-Ok-Some.piece) t =
    subst (λ (o : Option Piece). GivesModePiece s o t) c.in-Ok-Some.field-0-is c.in-Ok-Some.ensures.gives in
    fewer_behind_piece s t c.in-Ok-Some.piece u on gives

pub returns-in-Err-clause-goes : goal.returns-in-Err-clause-goes
returns-in-Err-clause-goes c =
    let s = c.args.self.now in
    let on : s.is_over ≡ false = ap (λ (w : ModeCut). w.is_over) (sym c.self.view_is) ∙ c.if-self.false in
    let u : IsUtf8 (left_text s) = subst IsUtf8 c.rest.ensures.rest c.rest.utf8 in
    let some : left_text s ≢ [] = λ none. is_not_empty c.rest.result.now c.if-is_empty.ensures (c.rest.ensures.rest ∙ none) in
    fewer_behind_error s u on some
