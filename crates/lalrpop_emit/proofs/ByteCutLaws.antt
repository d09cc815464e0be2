-- The pieces that a cut gives one after another are those of the text.
use Rattle.std.proofs.Common.{ℕ, List, [], ◌∷◌, ◌++◌, true, false, sym}
use Rattle.std.specs.Prelude.{Some, None}
use Rattle.lalrpop_rules.specs.Modes.{ModeRules}
use Rattle.bajofeki_rules.specs.Stack.{Stack}
use Rattle.lalrpop_emit.specs.ByteCut.{ByteCut, GivesBytePiece, IsTooDeep, place_of, stack_in}
use Rattle.lalrpop_emit.specs.BytePieces.{AreBytePiecesFrom, AreBytePiecesTo}
use Rattle.lalrpop_emit.specs.declared.numbered_piece.NumberedPiece.{NumberedPiece}
use Rattle.lalrpop_emit.proofs.BytePieceLaws.{pieces_all, pieces_join}

-- so far they are the pieces from a place and a stack up to the place of the cut
module _ (r : ModeRules) (kinds text : List ℕ) (at : ℕ) (s : Stack) (xs : List NumberedPiece) (c d : ByteCut) (are : AreBytePiecesTo r kinds 1024 text at s xs (place_of c) (stack_in c)) where
  -- then with the next one they are the pieces up to the place after it
  pub given_more : (p : NumberedPiece) → GivesBytePiece r kinds text c (Some p) d → AreBytePiecesTo r kinds 1024 text at s (xs ++ p ∷ []) (place_of d) (stack_in d)
  given_more p gives =
      pieces_join r kinds 1024 text at s xs (place_of c) (stack_in c) (p ∷ []) (place_of d) (stack_in d) are (gives.0, gives.1, (sym gives.2, sym gives.3))

  -- they are all if none is left
  pub given_all : GivesBytePiece r kinds text c None d → AreBytePiecesFrom r kinds 1024 text true at s xs
  given_all gives = pieces_all r kinds 1024 text true at s xs (place_of c) (stack_in c) are gives.0

  -- they stop there if the next one is too deep
  pub given_too_deep : IsTooDeep r kinds text c d → AreBytePiecesFrom r kinds 1024 text false at s xs
  given_too_deep deep = pieces_all r kinds 1024 text false at s xs (place_of c) (stack_in c) are deep.0
