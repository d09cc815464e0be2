use Rattle.std.proofs.Common.{◌≡◌, ℕ, length, List}
use Rattle.lalrpop_rules.specs.declared.piece.Piece.{Piece}
use Rattle.pieces_lib.specs.Console.{Console}
use Rattle.pieces_lib.specs.Internal.CutTexts.{IsAsBefore, IsGiven}
use Rattle.pieces_lib.proofs.pieces.give_pieces.Given as goal

-- whatever was given before, more pieces were; and nothing has changed of what comes
abbrev pub invariant-giving : goal.invariant-giving
invariant-giving g l = record {
  given : (begun : Console) (text : List ℕ) (xs : List Piece)
      → IsGiven l.fn.sheet.form l.fn.sheet.lexer.now text xs l.fn.cutter l.fn.sheet.waiting.items begun l.fn.console
      → (ys : List Piece) × IsGiven l.fn.sheet.form l.fn.sheet.lexer.now text ys l.cutter l.sheet.waiting.items begun l.console;
  same : IsAsBefore l.fn.cutter l.cutter;
  form : l.sheet.form ≡ l.fn.sheet.form;
  lexer : l.sheet.lexer ≡ l.fn.sheet.lexer;
}

abbrev pub decreases-giving : goal.decreases-giving
decreases-giving g l = length l.cutter.incoming.chunks.rest
