use Rattle.std.proofs.Common.{◌≡◌, []}
use Rattle.pieces_lib.proofs.ComingLaws.{IsBetween}
use Rattle.pieces_lib.proofs.pieces.write_pieces.Given as goal

-- all that can be given was given and written, and more may come
abbrev pub invariant-reading : goal.invariant-reading
invariant-reading g l = record {
  between : IsBetween l.fn.sheet.form l.fn.sheet.lexer.now l.fn.reader l.reader l.fn.console l.console l.cutter;
  none : l.sheet.waiting.items ≡ [];
  form : l.sheet.form ≡ l.fn.sheet.form;
  lexer : l.sheet.lexer ≡ l.fn.sheet.lexer;
}
