use Rattle.std.proofs.Common.{ap}
use Rattle.reports_lib.specs.PieceLines.{layout_lines}
use Rattle.pieces_lib.specs.Internal.CutTexts.{goes_on}
use Rattle.pieces_lib.proofs.WrittenLaws.{err_so, lines_so, ok_so}
use Rattle.pieces_lib.proofs.lines.write_lines.Goals as goal

pub returns-clause-written : goal.returns-clause-written
returns-clause-written g c =
    ok_so c.args.reader.now c.write_pieces.new.reader c.args.console.now c.write_pieces.new.console c.args.lexer.now c.args.layout.now.recovers (layout_lines c.args.layout.now c.args.lexer.now) c.new-sheet.result.form (ap goes_on c.new-sheet.ensures.form)
    (lines_so c.args.layout.now c.args.lexer.now c.new-sheet.result.form c.new-sheet.ensures.form) c.new-sheet.result.lexer.now c.new-sheet.ensures.lexer c.write_pieces.result
    c.write_pieces.ensures.written

pub returns-clause-part : goal.returns-clause-part
returns-clause-part g c =
    err_so c.args.reader.now c.write_pieces.new.reader c.args.console.now c.write_pieces.new.console c.args.lexer.now c.args.layout.now.recovers (layout_lines c.args.layout.now c.args.lexer.now) c.new-sheet.result.form (ap goes_on c.new-sheet.ensures.form)
    (lines_so c.args.layout.now c.args.lexer.now c.new-sheet.result.form c.new-sheet.ensures.form) c.new-sheet.result.lexer.now c.new-sheet.ensures.lexer c.write_pieces.result
    c.write_pieces.ensures.part
