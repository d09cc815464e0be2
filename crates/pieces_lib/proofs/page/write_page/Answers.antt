use Rattle.std.proofs.Common.{true, refl, ℕ, List}
use Rattle.lalrpop_rules.proofs.Results.{handed_on}
use Rattle.lalrpop_rules.specs.declared.piece.Piece.{Piece}
use Rattle.lexdfa_lib.specs.declared.error.RunError.TheVariants.{OutOfMemory}
use Rattle.pieces_lib.specs.TextAnswer.{page_of}
use Rattle.pieces_lib.proofs.WrittenLaws.{IsWrittenPart, err_so, none_written, ok_so, page_goes_on, page_so}
use Rattle.pieces_lib.proofs.page.write_page.Goals as goal

pub returns-in_err-form-clause-part : goal.returns-in_err-form-clause-part
returns-in_err-form-clause-part g c =
    let out : List ℕ → List Piece → List ℕ = λ text xs. page_of c.args.markup c.args.lexer.now.names xs in
    handed_on (IsWrittenPart c.args.reader.now c.args.reader.now c.args.console.now c.args.console.now c.args.lexer.now true out)
    c.from_residual.result OutOfMemory c.from_residual.ensures.1
    (none_written c.args.reader.now c.args.console.now c.args.lexer.now true out OutOfMemory refl)

pub returns-clause-written : goal.returns-clause-written
returns-clause-written g c =
    let is = c.in_ok-form.ensures.page in
    let rules = c.args.lexer.now in
    ok_so c.args.reader.now c.write_pieces.new.reader c.args.console.now c.write_pieces.new.console rules true (λ text xs. page_of c.args.markup rules.names xs) c.new-sheet.result.form
    (page_goes_on c.in_ok-form.form c.args.markup rules.names is c.new-sheet.result.form c.new-sheet.ensures.form)
    (page_so c.in_ok-form.form c.args.markup rules is c.new-sheet.result.form c.new-sheet.ensures.form)
    c.new-sheet.result.lexer.now c.new-sheet.ensures.lexer c.write_pieces.result c.write_pieces.ensures.written

pub returns-clause-part : goal.returns-clause-part
returns-clause-part g c =
    let is = c.in_ok-form.ensures.page in
    let rules = c.args.lexer.now in
    err_so c.args.reader.now c.write_pieces.new.reader c.args.console.now c.write_pieces.new.console rules true (λ text xs. page_of c.args.markup rules.names xs) c.new-sheet.result.form
    (page_goes_on c.in_ok-form.form c.args.markup rules.names is c.new-sheet.result.form c.new-sheet.ensures.form)
    (page_so c.in_ok-form.form c.args.markup rules is c.new-sheet.result.form c.new-sheet.ensures.form)
    c.new-sheet.result.lexer.now c.new-sheet.ensures.lexer c.write_pieces.result c.write_pieces.ensures.part
