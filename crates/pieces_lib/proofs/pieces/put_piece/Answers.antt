use Rattle.std.proofs.Common.{◌≡◌, false, ℕ, List, [], ◌++◌, sym, ◌∙◌}
use Rattle.std.proofs.lemmas.Str.{utf8_lossy-IsUtf8}
use Rattle.bajofeki.specs.Given.{piece_of}
use Rattle.lalrpop_rules.proofs.Results.{handed_on}
use Rattle.lexdfa_lib.specs.declared.error.RunError.{RunError}
use Rattle.lexdfa_lib.specs.declared.error.RunError.TheVariants.{OutOfMemory}
use Rattle.pieces_lib.specs.Console.{WritesPart}
use Rattle.pieces_lib.specs.Internal.CutTexts.{has_lines, piece_shown}
use Rattle.pieces_lib.proofs.AnswerLaws.{writes_front, writes_none}
use Rattle.pieces_lib.proofs.GivingLaws.{part_of_same, sent_so}
use Rattle.pieces_lib.proofs.PieceLines.{markup_shown}
use Rattle.pieces_lib.proofs.pieces.put_piece.Goals as goal

pub returns-in_err-push_line-clause-part : goal.returns-in_err-push_line-clause-part
returns-in_err-push_line-clause-part g c =
    let sheet = c.args.sheet.now in
    let cut = c.args.cut.now in
    let bytes : List ℕ = sheet.waiting.items ++ piece_shown sheet.form sheet.lexer.now.names cut.place cut.mode (piece_of cut.piece c.args.slice) in
    handed_on (λ (error : RunError). WritesPart c.args.console.now bytes error c.args.console.now) c.from_residual.result OutOfMemory c.from_residual.ensures.1
    (writes_front c.args.console.now c.args.console.now [] bytes (writes_none c.args.console.now))

pub returns-in_err-text-clause-part : goal.returns-in_err-text-clause-part
returns-in_err-text-clause-part g c =
    let sheet = c.args.sheet.now in
    let cut = c.args.cut.now in
    let bytes : List ℕ = sheet.waiting.items ++ piece_shown sheet.form sheet.lexer.now.names cut.place cut.mode (piece_of cut.piece c.args.slice) in
    handed_on (λ (error : RunError). WritesPart c.args.console.now bytes error c.args.console.now) c.from_residual-in_err-text.result OutOfMemory c.from_residual-in_err-text.ensures.1
    (writes_front c.args.console.now c.args.console.now [] bytes (writes_none c.args.console.now))

pub returns-in-Ok-clause-put : goal.returns-in-Ok-clause-put
returns-in-Ok-clause-put g c =
    let sheet = c.args.sheet.now in
    let cut = c.args.cut.now in
    let not_lines : has_lines sheet.form ≡ false = sym c.has_lines.ensures.lines ∙ c.if-has_lines.false in
    let same = c.in-Ok.ensures.cases.0 ∙ sym (utf8_lossy-IsUtf8 c.args.slice.now c.in-Ok.ensures.cases.1) in
    sent_so c.put_markup.result c.args.console.now c.put_markup.new.console sheet.waiting.items c.put_markup.new.sheet.waiting.items _ _
    (markup_shown sheet.form sheet.lexer.now.names cut.place cut.mode cut.piece c.in-Ok.text c.args.slice not_lines same) c.put_markup.ensures.put

pub returns-in-Ok-clause-part : goal.returns-in-Ok-clause-part
returns-in-Ok-clause-part g c =
    let sheet = c.args.sheet.now in
    let cut = c.args.cut.now in
    let not_lines : has_lines sheet.form ≡ false = sym c.has_lines.ensures.lines ∙ c.if-has_lines.false in
    let same = c.in-Ok.ensures.cases.0 ∙ sym (utf8_lossy-IsUtf8 c.args.slice.now c.in-Ok.ensures.cases.1) in
    part_of_same c.put_markup.result c.args.console.now c.put_markup.new.console sheet.waiting.items _ _
    (markup_shown sheet.form sheet.lexer.now.names cut.place cut.mode cut.piece c.in-Ok.text c.args.slice not_lines same) c.put_markup.ensures.part

pub returns-clause-put : goal.returns-clause-put
returns-clause-put g c =
    let sheet = c.args.sheet.now in
    let cut = c.args.cut.now in
    let not_lines : has_lines sheet.form ≡ false = sym c.has_lines.ensures.lines ∙ c.if-has_lines.false in
    sent_so c.put_markup-2.result c.args.console.now c.put_markup-2.new.console sheet.waiting.items c.put_markup-2.new.sheet.waiting.items _ _
    (markup_shown sheet.form sheet.lexer.now.names cut.place cut.mode cut.piece c.deref.result c.args.slice not_lines (c.deref.ensures ∙ c.in_ok-text.ensures.lossy)) c.put_markup-2.ensures.put

pub returns-clause-part : goal.returns-clause-part
returns-clause-part g c =
    let sheet = c.args.sheet.now in
    let cut = c.args.cut.now in
    let not_lines : has_lines sheet.form ≡ false = sym c.has_lines.ensures.lines ∙ c.if-has_lines.false in
    part_of_same c.put_markup-2.result c.args.console.now c.put_markup-2.new.console sheet.waiting.items _ _
    (markup_shown sheet.form sheet.lexer.now.names cut.place cut.mode cut.piece c.deref.result c.args.slice not_lines (c.deref.ensures ∙ c.in_ok-text.ensures.lossy)) c.put_markup-2.ensures.part
