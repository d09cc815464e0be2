use Rattle.std.proofs.Common.{ℕ, List, [], ◌++◌}
use Rattle.bajofeki.specs.Given.{piece_of}
use Rattle.lalrpop_rules.proofs.Results.{handed_on}
use Rattle.lexdfa_lib.specs.declared.error.RunError.{RunError}
use Rattle.lexdfa_lib.specs.declared.error.RunError.TheVariants.{OutOfMemory}
use Rattle.pieces_lib.specs.Console.{WritesPart}
use Rattle.pieces_lib.specs.Internal.CutTexts.{markup_of}
use Rattle.pieces_lib.proofs.AnswerLaws.{writes_front, writes_none}
use Rattle.pieces_lib.proofs.pieces.put_markup.Goals as goal

pub returns-in_err-push_markup-clause-part : goal.returns-in_err-push_markup-clause-part
returns-in_err-push_markup-clause-part g c =
    let sheet = c.args.sheet.now in
    let bytes : List ℕ = sheet.waiting.items ++ markup_of sheet.form sheet.lexer.now.names (piece_of c.args.piece.now c.args.text) in
    handed_on (λ (error : RunError). WritesPart c.args.console.now bytes error c.args.console.now) c.from_residual.result OutOfMemory c.from_residual.ensures.1
    (writes_front c.args.console.now c.args.console.now [] bytes (writes_none c.args.console.now))
