use Rattle.std.proofs.Common.{sym, ◌∙◌}
use Rattle.std.proofs.lemmas.Result.{IfErr-weaker}
use Rattle.pieces_lib.specs.FileAnswers.{ReadingAnswer}
use Rattle.pieces_lib.specs.Tasks.{TaskAnswer, TaskPart, EitherAnswer}
use Rattle.pieces_lib.proofs.AnswerLaws.{Fails-weaker}
use Rattle.pieces_lib.proofs.FilesLaws.{from_file}
use Rattle.pieces_lib.proofs.cut_files.cut_file_or_input.Goals as goal

pub returns-else-is_input-clause-fails : goal.returns-else-is_input-clause-fails
returns-else-is_input-clause-fails g c =
    IfErr-weaker c.cut_file.result _ _
    (λ e. Fails-weaker _ _ c.args.console.now c.cut_file.new.console e (λ answer is. from_file (g.F.Files.gives c.args.files.now) (EitherAnswer (ReadingAnswer (TaskAnswer c.args.task.now)) (TaskPart c.args.task.now)) c.args.input.now
    c.args.name.now answer (sym c.is_input.ensures.input ∙ c.if-is_input.false) is))
    c.cut_file.ensures.fails
