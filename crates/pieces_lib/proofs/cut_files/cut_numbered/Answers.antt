use Rattle.std.proofs.lemmas.Result.{IfOk-weaker, IfErr-weaker, err_from_is_err_and}
use Rattle.pieces_lib.specs.FileAnswers.{FileAnswer, ReadingAnswer, shown_name}
use Rattle.pieces_lib.specs.Progress.{number_text}
use Rattle.pieces_lib.specs.Tasks.{TaskAnswer, TaskPart, EitherAnswer}
use Rattle.reports_lib.specs.Answer.{remark}
use Rattle.pieces_lib.proofs.AnswerLaws.{Answers-after, Fails-after, Fails-first, Gives-said, fails_of_memory}
use Rattle.pieces_lib.proofs.cut_files.cut_numbered.Goals as goal

pub returns-in_err-message-clause-fails : goal.returns-in_err-message-clause-fails
returns-in_err-message-clause-fails g c = fails_of_memory _ _ c.args.console.now c.from_residual.ensures.1

pub returns-in_err-say-clause-fails : goal.returns-in_err-say-clause-fails
returns-in_err-say-clause-fails g c =
    let p = err_from_is_err_and c.from_residual-in_err-say.result c.from_residual-in_err-say.ensures.1 in
    rw (p.1, p.2)
    (Fails-first (FileAnswer (g.F.Files.gives c.args.files.now) (EitherAnswer (ReadingAnswer (TaskAnswer c.args.task.now)) (TaskPart c.args.task.now)) c.args.input.now c.args.input.now c.args.name.now)
    c.args.console.now c.say.new.self (remark (number_text c.args.total c.args.number (shown_name c.args.name.now))) _
    (rw (c.as_str.ensures.value, c.in_ok-message.ensures.message, c.shown_name.ensures.name) at c.in_err-say.ensures.fails))

pub returns-clause-answer : goal.returns-clause-answer
returns-clause-answer g c =
    IfOk-weaker c.cut_file_or_input.result _ _
    (λ status. Answers-after (FileAnswer (g.F.Files.gives c.args.files.now) (ReadingAnswer (TaskAnswer c.args.task.now)) c.args.input.now c.cut_file_or_input.new.input c.args.name.now)
    c.args.console.now c.say.new.self c.cut_file_or_input.new.console status (number_text c.args.total c.args.number (shown_name c.args.name.now))
    (rw (c.as_str.ensures.value, c.in_ok-message.ensures.message, c.shown_name.ensures.name) at c.in_ok-say.ensures.said))
    c.cut_file_or_input.ensures.answer

pub returns-clause-fails : goal.returns-clause-fails
returns-clause-fails g c =
    IfErr-weaker c.cut_file_or_input.result _ _
    (λ e. Fails-after (FileAnswer (g.F.Files.gives c.args.files.now) (EitherAnswer (ReadingAnswer (TaskAnswer c.args.task.now)) (TaskPart c.args.task.now)) c.args.input.now c.cut_file_or_input.new.input c.args.name.now)
    c.args.console.now c.say.new.self c.cut_file_or_input.new.console (remark (number_text c.args.total c.args.number (shown_name c.args.name.now))) e
    (Gives-said c.args.console.now c.say.new.self (number_text c.args.total c.args.number (shown_name c.args.name.now))
    (rw (c.as_str.ensures.value, c.in_ok-message.ensures.message, c.shown_name.ensures.name) at c.in_ok-say.ensures.said)))
    c.cut_file_or_input.ensures.fails
