use Rattle.std.proofs.Common.{ℕ, ◌+◌, List, [], Bor, get_or, refl}
use Rattle.std.proofs.lemmas.Result.{err_from_is_err_and}
use Rattle.pieces_lib.specs.FileAnswers.{ReadingAnswer, NumberedAnswer, NumberedPart}
use Rattle.pieces_lib.specs.Tasks.{TaskAnswer, TaskPart, EitherAnswer}
use Rattle.pieces_lib.proofs.AnswerLaws.{Fails-weaker, Fails-after}
use Rattle.pieces_lib.proofs.FilesLaws.{answered_more, files_begun}
use Rattle.pieces_lib.proofs.cut_files.cut_each.Goals as goal

abbrev text : Bor (List ℕ) → List ℕ
text name = name.now

pub loop-i-preserved : goal.loop-i-preserved
loop-i-preserved g c =
    answered_more (NumberedAnswer (g.F.Files.gives c.args.files.now) (ReadingAnswer (TaskAnswer c.args.task.now)) c.args.total) text c.args.names.now c.loop-i.i
    (record { ref_ptr = (0, 0); now = [] }) (get_or c.args.names.now c.loop-i.i (record { ref_ptr = (0, 0); now = [] })).now c.args.input.now c.loop-i.input c.cut_numbered.new.input
    c.loop-i-test.true refl c.args.console.now c.loop-i.console c.cut_numbered.new.console c.loop-i.status c.in_ok-own.own c.worse-status.result c.worse-status.ensures
    c.loop-i.invariant c.in_ok-own.ensures.answer

pub returns-in_err-own-clause-fails : goal.returns-in_err-own-clause-fails
returns-in_err-own-clause-fails g c =
    let p = err_from_is_err_and c.from_residual.result c.from_residual.ensures.1 in
    let before = c.loop-i.invariant in
    let here = (get_or c.args.names.now c.loop-i.i (record { ref_ptr = (0, 0); now = [] })).now in
    rw (p.1, p.2)
    (Fails-weaker _ _ c.args.console.now c.cut_numbered.new.console _
    (λ x is. files_begun (g.F.Files.gives c.args.files.now) (ReadingAnswer (TaskAnswer c.args.task.now)) (TaskPart c.args.task.now) c.args.total text c.args.names.now c.loop-i.i
    (record { ref_ptr = (0, 0); now = [] }) here c.args.input.now c.loop-i.input c.cut_numbered.new.input before.0 x c.loop-i-test.true refl before.1.0 is)
    (Fails-after (NumberedPart (g.F.Files.gives c.args.files.now) (EitherAnswer (ReadingAnswer (TaskAnswer c.args.task.now)) (TaskPart c.args.task.now)) c.args.total (c.loop-i.i + 1)
    c.loop-i.input c.cut_numbered.new.input here) c.args.console.now c.loop-i.console c.cut_numbered.new.console before.0 _ before.1.1.1 c.in_err-own.ensures.fails))
