use Rattle.std.proofs.Common.{◌∙◌, string_bytes}
use Rattle.std.proofs.lemmas.Result.{IfErr-weaker}
use Rattle.pieces_lib.specs.Tasks.{TaskAnswer, TaskPart}
use Rattle.pieces_lib.proofs.AnswerLaws.{Fails-weaker, fails_at_once, fails_of_memory}
use Rattle.pieces_lib.proofs.FilesLaws.{unopened_part}
use Rattle.pieces_lib.proofs.cut_files.cut_file.Goals as goal

pub returns-in_err-unread-in-Err-Because-clause-fails : goal.returns-in_err-unread-in-Err-Because-clause-fails
returns-in_err-unread-in-Err-Because-clause-fails g c = fails_of_memory _ _ c.args.console.now c.from_residual.ensures.1

pub returns-in-Err-OutOfMemory-clause-fails : goal.returns-in-Err-OutOfMemory-clause-fails
returns-in-Err-OutOfMemory-clause-fails g c = fails_at_once _ c.args.console.now

pub returns-in_ok-unread-in-Err-Because-clause-fails : goal.returns-in_ok-unread-in-Err-Because-clause-fails
returns-in_ok-unread-in-Err-Because-clause-fails g c =
    let gives = rw c.in-Err-Because.field-0-is at c.in-Err-Because.ensures.reason in
    IfErr-weaker c.give-in-Err-Because.result _ _
    (λ e. Fails-weaker _ _ c.args.console.now c.give-in-Err-Because.new.self e (λ answer same. unopened_part (g.F.Files.gives c.args.files.now c.args.name.now) (TaskAnswer c.args.task.now)
    (TaskPart c.args.task.now) c.args.name.now (string_bytes c.in-Err-Because.reason) answer gives (same ∙ (rw c.as_str.ensures.value at c.in_ok-unread-in-Err-Because.ensures.answer))))
    c.give-in-Err-Because.ensures.fails
