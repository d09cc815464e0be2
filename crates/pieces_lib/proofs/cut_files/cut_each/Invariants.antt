use Rattle.std.proofs.Common.{map, take}
use Rattle.pieces_lib.specs.Console.{Answers}
use Rattle.pieces_lib.specs.FileAnswers.{ReadingAnswer, FilesAnswer, NumberedAnswer}
use Rattle.pieces_lib.specs.Tasks.{TaskAnswer}
use Rattle.pieces_lib.proofs.cut_files.cut_each.Given as goal

-- the files so far
abbrev pub invariant-loop-i : goal.invariant-loop-i
invariant-loop-i g l =
    Answers (FilesAnswer (NumberedAnswer (g.F.Files.gives l.files) (ReadingAnswer (TaskAnswer l.task)) l.total) 1 l.fn.input l.input (map (λ name. name.now) (take l.i l.names)))
    l.fn.console l.status l.console
