use Rattle.pieces_lib.proofs.AnswerLaws.{fails_of_memory}
use Rattle.pieces_lib.proofs.cut_files.tell_end.Goals as goal

pub returns-in_err-message-clause-fails : goal.returns-in_err-message-clause-fails
returns-in_err-message-clause-fails g c = fails_of_memory _ _ c.args.console.now c.from_residual.ensures.1
