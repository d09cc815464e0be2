use Rattle.std.proofs.lemmas.Result.{err_from_is_err_and}
use Rattle.pieces_lib.proofs.AnswerLaws.{Fails-written}
use Rattle.pieces_lib.proofs.console.Console.give.Goals as goal

pub returns-in_err-write-clause-fails : goal.returns-in_err-write-clause-fails
returns-in_err-write-clause-fails g c =
    let p = err_from_is_err_and c.from_residual-in_err-write.result c.from_residual-in_err-write.ensures.1 in
    rw (p.1, p.2)
    (Fails-written c.args.self.now c.say.new.self c.write.new.self c.args.reply.now _
    (rw c.err.ensures.err at c.in_ok-say.ensures.said) (rw c.out.ensures.out at c.in_err-write.ensures.part))
