use Rattle.std.proofs.lemmas.Result.{IfOk-weaker}
use Rattle.uses_programs.proofs.EndingLaws.{ends_alone}
use Rattle.uses_programs.specs.Endings.{answer_of}
use Rattle.uses_programs.proofs.name_the_ending.end_of_one.Goals as goal

pub returns-clause-ends : goal.returns-clause-ends
returns-clause-ends c = IfOk-weaker c.cut_in_memory.result _ _ (λ given. ends_alone c.args.form c.args.recovers c.args.rules.now c.args.text.now (answer_of given)) c.cut_in_memory.ensures.exact
