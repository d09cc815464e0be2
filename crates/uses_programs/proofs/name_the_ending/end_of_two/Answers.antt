use Rattle.std.proofs.lemmas.Result.{IfOk-weaker}
use Rattle.uses_programs.proofs.EndingLaws.{ends_both}
use Rattle.uses_programs.specs.Endings.{answer_of}
use Rattle.uses_programs.proofs.name_the_ending.end_of_two.Goals as goal

pub returns-clause-ends : goal.returns-clause-ends
returns-clause-ends c = IfOk-weaker c.cut_two_in_memory.result _ _ (λ given. ends_both c.args.form c.args.recovers c.args.files.now.rules.now c.args.files.now.text.now c.args.input.now (answer_of given)) c.cut_two_in_memory.ensures.exact
