use Rattle.std.proofs.Common.{List, ℕ, Bor, map}
use Rattle.std.proofs.lemmas.Result.{IfOk-weaker, IfErr-weaker, err_from_is_err_and}
use Rattle.lexdfa_lib.specs.Streams.{GivesWhole}
use Rattle.reports_lib.specs.Answer.{remark}
use Rattle.pieces_lib.specs.FileAnswers.{TextsAnswer, FirstTextsAnswer}
use Rattle.tokens_lib.specs.Program.{ActionAnswer}
use Rattle.pieces_lib.specs.Progress.{reading_text}
use Rattle.pieces_lib.proofs.AnswerLaws.{Answers-after, Fails-after, Fails-first, Gives-said, fails_of_memory}
use Rattle.tokens_lib.proofs.program.run_command.Goals as goal

abbrev text : Bor (List ℕ) → List ℕ
text name = name.now

pub returns-in_err-informed-in-Help-clause-fails : goal.returns-in_err-informed-in-Help-clause-fails
returns-in_err-informed-in-Help-clause-fails g c = fails_of_memory _ _ c.args.console.now c.from_residual.ensures.1

pub returns-in_err-informed-in-Version-clause-fails : goal.returns-in_err-informed-in-Version-clause-fails
returns-in_err-informed-in-Version-clause-fails g c = fails_of_memory _ _ c.args.console.now c.from_residual-in_err-informed-in-Version.ensures.1

pub returns-in_err-message-in-Run-clause-fails : goal.returns-in_err-message-in-Run-clause-fails
returns-in_err-message-in-Run-clause-fails g c = fails_of_memory _ _ c.args.console.now c.from_residual-in_err-message-in-Run.ensures.1

pub returns-in_err-say-in-Run-clause-fails : goal.returns-in_err-say-in-Run-clause-fails
returns-in_err-say-in-Run-clause-fails g c =
    let p = err_from_is_err_and c.from_residual-in_err-say-in-Run.result c.from_residual-in_err-say-in-Run.ensures.1 in
    rw (p.1, p.2, c.in-Run.is)
    (Fails-first (ActionAnswer (GivesWhole (g.F.Files.gives c.args.files.now)) (FirstTextsAnswer (g.F.Files.gives c.args.files.now) c.args.input.now) c.in-Run.action c.in-Run.verbosity c.in-Run.rules.now (map text c.in-Run.names.items)) c.args.console.now c.say.new.self (remark (reading_text c.in-Run.verbosity c.in-Run.rules.now)) _
    (rw (c.as_str.ensures.value, c.in_ok-message-in-Run.ensures.message) at c.in_err-say-in-Run.ensures.fails))

pub returns-in_ok-say-in-Run-clause-answer : goal.returns-in_ok-say-in-Run-clause-answer
returns-in_ok-say-in-Run-clause-answer g c =
    rw c.in-Run.is
    (IfOk-weaker c.run_action.result _ _
    (λ status. Answers-after (ActionAnswer (GivesWhole (g.F.Files.gives c.args.files.now)) (TextsAnswer (g.F.Files.gives c.args.files.now) c.args.input.now c.run_action.new.input) c.in-Run.action c.in-Run.verbosity c.in-Run.rules.now (map text c.in-Run.names.items)) c.args.console.now c.say.new.self c.run_action.new.console status (reading_text c.in-Run.verbosity c.in-Run.rules.now) (rw (c.as_str.ensures.value, c.in_ok-message-in-Run.ensures.message) at c.in_ok-say-in-Run.ensures.said))
    (rw c.deref.ensures.value at c.run_action.ensures.answer))

pub returns-in_ok-say-in-Run-clause-fails : goal.returns-in_ok-say-in-Run-clause-fails
returns-in_ok-say-in-Run-clause-fails g c =
    rw c.in-Run.is
    (IfErr-weaker c.run_action.result _ _
    (λ e. Fails-after (ActionAnswer (GivesWhole (g.F.Files.gives c.args.files.now)) (FirstTextsAnswer (g.F.Files.gives c.args.files.now) c.args.input.now) c.in-Run.action c.in-Run.verbosity c.in-Run.rules.now (map text c.in-Run.names.items)) c.args.console.now c.say.new.self c.run_action.new.console (remark (reading_text c.in-Run.verbosity c.in-Run.rules.now)) e
    (Gives-said c.args.console.now c.say.new.self (reading_text c.in-Run.verbosity c.in-Run.rules.now) (rw (c.as_str.ensures.value, c.in_ok-message-in-Run.ensures.message) at c.in_ok-say-in-Run.ensures.said)))
    (rw c.deref.ensures.value at c.run_action.ensures.fails))
