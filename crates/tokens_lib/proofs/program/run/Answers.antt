use Rattle.std.proofs.Common.{◌≡◌, ◌≢◌, ℕ, ◌≤◌, List, inl, inr, map, string_bytes, subst, ap, ◌∙◌, arith}
use Rattle.std.proofs.lemmas.Result.{IfOk-weaker, IfErr-weaker}
use Rattle.lexdfa_lib.specs.Options.{joined, options, names}
use Rattle.lexdfa_lib.specs.Command.{IsArgumentsError, IsCommand}
use Rattle.lexdfa_lib.specs.declared.command.ArgumentsError.TheVariants.{OutOfMemory}
use Rattle.pieces_lib.proofs.AnswerLaws.{Answers-weaker, Fails-weaker, fails_of_memory}
use Rattle.tokens_lib.proofs.StatusBounds.{command_low}
use Rattle.tokens_lib.proofs.program.run.Goals as goal

low_after : (status own : ℕ) → status ≡ own → own ≤ 6 → status ≤ 6
low_after status own same low = omega (arith, same, low)

pub returns-in_err-words-clause-fails : goal.returns-in_err-words-clause-fails
returns-in_err-words-clause-fails g c = fails_of_memory _ _ c.args.console.now c.from_residual.ensures.1

pub returns-in-Ok-clause-answer : goal.returns-in-Ok-clause-answer
returns-in-Ok-clause-answer g c =
    let same : map string_bytes c.deref.result.now ≡ joined (map string_bytes c.args.words.now) = ap (map string_bytes) c.deref.ensures.value ∙ c.in_ok-words.ensures in
    let is = subst (λ (ws : List (List ℕ)). IsCommand (options ws) (names ws) c.in-Ok.command) same c.in-Ok.ensures.command in
    IfOk-weaker c.run_command.result _ _ (λ status. Answers-weaker _ _ c.args.console.now c.run_command.new.console status (λ x done. inr (c.in-Ok.command, (is, done)))) c.run_command.ensures.answer

pub returns-in-Ok-clause-status : goal.returns-in-Ok-clause-status
returns-in-Ok-clause-status g c =
    IfOk-weaker c.run_command.result _ _
    (λ status a. low_after status a.0.status a.1.1.0 (command_low (g.F.Files.gives c.args.files.now) c.args.input.now c.run_command.new.input c.in-Ok.command a.0 a.1.0))
    c.run_command.ensures.answer

pub returns-in-Ok-clause-fails : goal.returns-in-Ok-clause-fails
returns-in-Ok-clause-fails g c =
    let same : map string_bytes c.deref.result.now ≡ joined (map string_bytes c.args.words.now) = ap (map string_bytes) c.deref.ensures.value ∙ c.in_ok-words.ensures in
    let is = subst (λ (ws : List (List ℕ)). IsCommand (options ws) (names ws) c.in-Ok.command) same c.in-Ok.ensures.command in
    IfErr-weaker c.run_command.result _ _ (λ e. Fails-weaker _ _ c.args.console.now c.run_command.new.console e (λ x done. inr (c.in-Ok.command, (is, done)))) c.run_command.ensures.fails

pub returns-in_err-arguments_refused-in-Err-clause-fails : goal.returns-in_err-arguments_refused-in-Err-clause-fails
returns-in_err-arguments_refused-in-Err-clause-fails g c = fails_of_memory _ _ c.args.console.now c.from_residual-in_err-arguments_refused-in-Err.ensures.1

pub returns-clause-answer : goal.returns-clause-answer
returns-clause-answer g c =
    let same : map string_bytes c.deref.result.now ≡ joined (map string_bytes c.args.words.now) = ap (map string_bytes) c.deref.ensures.value ∙ c.in_ok-words.ensures in
    let is = subst (λ (ws : List (List ℕ)). c.in-Err.error ≢ OutOfMemory → IsArgumentsError (options ws) (names ws) c.in-Err.error) same c.in-Err.ensures.error in
    IfOk-weaker c.give-in-Err.result _ _
    (λ status. Answers-weaker _ _ c.args.console.now c.give-in-Err.new.self status
    (λ x reply. inl (c.in-Err.error, (is c.in_ok-arguments_refused-in-Err.ensures.other, reply ∙ c.in_ok-arguments_refused-in-Err.ensures.answer))))
    c.give-in-Err.ensures.answer

pub returns-clause-fails : goal.returns-clause-fails
returns-clause-fails g c =
    let same : map string_bytes c.deref.result.now ≡ joined (map string_bytes c.args.words.now) = ap (map string_bytes) c.deref.ensures.value ∙ c.in_ok-words.ensures in
    let is = subst (λ (ws : List (List ℕ)). c.in-Err.error ≢ OutOfMemory → IsArgumentsError (options ws) (names ws) c.in-Err.error) same c.in-Err.ensures.error in
    IfErr-weaker c.give-in-Err.result _ _
    (λ e. Fails-weaker _ _ c.args.console.now c.give-in-Err.new.self e
    (λ x reply. inl (c.in-Err.error, (is c.in_ok-arguments_refused-in-Err.ensures.other, reply ∙ c.in_ok-arguments_refused-in-Err.ensures.answer))))
    c.give-in-Err.ensures.fails
