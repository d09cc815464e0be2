use Rattle.std.proofs.lemmas.Result.{IfOk-weaker, IfErr-weaker}
use Rattle.pieces_lib.proofs.AnswerLaws.{fails_of_memory}
use Rattle.tokens_lib.proofs.RuleLaws.{reply_answers, reply_fails}
use Rattle.tokens_lib.proofs.program.run_action.Goals as goal

pub returns-in-Cut-clause-answer : goal.returns-in-Cut-clause-answer
returns-in-Cut-clause-answer g c = rw c.in-Cut.is c.cut_lines.ensures.answer

pub returns-in-Cut-clause-fails : goal.returns-in-Cut-clause-fails
returns-in-Cut-clause-fails g c = rw c.in-Cut.is c.cut_lines.ensures.fails

pub returns-in-Show-clause-answer : goal.returns-in-Show-clause-answer
returns-in-Show-clause-answer g c = rw c.in-Show.is c.cut_pages.ensures.answer

pub returns-in-Show-clause-fails : goal.returns-in-Show-clause-fails
returns-in-Show-clause-fails g c = rw c.in-Show.is c.cut_pages.ensures.fails

pub returns-in_err-list_rules-in-Clashes-clause-fails : goal.returns-in_err-list_rules-in-Clashes-clause-fails
returns-in_err-list_rules-in-Clashes-clause-fails g c = fails_of_memory _ _ c.args.console.now c.from_residual.ensures.1

pub returns-in_ok-list_rules-in-Clashes-clause-answer : goal.returns-in_ok-list_rules-in-Clashes-clause-answer
returns-in_ok-list_rules-in-Clashes-clause-answer g c =
    IfOk-weaker c.give-in-Clashes.result _ _ (λ status. reply_answers _ c.in_ok-list_rules-in-Clashes.field-0 c.args.console.now c.give-in-Clashes.new.self status (rw c.in-Clashes.is c.in_ok-list_rules-in-Clashes.ensures.answer)) c.give-in-Clashes.ensures.answer

pub returns-in_ok-list_rules-in-Clashes-clause-fails : goal.returns-in_ok-list_rules-in-Clashes-clause-fails
returns-in_ok-list_rules-in-Clashes-clause-fails g c =
    IfErr-weaker c.give-in-Clashes.result _ _ (λ e. reply_fails _ c.in_ok-list_rules-in-Clashes.field-0 c.args.console.now c.give-in-Clashes.new.self e (rw c.in-Clashes.is c.in_ok-list_rules-in-Clashes.ensures.answer)) c.give-in-Clashes.ensures.fails

pub returns-in_err-list_rules-in-Check-clause-fails : goal.returns-in_err-list_rules-in-Check-clause-fails
returns-in_err-list_rules-in-Check-clause-fails g c = fails_of_memory _ _ c.args.console.now c.from_residual-in_err-list_rules-in-Check.ensures.1

pub returns-in_ok-list_rules-in-Check-clause-answer : goal.returns-in_ok-list_rules-in-Check-clause-answer
returns-in_ok-list_rules-in-Check-clause-answer g c =
    IfOk-weaker c.give-in-Check-2.result _ _ (λ status. reply_answers _ c.in_ok-list_rules-in-Check.field-0 c.args.console.now c.give-in-Check-2.new.self status (rw c.in-Check.is c.in_ok-list_rules-in-Check.ensures.answer)) c.give-in-Check-2.ensures.answer

pub returns-in_ok-list_rules-in-Check-clause-fails : goal.returns-in_ok-list_rules-in-Check-clause-fails
returns-in_ok-list_rules-in-Check-clause-fails g c =
    IfErr-weaker c.give-in-Check-2.result _ _ (λ e. reply_fails _ c.in_ok-list_rules-in-Check.field-0 c.args.console.now c.give-in-Check-2.new.self e (rw c.in-Check.is c.in_ok-list_rules-in-Check.ensures.answer)) c.give-in-Check-2.ensures.fails

pub returns-in_err-emit-in-Emit-clause-fails : goal.returns-in_err-emit-in-Emit-clause-fails
returns-in_err-emit-in-Emit-clause-fails g c = fails_of_memory _ _ c.args.console.now c.from_residual-in_err-emit-in-Emit.ensures.1

pub returns-in_ok-emit-in-Emit-clause-answer : goal.returns-in_ok-emit-in-Emit-clause-answer
returns-in_ok-emit-in-Emit-clause-answer g c =
    IfOk-weaker c.give-in-Emit-2.result _ _ (λ status. reply_answers _ c.in_ok-emit-in-Emit.field-0 c.args.console.now c.give-in-Emit-2.new.self status (rw c.in-Emit.is c.in_ok-emit-in-Emit.ensures.answer)) c.give-in-Emit-2.ensures.answer

pub returns-in_ok-emit-in-Emit-clause-fails : goal.returns-in_ok-emit-in-Emit-clause-fails
returns-in_ok-emit-in-Emit-clause-fails g c =
    IfErr-weaker c.give-in-Emit-2.result _ _ (λ e. reply_fails _ c.in_ok-emit-in-Emit.field-0 c.args.console.now c.give-in-Emit-2.new.self e (rw c.in-Emit.is c.in_ok-emit-in-Emit.ensures.answer)) c.give-in-Emit-2.ensures.fails

pub returns-in_err-draw-in-Picture-clause-fails : goal.returns-in_err-draw-in-Picture-clause-fails
returns-in_err-draw-in-Picture-clause-fails g c = fails_of_memory _ _ c.args.console.now c.from_residual-in_err-draw-in-Picture.ensures.1

pub returns-in_ok-draw-in-Picture-clause-answer : goal.returns-in_ok-draw-in-Picture-clause-answer
returns-in_ok-draw-in-Picture-clause-answer g c =
    IfOk-weaker c.give-in-Picture-2.result _ _ (λ status. reply_answers _ c.in_ok-draw-in-Picture.field-0 c.args.console.now c.give-in-Picture-2.new.self status (rw c.in-Picture.is c.in_ok-draw-in-Picture.ensures.answer)) c.give-in-Picture-2.ensures.answer

pub returns-in_ok-draw-in-Picture-clause-fails : goal.returns-in_ok-draw-in-Picture-clause-fails
returns-in_ok-draw-in-Picture-clause-fails g c =
    IfErr-weaker c.give-in-Picture-2.result _ _ (λ e. reply_fails _ c.in_ok-draw-in-Picture.field-0 c.args.console.now c.give-in-Picture-2.new.self e (rw c.in-Picture.is c.in_ok-draw-in-Picture.ensures.answer)) c.give-in-Picture-2.ensures.fails

pub returns-in_err-compare-in-Difference-clause-fails : goal.returns-in_err-compare-in-Difference-clause-fails
returns-in_err-compare-in-Difference-clause-fails g c = fails_of_memory _ _ c.args.console.now c.from_residual-in_err-compare-in-Difference.ensures.1

pub returns-in_ok-compare-in-Difference-clause-answer : goal.returns-in_ok-compare-in-Difference-clause-answer
returns-in_ok-compare-in-Difference-clause-answer g c =
    IfOk-weaker c.give-in-Difference-2.result _ _ (λ status. reply_answers _ c.in_ok-compare-in-Difference.field-0 c.args.console.now c.give-in-Difference-2.new.self status (rw c.in-Difference.is c.in_ok-compare-in-Difference.ensures.answer)) c.give-in-Difference-2.ensures.answer

pub returns-in_ok-compare-in-Difference-clause-fails : goal.returns-in_ok-compare-in-Difference-clause-fails
returns-in_ok-compare-in-Difference-clause-fails g c =
    IfErr-weaker c.give-in-Difference-2.result _ _ (λ e. reply_fails _ c.in_ok-compare-in-Difference.field-0 c.args.console.now c.give-in-Difference-2.new.self e (rw c.in-Difference.is c.in_ok-compare-in-Difference.ensures.answer)) c.give-in-Difference-2.ensures.fails
