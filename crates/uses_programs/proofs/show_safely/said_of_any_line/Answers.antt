use Rattle.std.proofs.Common.{subst, sym}
use Rattle.std.proofs.lemmas.Result.{IfOk-weaker}
use Rattle.reports_lib.specs.Safe.{IsSafe}
use Rattle.reports_lib.proofs.SafeMessages.{bad_line_is_safe, headed_is_safe}
use Rattle.uses_programs.proofs.show_safely.said_of_any_line.Goals as goal

pub returns : goal.returns
returns c = record {
  safe = IfOk-weaker c.bad_line_message.result _ _
      (λ message is. subst IsSafe (sym is.1.1) (headed_is_safe c.requires.name (bad_line_is_safe _ c.args.error.now is.0 is.1.0)))
      c.bad_line_message.ensures.message;
}
