use Rattle.std.proofs.Common.{subst, sym}
use Rattle.std.proofs.lemmas.Result.{IfOk-weaker}
use Rattle.reports_lib.specs.Safe.{IsSafe}
use Rattle.reports_lib.proofs.SafeMessages.{headed_is_safe, rules_are_safe}
use Rattle.uses_programs.proofs.show_safely.said_of_any_rules.Goals as goal

pub returns : goal.returns
returns c = record {
  safe = IfOk-weaker c.rules_message.result _ _
      (λ message says.
      let is = says c.requires.error in
      subst IsSafe (sym is.1.1) (headed_is_safe c.requires.name (rules_are_safe _ _ _ _ c.args.error.now is.0 c.requires.modes c.requires.rules is.1.0)))
      c.rules_message.ensures.message;
}
