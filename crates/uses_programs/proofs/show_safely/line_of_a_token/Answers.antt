use Rattle.std.proofs.Common.{None, Some, subst, sym}
use Rattle.reports_lib.specs.Safe.{IsSafe}
use Rattle.reports_lib.proofs.SafeLaws.{safe_append}
use Rattle.reports_lib.proofs.SafeMessages.{line_is_safe}
use Rattle.uses_programs.proofs.show_safely.line_of_a_token.Goals as goal

pub returns : goal.returns
returns c = record {
  safe = subst IsSafe (sym c.in_ok-push_plain.ensures)
      (safe_append c.requires.lines (line_is_safe None (Some c.args.name.now) c.args.position c.args.slice.now tt c.requires.name));
}
