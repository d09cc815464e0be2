use Rattle.std.proofs.Common.{subst, sym}
use Rattle.reports_lib.specs.Safe.{IsSafe}
use Rattle.reports_lib.proofs.SafeJson.{printed_line_is_safe}
use Rattle.reports_lib.proofs.SafeLaws.{safe_append}
use Rattle.uses_programs.proofs.show_safely.object_of_a_token.Goals as goal

pub returns : goal.returns
returns c = record { safe = subst IsSafe (sym c.in_ok-push_json.ensures) (safe_append c.requires.lines (printed_line_is_safe _)) }
