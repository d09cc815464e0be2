use Rattle.reports_lib.proofs.Steps.{two_steps}
use Rattle.reports_lib.proofs.warning_json.write_of_mode.Goals as goal

pub returns-clause-tokens : goal.returns-clause-tokens
returns-clause-tokens c =
    two_steps c.write_string.result _ _ _ _ _ (rw c.mode_place.ensures at c.in_ok-write_warned.ensures.tokens) c.write_string.ensures.tokens
