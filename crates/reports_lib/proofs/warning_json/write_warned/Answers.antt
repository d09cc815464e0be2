use Rattle.reports_lib.proofs.Steps.{four_steps}
use Rattle.reports_lib.proofs.warning_json.write_warned.Goals as goal

pub returns-clause-tokens : goal.returns-clause-tokens
returns-clause-tokens c =
    four_steps c.write_string-2.result _ _ _ _ _ _ _ _ _ c.in_ok-write_string.ensures.tokens c.in_ok-write_number.ensures.tokens c.in_ok-write_number-2.ensures.tokens c.write_string-2.ensures.tokens
