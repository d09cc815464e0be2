use Rattle.reports_lib.proofs.Steps.{two_steps}
use Rattle.reports_lib.proofs.warning_json.write_of_text.Goals as goal

pub returns-clause-tokens : goal.returns-clause-tokens
returns-clause-tokens c =
    two_steps c.write_string.result _ _ _ _ _ (rw (c.text_place.ensures, c.deref.ensures.value) at c.in_ok-write_warned.ensures.tokens)
    (rw (c.rule_name.ensures, c.deref-2.ensures.value) at c.write_string.ensures.tokens)
