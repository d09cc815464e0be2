use Rattle.reports_lib.proofs.Steps.{two_steps}
use Rattle.reports_lib.proofs.warning_json.write_warning.Goals as goal

pub returns-in_ok-write_warned-in-PartUnused-clause-tokens : goal.returns-in_ok-write_warned-in-PartUnused-clause-tokens
returns-in_ok-write_warned-in-PartUnused-clause-tokens c =
    rw c.in-PartUnused.is
    (two_steps c.write_string-in-PartUnused.result _ _ _ _ _ (rw (c.part_place-place.ensures, c.deref.ensures.value) at c.in_ok-write_warned-in-PartUnused.ensures.tokens)
    (rw (c.part_name.ensures, c.deref-in-PartUnused.ensures.value) at c.write_string-in-PartUnused.ensures.tokens))

pub returns-in-ModeNotEntered-clause-tokens : goal.returns-in-ModeNotEntered-clause-tokens
returns-in-ModeNotEntered-clause-tokens c =
    rw c.in-ModeNotEntered.is (rw (c.mode_name-mode.ensures, c.deref-in-ModeNotEntered.ensures.value) at c.write_of_mode.ensures.tokens)

pub returns-in-ModeNotLeft-clause-tokens : goal.returns-in-ModeNotLeft-clause-tokens
returns-in-ModeNotLeft-clause-tokens c =
    rw c.in-ModeNotLeft.is (rw (c.mode_name-mode-in-ModeNotLeft.ensures, c.deref-in-ModeNotLeft.ensures.value) at c.write_of_mode-in-ModeNotLeft.ensures.tokens)
