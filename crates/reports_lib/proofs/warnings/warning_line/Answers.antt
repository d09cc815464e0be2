use Rattle.reports_lib.proofs.warnings.warning_line.Goals as goal

pub returns-in_ok-words-in-PartUnused : goal.returns-in_ok-words-in-PartUnused
returns-in_ok-words-in-PartUnused c =
    rw c.in-PartUnused.is
    (rw (c.part_place-place.ensures, c.deref-in-PartUnused.ensures.value, c.as_str.ensures.value, c.in_ok-words-in-PartUnused.ensures.ok, c.part_name-unused.ensures, c.deref.ensures.value)
    at c.warned_at.ensures)

pub returns-in_ok-words-in-ModeNotEntered : goal.returns-in_ok-words-in-ModeNotEntered
returns-in_ok-words-in-ModeNotEntered c =
    rw c.in-ModeNotEntered.is
    (rw (c.as_str-in-ModeNotEntered.ensures.value, c.in_ok-words-in-ModeNotEntered.ensures.ok, c.mode_name-mode.ensures, c.deref-in-ModeNotEntered.ensures.value)
    at c.warned_of_mode.ensures)

pub returns-in_ok-words-in-ModeNotLeft : goal.returns-in_ok-words-in-ModeNotLeft
returns-in_ok-words-in-ModeNotLeft c =
    rw c.in-ModeNotLeft.is
    (rw (c.as_str-in-ModeNotLeft.ensures.value, c.in_ok-words-in-ModeNotLeft.ensures.ok, c.mode_name-mode-in-ModeNotLeft.ensures, c.deref-in-ModeNotLeft.ensures.value)
    at c.warned_of_mode-in-ModeNotLeft.ensures)
