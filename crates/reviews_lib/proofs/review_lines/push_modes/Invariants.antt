use Rattle.std.proofs.Common.{◌≡◌, ◌++◌, take}
use Rattle.reviews_lib.specs.ReviewLines.{by_mode, mode_told}
use Rattle.reviews_lib.proofs.review_lines.push_modes.Given as goal

-- the modes so far
abbrev pub invariant-loop-mode : goal.invariant-loop-mode
invariant-loop-mode l = l.lines.items ≡ l.fn.lines.items ++ by_mode (mode_told l.form l.reported l.empty) l.reported.modes 0 (take l.mode l.modes)
