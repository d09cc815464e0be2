use Rattle.std.proofs.Common.{◌≡◌, map, take}
use Rattle.reviews_lib.specs.ReviewLines.{clashes_told}
use Rattle.reviews_lib.proofs.review_lines.clashes_told.Given as goal

-- the modes so far
abbrev pub invariant-loop-mode : goal.invariant-loop-mode
invariant-loop-mode l = l.lines.items ≡ clashes_told l.form l.reported 0 (map (λ cs. cs.items) (take l.mode l.found))
