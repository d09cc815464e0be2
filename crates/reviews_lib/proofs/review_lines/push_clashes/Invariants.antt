use Rattle.std.proofs.Common.{◌≡◌, ◌++◌, flat_map, option_map, take}
use Rattle.reviews_lib.specs.ReviewLines.{clash_told}
use Rattle.reviews_lib.proofs.review_lines.push_clashes.Given as goal

-- the lines so far
abbrev pub invariant-loop-clash : goal.invariant-loop-clash
invariant-loop-clash l = l.lines.items ≡ l.fn.lines.items ++ flat_map (clash_told l.form l.reported (option_map (λ m. m.now) l.mode)) (take l.clash-index l.found)
