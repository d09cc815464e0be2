use Rattle.std.proofs.Common.{◌≡◌, ◌++◌, flat_map, take}
use Rattle.reviews_lib.specs.ReviewLines.{empty_told}
use Rattle.reviews_lib.proofs.review_lines.push_empty.Given as goal

-- the lines so far
abbrev pub invariant-loop-rule : goal.invariant-loop-rule
invariant-loop-rule l = l.lines.items ≡ l.fn.lines.items ++ flat_map (empty_told l.form l.reported) (take l.rule-index l.rules)
