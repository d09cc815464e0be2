use Rattle.std.proofs.Common.{◌≡◌, ◌++◌, flat_map, option_map, take}
use Rattle.reviews_lib.specs.ReviewLines.{idle_once}
use Rattle.reviews_lib.proofs.review_lines.push_idle.Given as goal

-- the lines so far
abbrev pub invariant-loop-idle : goal.invariant-loop-idle
invariant-loop-idle l = l.lines.items ≡ l.fn.lines.items ++ flat_map (idle_once l.form l.reported l.empty (option_map (λ m. m.now) l.mode)) (take l.idle-index l.rules)
