use Rattle.std.proofs.Common.{◌≡◌, string_bytes, take}
use Rattle.reviews_lib.specs.ReviewLines.{rules_text}
use Rattle.reviews_lib.proofs.review_lines.rules_text.Given as goal

-- the names so far
abbrev pub invariant-loop-index : goal.invariant-loop-index
invariant-loop-index l = string_bytes l.text ≡ rules_text l.reported (take l.index l.rules)
