use Rattle.std.proofs.Common.{◌≡◌, string_bytes, take}
use Rattle.reviews_lib.specs.ReviewLines.{winners_text}
use Rattle.reviews_lib.proofs.review_lines.winners_text.Given as goal

-- the winners so far
abbrev pub invariant-loop-index : goal.invariant-loop-index
invariant-loop-index l = string_bytes l.text ≡ winners_text l.reported (take l.index l.winners)
