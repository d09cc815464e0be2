use Rattle.std.proofs.Common.{◌≡◌, string_bytes, take}
use Rattle.reviews_lib.specs.ReviewJson.{word_text}
use Rattle.reviews_lib.proofs.review_json.word_text.Given as goal

-- the values so far
abbrev pub invariant-loop-value : goal.invariant-loop-value
invariant-loop-value l = string_bytes l.text ≡ word_text (take l.value-index l.word)
