use Rattle.std.proofs.Common.{◌≡◌, ◌++◌, string_bytes, drop, map}
use Rattle.lalrpop_verdicts.specs.Picture.{range_text, ranges_to}
use Rattle.lalrpop_verdicts.proofs.picture.range_texts.Given as goal

-- with what is left the text is complete
abbrev pub invariant-loop-range : goal.invariant-loop-range
invariant-loop-range l =
    map string_bytes l.texts.items ++ map range_text (ranges_to (drop l.range-index l.tests) l.to)
    ≡ map range_text (ranges_to l.tests l.to)
