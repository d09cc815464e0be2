use Rattle.std.proofs.Common.{◌≡◌, ◌++◌, string_bytes, flat_map}
use Rattle.lalrpop_verdicts.specs.Picture.{name_character}
use Rattle.lalrpop_verdicts.proofs.picture.push_characters.Given as goal

-- the characters so far
abbrev pub invariant-loop-c : goal.invariant-loop-c
invariant-loop-c l = string_bytes l.text ≡ string_bytes l.initial.text ++ flat_map name_character l.yielded
