use Rattle.std.proofs.Common.{◌≡◌, ◌++◌, string_bytes, codes, flat_map}
use Rattle.bajofeki_rules.specs.Quoted.{told}
use Rattle.bajofeki_rules.proofs.quote.quoted.Given as goal

-- the quote and the characters so far
abbrev pub invariant-loop-c : goal.invariant-loop-c
invariant-loop-c l = string_bytes l.text ≡ codes "\"" ++ flat_map told l.yielded
