use Rattle.std.proofs.Common.{◌≡◌, ◌-◌, ◌≤◌, ◌++◌, map, length, take, drop}
use Rattle.std.specs.Prelude.{string_bytes}
use Rattle.lexdfa_lib.specs.Options.{joined}
use Rattle.lexdfa_lib.proofs.options.joined.Given as goal

abbrev pub invariant-join : goal.invariant-join
invariant-join l = record {
  within : l.at ≤ length l.words;
  so_far : joined (map string_bytes l.words) ≡ map string_bytes l.all.items ++ joined (map string_bytes (drop l.at l.words));
}

abbrev pub decreases-join : goal.decreases-join
decreases-join l = length l.words - l.at

abbrev pub invariant-loop-word : goal.invariant-loop-word
invariant-loop-word l = map string_bytes l.all.items ≡ map string_bytes l.initial.all.items ++ map string_bytes (take l.word-index (drop l.at l.words))
