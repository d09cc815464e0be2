use Rattle.std.proofs.Common.{◌≡◌, map, string_bytes}
use Rattle.std.specs.List.{range_with_len}
use Rattle.reviews_lib.specs.Pictured.{label}
use Rattle.reviews_lib.proofs.pictured.labels.Given as goal

abbrev pub invariant-loop-rule : goal.invariant-loop-rule
invariant-loop-rule l = map string_bytes l.all.items ≡ map (label l.rules l.rules.mode_names) (range_with_len 0 l.rule)
