use Rattle.std.proofs.Common.{◌≡◌, map, take}
use Rattle.reports_lib.proofs.mode_file.places_of.Given as goal

abbrev pub invariant-loop-rule : goal.invariant-loop-rule
invariant-loop-rule l = l.all.items ≡ map (λ f. f.place) (take l.rule-index l.rules)
