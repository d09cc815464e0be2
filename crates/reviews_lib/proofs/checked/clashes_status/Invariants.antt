use Rattle.std.proofs.Common.{◌≡◌, map, drop}
use Rattle.reports_lib.specs.NamedRules.{clashes_status}
use Rattle.reviews_lib.proofs.checked.clashes_status.Given as goal

-- no mode so far has clashes
abbrev pub invariant-loop-clashes : goal.invariant-loop-clashes
invariant-loop-clashes l = clashes_status (map (λ cs. cs.items) l.found) ≡ clashes_status (map (λ cs. cs.items) (drop l.clashes-index l.found))
