use Rattle.std.proofs.Common.{◌≡◌, map, string_bytes, take}
use Rattle.lalrpop_rules.proofs.known_rule.owned_names.Given as goal

abbrev pub invariant-loop-name : goal.invariant-loop-name
invariant-loop-name l = map string_bytes l.all.items ≡ map (λ m. m.now) (take l.name-index l.names)
