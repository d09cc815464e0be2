-- The names of rules.
use Rattle.std.specs.Prelude.{ℕ, List, [], option_map, slice_get, unwrap_or}
use Rattle.bajofeki_rules.specs.declared.rule.Rule.{Rule}

-- the name of the rule that has this index, if there is one
abbrev pub name_found : List Rule → ℕ → List ℕ
name_found rs i = unwrap_or (option_map (λ (r : Rule). r.name.now) (slice_get rs i)) []
