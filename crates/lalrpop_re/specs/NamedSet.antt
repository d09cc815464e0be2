-- cases: proofs/Cases/NamedSet.antt
-- The sets that `\p{name}` names: two of this grammar, and those of Unicode.
use Rattle.std.specs.Prelude.{ℕ, ◌&&◌, List, Option, Some, option_map, if◌then◌else◌, codes, bytes_eq}
use Rattle.std.specs.Char.{is_ascii}
use Rattle.unicode.specs.Loose.{normalize}
use Rattle.unicode.specs.Lookup.{by_name}
use Rattle.unicode.specs.Sets.{in_set}
use Rattle.lalrpop_re.specs.CharacterSet.{Set, is_scalar}

abbrev pub looked_up : List ℕ → Option Set
looked_up name =
    if bytes_eq name (codes "any") then Some is_scalar
    else if bytes_eq name (codes "ascii") then Some is_ascii
    else option_map (λ s c. is_scalar c && in_set s c) (by_name name)

-- the set that a name stands for
unfoldable pub named : List ℕ → Option Set
named name = looked_up (normalize name)
