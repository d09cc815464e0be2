-- The starts and the ends of ranges, which a sweep goes over.
use Rattle.std.specs.Prelude.{ℕ, List, map}
use Rattle.std.specs.List.{filter}
use Rattle.lalrpop_hir.specs.Range.{Range}
use Rattle.lalrpop_nfa.specs.Partition.{has_value}

-- the starts of the nonempty ranges
abbrev pub starts_of : List Range → List ℕ
starts_of rs = map (λ r. r.start) (filter has_value rs)

-- the ends of the nonempty ranges
abbrev pub ends_of : List Range → List ℕ
ends_of rs = map (λ r. r.end) (filter has_value rs)
