-- Cases of specs/Counts.antt.
use Rattle.std.proofs.Common.{Some, None, arith}
use Rattle.lalrpop_hir.specs.Counts.{AreOrdered}

-- `{2,2}`
equal_counts_are_ordered : AreOrdered 2 (Some 2)
equal_counts_are_ordered = omega arith

-- `{3,2}`
greater_count_first_is_not_ordered : ¬ AreOrdered 3 (Some 2)
greater_count_first_is_not_ordered h = omega arith

-- `{3,}`
count_without_a_limit_is_ordered : AreOrdered 3 None
count_without_a_limit_is_ordered = tt
