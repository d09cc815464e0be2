-- Cases of specs/Meet.antt.
use Rattle.std.proofs.Common.{arith}
use Rattle.lalrpop_hir.specs.Meet.{Meet}

-- a-c and c-e have `c` in common
ranges_with_a_common_end_meet : Meet (record { start = 97; end = 99 }) (record { start = 99; end = 101 })
ranges_with_a_common_end_meet = (99, ((omega arith, omega arith), (omega arith, omega arith)))

-- a-b and c-e have none
neighbours_do_not_meet : ¬ Meet (record { start = 97; end = 98 }) (record { start = 99; end = 101 })
neighbours_do_not_meet (c, (h, k)) = omega (arith, h.1, k.0)
