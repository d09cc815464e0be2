use Rattle.std.proofs.Common.{rules}
use Rattle.std.proofs.lemmas.List.Sorted.{IsNonDecreasingBy-from_sort_by_key}
use Rattle.lalrpop_hir.specs.Runs.{next_scalar, IsScalar}
use Rattle.lalrpop_hir.proofs.Joining.{AreRuns-permutation}
use Rattle.lalrpop_hir.proofs.class.ClassUnicode.new.Goals as goal

pub join_characters-requires : goal.join_characters-requires
join_characters-requires c =
    rw c.deref.ensures.value (IsNonDecreasingBy-from_sort_by_key (λ r. r.start) _ c.sort_unstable_by_key.ensures.sorted (λ a r q k. search rules))

pub returns : goal.returns
returns c =
    record { runs = AreRuns-permutation next_scalar IsScalar _ _ _ c.sort_unstable_by_key.ensures.permutation (rw (← c.deref.ensures.value) c.in_ok-ranges.ensures) }
