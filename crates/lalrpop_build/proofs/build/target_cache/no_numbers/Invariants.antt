use Rattle.std.proofs.Common.{◌≡◌, length}
use Rattle.lalrpop_build.specs.Internal.Expansion.{IsEmptyCache}
use Rattle.lalrpop_build.proofs.build.target_cache.no_numbers.Given as goal

abbrev pub invariant-loop : goal.invariant-loop
invariant-loop l = record {
  count : length l.numbers.items ≡ l.counter;
  none : IsEmptyCache l.numbers.items;
}
