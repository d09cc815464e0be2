use Rattle.std.proofs.Common.{◌≡◌, length}
use Rattle.lalrpop_build.proofs.CacheLaws.{AreNumbersFrom}
use Rattle.lalrpop_build.proofs.build.target_cache.TargetCache.clear.Given as goal

abbrev pub invariant-loop-class : goal.invariant-loop-class
invariant-loop-class l = record {
  numbers : AreNumbersFrom l.class-index l.used l.self.by_class.items;
  count : length l.self.by_class.items ≡ length l.fn.self.by_class.items;
}
