use Rattle.std.proofs.Common.{◌+◌, [], ◌∷◌, length, ap, ◌∙◌, length-append}
use Rattle.std.specs.Prelude.{None}
use Rattle.lalrpop_build.proofs.ClassCache.{empty_cache_more}
use Rattle.lalrpop_build.proofs.build.target_cache.no_numbers.Goals as goal

pub loop-init : goal.loop-init
loop-init c = record {
  count = ap length c.in_ok-numbers.ensures.items;
  none = λ i j h. (let at = (rw c.in_ok-numbers.ensures.items at h) in cc);
}

pub loop-preserved : goal.loop-preserved
loop-preserved c = record {
  count = ap length c.in_ok-push.ensures.items ∙ (length-append c.loop.numbers.items (None ∷ []) ∙ ap (λ n. n + 1) c.loop.invariant.count);
  none = empty_cache_more c.loop.numbers.items c.push.new.self.items c.loop.invariant.none c.in_ok-push.ensures.items;
}
