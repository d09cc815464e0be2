use Rattle.std.proofs.Common.{◌∙◌, length, ap, arith}
use Rattle.lalrpop_build.proofs.CacheLaws.{cache_empty}
use Rattle.lalrpop_build.proofs.build.Expansion.new.Goals as goal

pub invariant_of-result : goal.invariant_of-result
invariant_of-result c = record {
  automata_are = rw c.in_ok-automata.ensures c.requires.automata;
  same_len = ap length c.in_ok-automata.ensures ∙ c.requires.same_len;
  scratch_is = c.in_ok-scratch.ensures;
  count = omega (arith, c.in_ok-cache.ensures.count, c.len.ensures);
  some = λ d i at. absurd (c.in_ok-cache.ensures.none d i at);
  cache_is = λ s at. cache_empty c.in_ok-automata.automata.graphs s c.in_ok-scratch.scratch.edges.lists.items c.in_ok-cache.cache c.in_ok-sets.sets.kernels.list c.in_ok-cache.ensures.none c.in_ok-cache.ensures.empty;
}
