use Rattle.std.proofs.Common.{◌≡◌, ◌<◌, ◌++◌, length, reverse}
use Rattle.lalrpop_build.specs.Internal.BreadthFirst.{word}
use Rattle.lalrpop_build.proofs.build.origin.word_to.Given as goal

abbrev pub invariant-loop-place : goal.invariant-loop-place
invariant-loop-place l = record {
  within : l.place < length l.origins;
  word : word l.origins l.fn.number ≡ word l.origins l.place ++ reverse l.values.items;
}

abbrev pub decreases-loop-place : goal.decreases-loop-place
decreases-loop-place l = l.place
