use Rattle.lalrpop_verdicts.proofs.PairWords.{AreValues, IsWithin, rank}
use Rattle.lalrpop_verdicts.proofs.pairs.word_to.Given as goal

abbrev pub invariant-loop-place : goal.invariant-loop-place
invariant-loop-place l = record {
  within : IsWithin l.pairs l.place;
  values : AreValues l.pairs l.fn.number l.place l.values.items;
}

abbrev pub decreases-loop-place : goal.decreases-loop-place
decreases-loop-place l = rank l.place
