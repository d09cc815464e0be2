use Rattle.lalrpop_verdicts.proofs.WonWordLaws.{IsWalk}
use Rattle.lalrpop_verdicts.proofs.won_words.won_words.Given as goal

-- the entries so far have their words
abbrev pub invariant-loop-tree : goal.invariant-loop-tree
invariant-loop-tree l = IsWalk l.left l.right l.pairs.items l.tree-iterator l.found.items
