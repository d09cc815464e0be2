use Rattle.std.proofs.Common.{◌≡◌, List, length}
use Rattle.std.specs.Vec.Iter.{into_iter_items, into_iter_len}
use Rattle.lalrpop_verdicts.specs.WonWord.{WonWord}
use Rattle.lalrpop_verdicts.specs.Internal.WonWords.{AreWonWords, StaysDead}
use Rattle.lalrpop_verdicts.proofs.LeastWordLaws.{AreTold}
use Rattle.lalrpop_verdicts.proofs.verdict.least_words.Given as goal

-- what is left of the list is still to be told
abbrev pub invariant-loop-by : goal.invariant-loop-by
invariant-loop-by l = (length l.words.items ≡ l.count) × (into_iter_len l.by-iterator ≡ length (into_iter_items l.by-iterator))
    × ((all : List WonWord) × ((StaysDead l.dfa → AreWonWords l.dfa l.dfa all) × AreTold all (into_iter_items l.by-iterator) l.words.items))
