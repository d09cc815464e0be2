-- cases: proofs/Cases/Verdicts.antt
-- Which trees of a list can win, and which hide a tree that can't.
use Rattle.std.specs.Prelude.{◌≡◌, ◌≢◌, ℕ, ◌<◌, List, [], slice_get, Some}
use Rattle.std.specs.List.{Contains}
use Rattle.lalrpop_hir.specs.Language.{Words}
use Rattle.lalrpop_hir.specs.Tree.{Tree}
use Rattle.lalrpop_hir.specs.Winners.{TreeMatches, IsOnlyStrongest}
use Rattle.lalrpop_dfa.specs.Witness.{IsLeast}
use Rattle.lalrpop_verdicts.specs.Answers.{IsTextWord}
use Rattle.lalrpop_verdicts.specs.WonWord.{WonWord}
use Rattle.lalrpop_verdicts.specs.declared.verdict.Verdict.{Verdict}
use Rattle.lalrpop_verdicts.specs.declared.verdict.Verdict.TheVariants.{Wins, Shadowed, Unmatched}

-- the word is a nonempty piece of text and one of L, and tree j wins it: it alone is the strongest there
abbrev pub IsWonBy : Words → List Tree → List ℕ → ℕ → List ℕ → Type 0
IsWonBy L ts ps j w = IsTextWord w × (w ≢ []) × L w × IsOnlyStrongest ts ps w j

-- the trees that win words of L, ascending, each with the least such word
pub record AreWinners (L : Words) (ts : List Tree) (ps : List ℕ) (found : List WonWord) : Type 0 where
  pub ascending : (a b : ℕ) (x y : WonWord) → a < b → slice_get found a ≡ Some x → slice_get found b ≡ Some y → x.by < y.by
  pub each : (x : WonWord) → Contains found x → IsLeast (IsWonBy L ts ps x.by) x.word
  pub all : (j : ℕ) (w : List ℕ) → IsWonBy L ts ps j w → (x : WonWord) × (Contains found x × (x.by ≡ j))

-- the words of tree i
abbrev pub words_of : List Tree → ℕ → Words
words_of ts i w = TreeMatches ts w i

-- tree i wins some of its words, of which this is the least; or it wins none, but others do; or it has none
abbrev pub IsVerdict : List Tree → List ℕ → ℕ → Verdict → Type 0
IsVerdict ts ps i (Wins w) = IsLeast (IsWonBy (words_of ts i) ts ps i) w.items
IsVerdict ts ps i (Shadowed by) = ((w : List ℕ) → ¬ IsWonBy (words_of ts i) ts ps i w) × (by.items ≢ []) × AreWinners (words_of ts i) ts ps by.items
IsVerdict ts ps i Unmatched = (w : List ℕ) → IsTextWord w → w ≢ [] → ¬ TreeMatches ts w i
