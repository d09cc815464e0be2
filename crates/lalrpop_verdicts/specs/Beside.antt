-- cases: proofs/Cases/Beside.antt
-- Tokens of two patterns side by side: whether their join is cut as the two.
use Rattle.std.specs.Prelude.{◌≡◌, ◌≢◌, ℕ, ◌++◌, List, [], Some}
use Rattle.lalrpop_dfa.specs.Dfa.{Row}
use Rattle.lalrpop_dfa.specs.Lookahead.{Accepted}
use Rattle.lalrpop_dfa.specs.Witness.{IsLeast}
use Rattle.lalrpop_verdicts.specs.Answers.{IsTextWord, answer}

-- a nonempty piece of text that is answered by the tree i
abbrev pub IsToken : List Row → ℕ → List ℕ → Type 0
IsToken d i w = IsTextWord w × (w ≢ []) × (answer d w ≡ Some i)

-- a and a nonempty prefix of b are accepted together: the first token of the join is longer than a
abbrev pub RunsOn : List Row → List ℕ → List ℕ → Type 0
RunsOn d a b = (u v : List ℕ) × (b ≡ u ++ v) × (u ≢ []) × Accepted d (a ++ u)

-- a token of i and one of j, and their join is cut as the two
abbrev pub IsKept : List Row → ℕ → ℕ → List ℕ → List ℕ → Type 0
IsKept d i j a b = IsToken d i a × IsToken d j b × ¬ RunsOn d a b

-- a token of i and one of j, and their join isn't cut as the two
abbrev pub IsLost : List Row → ℕ → ℕ → List ℕ → List ℕ → Type 0
IsLost d i j a b = IsToken d i a × IsToken d j b × RunsOn d a b

-- two words
pub record TwoWords : Type 0 where
  pub first : List ℕ
  pub second : List ℕ

-- of the words that are first in such a pair, the least one, and of those that are second with it, the least one
pub record IsLeastPair (P : List ℕ → List ℕ → Type 0) (x : TwoWords) : Type 0 where
  pub first : IsLeast (λ a. (b : List ℕ) × P a b) x.first
  pub second : IsLeast (P x.first) x.second
