-- cases: proofs/Cases/Differences.antt
-- Where two automata answer differently.
use Rattle.std.specs.Prelude.{◌≢◌, ℕ, List, [], slice_get, Option, Some, None}
use Rattle.lalrpop_dfa.specs.Dfa.{Row}
use Rattle.lalrpop_verdicts.specs.Answers.{IsTextWord, answer}

-- the label of the tree; a tree without a label counts as none
abbrev pub label_of : List ℕ → Option ℕ → Option ℕ
label_of labels None = None
label_of labels (Some i) = slice_get labels i

-- the word is a nonempty piece of text, and the automata answer it by trees with different labels
abbrev pub TellsApart : List Row → List ℕ → List Row → List ℕ → List ℕ → Type 0
TellsApart d ls e ms w = IsTextWord w × (w ≢ []) × (label_of ls (answer d w) ≢ label_of ms (answer e w))

-- the word, and what the automata answer
pub record Answers : Type 0 where
  pub word : List ℕ
  pub left : Option ℕ
  pub right : Option ℕ
