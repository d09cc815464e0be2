-- cases: proofs/Cases/Answers.antt
-- What an automaton answers after a word, and the words of texts.
use Rattle.std.specs.Prelude.{ℕ, List, slice_get, Option, Some, None}
use Rattle.std.specs.List.{All}
use Rattle.std.specs.Char.{IsScalar}
use Rattle.lalrpop_dfa.specs.Dfa.{Row, run}
use Rattle.lalrpop_dfa.specs.declared.Kind.{Kind}
use Rattle.lalrpop_dfa.specs.declared.Kind.TheVariants.{Accepts, Reject, Neither}

-- a word of a text: each value is a character
abbrev pub IsTextWord : List ℕ → Type 0
IsTextWord w = All IsScalar w

-- the tree that a state of this kind accepts
abbrev pub accepted_by : Kind → Option ℕ
accepted_by (Accepts i) = Some i
accepted_by Reject = None
accepted_by Neither = None

abbrev pub accepted_at : Option Row → Option ℕ
accepted_at None = None
accepted_at (Some r) = accepted_by r.kind

-- the tree that is accepted after the word, from the state p on
abbrev pub answer_from : List Row → ℕ → List ℕ → Option ℕ
answer_from d p w = accepted_at (slice_get d (run d p w))

-- the tree that the automaton accepts after the word
abbrev pub answer : List Row → List ℕ → Option ℕ
answer d w = answer_from d 0 w
