-- The words that one automaton accepts, by the trees that win them in another one.
use Rattle.std.specs.Prelude.{◌≡◌, ◌≢◌, ℕ, ◌<◌, ◌≤◌, List, [], ◌∷◌, slice_get, Option, Some, None}
use Rattle.std.specs.List.{Contains}
use Rattle.lalrpop_hir.specs.Tree.{Tree}
use Rattle.lalrpop_dfa.specs.Dfa.{Row, step, IsReject, RecognizesAll}
use Rattle.lalrpop_dfa.specs.Lookahead.{Accepted}
use Rattle.lalrpop_dfa.specs.Witness.{IsLeast}
use Rattle.lalrpop_verdicts.specs.Answers.{IsTextWord, accepted_at, answer}
use Rattle.lalrpop_verdicts.specs.WonWord.{WonWord}
use Rattle.lalrpop_verdicts.specs.declared.pairs.Pair.{Pair}

-- no value leads out of a state that rejects
abbrev pub StaysDead : List Row → Type 0
StaysDead d = (p c : ℕ) → c ≤ 4294967295 → IsReject d p → IsReject d (step d p c)

-- a nonempty piece of text that the left automaton accepts, and the right one as a word of tree j
abbrev pub IsBoth : List Row → List Row → ℕ → List ℕ → Type 0
IsBoth l r j w = IsTextWord w × (w ≢ []) × Accepted l w × (answer r w ≡ Some j)

-- the trees with such words, ascending, each with the least one
pub record AreWonWords (l r : List Row) (found : List WonWord) : Type 0 where
  pub ascending : (a b : ℕ) (x y : WonWord) → a < b → slice_get found a ≡ Some x → slice_get found b ≡ Some y → x.by < y.by
  pub each : (x : WonWord) → Contains found x → IsLeast (IsBoth l r x.by) x.word
  pub all : (j : ℕ) (w : List ℕ) → IsBoth l r j w → (x : WonWord) × (Contains found x × (x.by ≡ j))

-- ---- which pair a tree wins first

-- what the second one says, if the first one says anything
abbrev pub second : Option ℕ → Option ℕ → Option ℕ
second None o = None
second (Some i) o = o

-- the tree that the right automaton accepts at the pair, if the left one accepts there too
abbrev pub winner : List Row → List Row → Option Pair → Option ℕ
winner l r None = None
winner l r (Some x) = second (accepted_at (slice_get l x.left)) (accepted_at (slice_get r x.right))

abbrev pub winner_at : List Row → List Row → List Pair → ℕ → Option ℕ
winner_at l r ps k = winner l r (slice_get ps k)

-- the least number below n with the value q is this one, or there is none
abbrev pub IsFirst : (ℕ → Option ℕ) → ℕ → ℕ → Option ℕ → Type 0
IsFirst f n q None = (k : ℕ) → k < n → f k ≢ Some q
IsFirst f n q (Some k) = (k < n) × (f k ≡ Some q) × ((j : ℕ) → j < k → f j ≢ Some q)

-- ---- one tree among others

-- the automaton of the tree i alone
pub record IsOwn (ts : List Tree) (i : ℕ) (d : List Row) : Type 0 where
  pub tree : Tree
  pub at : slice_get ts i ≡ Some tree
  pub recognizes : RecognizesAll d (tree ∷ []) (0 ∷ [])

-- the least word that the tree i wins in the automaton; none if it wins none
abbrev pub IsLeastWon : List Row → ℕ → Option (List ℕ) → Type 0
IsLeastWon d i None = (w : List ℕ) → ¬ IsBoth d d i w
IsLeastWon d i (Some w) = IsLeast (IsBoth d d i) w
