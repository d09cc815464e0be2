-- cases: proofs/Cases/Review.antt
-- What is to say of rules with modes.
use Rattle.std.specs.Prelude.{◌≡◌, ℕ, ◌<◌, ◌≤◌, ◌↔◌, List, [], length, slice_get, Option, Some, None, Contains}
use Rattle.lalrpop_hir.specs.Tree.{Tree}
use Rattle.lalrpop_hir.specs.Winners.{Matched, TreeMatches, IsOnlyStrongest}
use Rattle.lalrpop_dfa.specs.Dfa.{Row, IsWellFormed, RecognizesAll}
use Rattle.lalrpop_dfa.specs.Lookahead.{IsLookahead, StaysOpenEver}
use Rattle.lalrpop_dfa.specs.Witness.{OpenMatch, IsOpenMatch, IsWitness}
use Rattle.lalrpop_rules.specs.Modes.{ModeRules, trees_in}
use Rattle.bajofeki_rules.specs.EnteredModes.{Belongs}
use Rattle.lalrpop_verdicts.specs.Verdicts.{AreWinners, IsWonBy, words_of}
use Rattle.lalrpop_review.specs.declared.idle.IdleRule.{IdleRule}
use Rattle.lalrpop_review.specs.declared.look.Look.{Look}
use Rattle.lalrpop_review.specs.declared.look.Look.TheVariants.{AtMost, Unbounded}
use Rattle.lalrpop_review.specs.declared.mode.ModeReview.{ModeReview}
use Rattle.lalrpop_review.specs.declared.whole.Review.{Review}

-- the numbers below n with the property, ascending
pub record AreThose (n : ℕ) (P : ℕ → Type 0) (found : List ℕ) : Type 0 where
  pub ascending : (a b i j : ℕ) → a < b → slice_get found a ≡ Some i → slice_get found b ≡ Some j → i < j
  pub all : (i : ℕ) → Contains found i ↔ ((i < n) × P i)

-- ---- rules that never win

-- the rules are of one kind, so that their tokens are the same
abbrev pub AreOneKind : ModeRules → ℕ → ℕ → Type 0
AreOneKind r i j = slice_get r.kinds i ≡ slice_get r.kinds j

-- the rule i belongs to the mode, and no text that it matches is a token of its kind there
abbrev pub NeverWins : ModeRules → ℕ → ℕ → Type 0
NeverWins r m i = Belongs r.members m i × ((j : ℕ) (w : List ℕ) → IsWonBy (words_of r.trees i) (trees_in r m) r.precedences j w → ¬ AreOneKind r i j)

-- it is such a rule, with the rules that win its texts
pub record IsIdle (r : ModeRules) (m : ℕ) (x : IdleRule) : Type 0 where
  pub never : NeverWins r m x.rule
  pub winners : AreWinners (words_of r.trees x.rule) (trees_in r m) r.precedences x.winners.items

-- these are all such rules, ascending
pub record AreIdle (r : ModeRules) (m : ℕ) (xs : List IdleRule) : Type 0 where
  pub ascending : (a b : ℕ) (x y : IdleRule) → a < b → slice_get xs a ≡ Some x → slice_get xs b ≡ Some y → x.rule < y.rule
  pub each : (x : IdleRule) → Contains xs x → IsIdle r m x
  pub all : (i : ℕ) → i < length r.trees → NeverWins r m i → (x : IdleRule) × (Contains xs x × (x.rule ≡ i))

-- ---- states

-- a well-formed automaton that recognizes the trees with these precedences
abbrev pub IsAutomatonOf : List Tree → List ℕ → List Row → Type 0
IsAutomatonOf ts ps d = IsWellFormed d × RecognizesAll d ts ps

-- there is one with n states, and none with fewer
pub record IsLeastStates (ts : List Tree) (ps : List ℕ) (n : ℕ) : Type 0 where
  pub some : (d : List Row) × (IsAutomatonOf ts ps d × (length d ≡ n))
  pub none_fewer : (d : List Row) → IsAutomatonOf ts ps d → n ≤ length d

-- ---- reading past a token

-- the least token that n values after it leave open, with the least such values; none if no token is left open
abbrev pub IsLeastOpen : List Tree → ℕ → Option OpenMatch → Type 0
IsLeastOpen ts n None = (v x : List ℕ) → ¬ IsOpenMatch (Matched ts) n v x
IsLeastOpen ts n (Some found) = IsWitness (Matched ts) n found.word found.after

-- how many values after a token of these trees can leave it open
abbrev pub IsLook : List Tree → List ℕ → Look → Type 0
IsLook ts ps (AtMost count witness) = IsLookahead (Matched ts) (Some count) × IsLeastOpen ts count witness
IsLook ts ps (Unbounded rules) =
    IsLookahead (Matched ts) None × AreThose (length ts) (λ i. StaysOpenEver (Matched ts) (λ w. IsOnlyStrongest ts ps w i)) rules.items

-- ---- the whole

pub record IsModeReview (r : ModeRules) (m : ℕ) (x : ModeReview) : Type 0 where
  pub idle : AreIdle r m x.idle.items
  pub least_states : IsLeastStates (trees_in r m) r.precedences x.least_states
  pub look : IsLook (trees_in r m) r.precedences x.look

pub record IsReview (r : ModeRules) (x : Review) : Type 0 where
  pub empty : AreThose (length r.trees) (TreeMatches r.trees []) x.empty.items
  pub count : length x.modes.items ≡ r.modes
  pub each : (m : ℕ) (y : ModeReview) → slice_get x.modes.items m ≡ Some y → IsModeReview r m y
