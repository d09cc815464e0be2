-- Rules that never win, one after another.
use Rattle.std.specs.Prelude.{◌≡◌, ℕ, ◌+◌, ◌<◌, List, slice_get, Option, Some, None, Vec, Contains}
use Rattle.std.specs.Global.{Global}
use Rattle.lalrpop_hir.specs.Language.{Words}
use Rattle.lalrpop_hir.specs.Tree.{Tree}
use Rattle.lalrpop_rules.specs.Modes.{ModeRules, trees_in}
use Rattle.lalrpop_verdicts.specs.WonWord.{WonWord}
use Rattle.lalrpop_verdicts.specs.Verdicts.{AreWinners, IsVerdict, IsWonBy, words_of}
use Rattle.lalrpop_verdicts.specs.declared.verdict.Verdict.{Verdict}
use Rattle.lalrpop_review.specs.Review.{IsIdle, NeverWins}
use Rattle.lalrpop_review.specs.declared.idle.IdleRule.{IdleRule}

-- the rules that win words of rule i in the mode
abbrev pub AreWinnersIn : ModeRules → ℕ → ℕ → List WonWord → Type 0
AreWinnersIn r m i found = AreWinners (words_of r.trees i) (trees_in r m) r.precedences found

-- the trees that win words of L; or none are told, and tree i wins one of them
abbrev pub AreTold : Words → List Tree → List ℕ → ℕ → Option (Vec WonWord Global) → Type 0
AreTold L ts ps i None = (w : List ℕ) × IsWonBy L ts ps i w
AreTold L ts ps i (Some found) = AreWinners L ts ps found.items

-- rule i has its own tree in the mode, and this is the verdict on it
pub record IsOwnVerdict (r : ModeRules) (m i : ℕ) (v : Verdict) : Type 0 where
  pub own : slice_get (trees_in r m) i ≡ slice_get r.trees i
  pub verdict : IsVerdict (trees_in r m) r.precedences i v

-- these are the verdicts on the trees of the mode from the place n on
abbrev pub AreVerdictsFrom : ModeRules → ℕ → ℕ → List Verdict → Type 0
AreVerdictsFrom r m n vs = (k : ℕ) (v : Verdict) → slice_get vs k ≡ Some v → IsVerdict (trees_in r m) r.precedences (n + k) v

-- none of them is of the kind of rule i. The first list is the kinds of the rules
abbrev pub AreOfOtherKinds : List ℕ → ℕ → List WonWord → Type 0
AreOfOtherKinds ks i found = (x : WonWord) → Contains found x → ¬ (slice_get ks i ≡ slice_get ks x.by)

-- rule i never wins in the mode, and this is the entry; or there is none, and it isn't such a rule
abbrev pub IsIdleAt : ModeRules → ℕ → ℕ → Option IdleRule → Type 0
IsIdleAt r m i None = ¬ NeverWins r m i
IsIdleAt r m i (Some x) = (x.rule ≡ i) × IsIdle r m x

-- these are all such rules below n, ascending
pub record AreIdleBelow (r : ModeRules) (m n : ℕ) (xs : List IdleRule) : Type 0 where
  pub ascending : (a b : ℕ) (x y : IdleRule) → a < b → slice_get xs a ≡ Some x → slice_get xs b ≡ Some y → x.rule < y.rule
  pub each : (x : IdleRule) → Contains xs x → (x.rule < n) × IsIdle r m x
  pub all : (i : ℕ) → i < n → NeverWins r m i → (x : IdleRule) × (Contains xs x × (x.rule ≡ i))
