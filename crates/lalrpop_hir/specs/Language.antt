-- cases: proofs/Cases/Language.antt
-- The words that a tree matches: the textbook's language of a regular expression.
use Rattle.std.specs.Prelude.{◌≡◌, ℕ, zero, suc, ◌≤◌, ◌⊎◌, List, [], ◌∷◌, ◌++◌, Option, Some, None}
use Rattle.lalrpop_hir.specs.Range.{Covered}
use Rattle.lalrpop_hir.specs.Tree.{Class, unicode, bytes, Tree, empty, literal, class, look, repetition, capture, concat, alternation, Trees, none, also}

-- a set of words
abbrev pub Words : Type 1
Words = List ℕ → Type 0

-- a word of the first set, followed by a word of the second
abbrev pub Then : Words → Words → Words
Then L M w = (u v : List ℕ) × ((w ≡ u ++ v) × L u × M v)

-- k words of the set, one after another
abbrev pub Power : ℕ → Words → Words
Power zero L w = w ≡ []
Power (suc k) L w = Then L (Power k L) w

-- the class has the value in one of its ranges
abbrev pub Holds : Class → ℕ → Type 0
Holds (unicode rs) c = Covered rs c
Holds (bytes rs) c = Covered rs c

-- k is at least min, and at most max if there is a max
abbrev pub IsCount : ℕ → Option ℕ → ℕ → Type 0
IsCount min None k = min ≤ k
IsCount min (Some max) k = (min ≤ k) × (k ≤ max)

abbrev mutual
  -- the tree matches the word
  pub Matches : Tree → List ℕ → Type 0
  Matches empty w = w ≡ []
  Matches (literal cs) w = w ≡ cs
  Matches (class a) w = (c : ℕ) × ((w ≡ c ∷ []) × Holds a c)
  Matches (look l) w = ⊥
  Matches (repetition min max greedy t) w = (k : ℕ) × (IsCount min max k × Power k (Matches t) w)
  Matches (capture name t) w = Matches t w
  Matches (concat ts) w = MatchInTurn ts w
  Matches (alternation ts) w = SomeMatches ts w

  -- the word splits into one piece for each tree, in order, each matched by its tree
  pub MatchInTurn : Trees → List ℕ → Type 0
  MatchInTurn none w = w ≡ []
  MatchInTurn (also t ts) w = Then (Matches t) (MatchInTurn ts) w

  -- some tree of the list matches the word
  pub SomeMatches : Trees → List ℕ → Type 0
  SomeMatches none w = ⊥
  SomeMatches (also t ts) w = Matches t w ⊎ SomeMatches ts w
