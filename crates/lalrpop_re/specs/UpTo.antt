-- cases: proofs/Cases/UpTo.antt
-- The words from a beginning up to the first end, as a comment from `/*` up to the first `*/`.
use Rattle.std.specs.Prelude.{◌≡◌, ℕ, List, [], ◌++◌}

-- wherever the end occurs in the word, nothing follows
abbrev pub OccursOnlyLast : List ℕ → List ℕ → Type 0
OccursOnlyLast end word = (before after : List ℕ) → word ≡ before ++ end ++ after → after ≡ []

-- the word is the beginning, then some characters, then the end, which occurs behind the beginning only there
abbrev pub IsFromTo : List ℕ → List ℕ → List ℕ → Type 0
IsFromTo start end word = (inner : List ℕ) × ((word ≡ start ++ inner ++ end) × OccursOnlyLast end (inner ++ end))
