-- cases: proofs/Cases/Leading.antt
-- Matches that lead from one place of a text to another.
use Rattle.std.specs.Prelude.{◌≡◌, ℕ, ◌-◌, ◌<◌, List, [], ◌∷◌, ◌++◌, take, drop, Some}
use Rattle.std.specs.Char.{encode_utf8}
use Rattle.std.specs.Str.{IsCharBoundary, chars}
use Rattle.lalrpop_hir.specs.Tree.{Tree}
use Rattle.lalrpop_hir.specs.Longest.{IsLongest}
use Rattle.lalrpop_hir.specs.Winners.{Matched}
use Rattle.lalrpop_hir.specs.Word.{IsWord}
use Rattle.lalrpop_dfa.specs.Dfa.{Row, Recognizes}

-- no tree matches a word that begins with this one
abbrev pub IsDeadEnd : List Row → List ℕ → Type 0
IsDeadEnd d word = (ts : List Tree) (ps v : List ℕ) → Recognizes d ts ps → IsWord v → ¬ Matched ts (word ++ v)

-- the characters in the first n bytes of the text are such a word
pub record IsDeadAt (d : List Row) (text : List ℕ) (n : ℕ) : Type 0 where
  pub boundary : IsCharBoundary text n
  pub dead : IsDeadEnd d (chars (take n text))

-- a character follows the word, and with it the word is a dead end
pub record IsStopped (d : List Row) (word left : List ℕ) : Type 0 where
  pub next : ℕ
  pub rest : List ℕ
  pub scalar : next < 1114112
  pub split : left ≡ encode_utf8 next ++ rest
  pub dead : IsDeadEnd d (word ++ next ∷ [])

-- the longest match of the text from the place on is by this pattern, and ends there; the character after it settles that
pub record IsEnd (d : List Row) (text : List ℕ) (at index end : ℕ) : Type 0 where
  pub some : at < end
  pub boundary : IsCharBoundary text end
  pub longest : (ts : List Tree) (ps : List ℕ) → Recognizes d ts ps → IsLongest ts ps (drop at text) (Some (index, take (end - at) (drop at text)))
  pub stopped : IsStopped d (chars (take (end - at) (drop at text))) (drop end text)

-- one match after another from the place on: of each the pattern, and where it ends
abbrev pub AreAhead : List Row → List ℕ → ℕ → List (ℕ × ℕ) → Type 0
AreAhead d text at [] = Unit {0}
AreAhead d text at (e ∷ es) = IsEnd d text at e.0 e.1 × AreAhead d text e.1 es

-- where the last of them ends
abbrev pub last_end : ℕ → List (ℕ × ℕ) → ℕ
last_end at [] = at
last_end at (e ∷ es) = last_end e.1 es
