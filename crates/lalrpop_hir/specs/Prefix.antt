-- cases: proofs/Cases/Prefix.antt
-- Prefixes of a text, and the longest one that a language has.
use Rattle.std.specs.Prelude.{◌≡◌, ℕ, ◌≤◌, List, ◌++◌, length, Option, Some, None}
use Rattle.std.specs.Str.{chars, IsUtf8}

-- p is a prefix of the text that ends on a character boundary
abbrev pub IsPrefix : List ℕ → List ℕ → Type 0
IsPrefix p text = (rest : List ℕ) × ((text ≡ p ++ rest) × IsUtf8 p)

-- the longest prefix of the text, the empty one included, whose word is in L
abbrev pub IsLongestOf : (List ℕ → Type 0) → List ℕ → Option (List ℕ) → Type 0
IsLongestOf L text None = (p : List ℕ) → IsPrefix p text → ¬ L (chars p)
IsLongestOf L text (Some p) =
    IsPrefix p text × L (chars p) × ((q : List ℕ) → IsPrefix q text → L (chars q) → length q ≤ length p)
