-- Bytes with marks that show a text, whatever follows.
use Rattle.std.specs.Prelude.{◌≡◌, ℕ, Bool, not, ◌==◌, List, ◌++◌}
use Rattle.guide.specs.Marks.{without_marks}

abbrev pub Shows : List ℕ → List ℕ → Type 0
Shows bytes text = (rest : List ℕ) → without_marks (bytes ++ rest) ≡ text ++ without_marks rest

-- the byte begins no mark
abbrev pub is_plain_byte : ℕ → Bool
is_plain_byte b = not (b == 27)
