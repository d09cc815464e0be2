-- What the run of a table reads and finds.
use Rattle.std.specs.Prelude.{◌≡◌, ◌≢◌, ℕ, ◌+◌, ◌<◌, ◌≤◌, ◌++◌, List, [], length, take, drop, slice_index, Option, Some, None}
use Rattle.std.specs.Char.{encode_utf8}
use Rattle.std.specs.Str.{IsCharBoundary, chars}
use Rattle.lalrpop_hir.specs.Prefix.{IsPrefix}
use Rattle.lalrpop_dense.specs.declared.table.Layout.{Layout}

-- the text from the one place to the other is the character
pub record ReadsChar (text : List ℕ) (at at2 c : ℕ) : Type 0 where
  pub split : drop at text ≡ encode_utf8 c ++ drop at2 text
  pub place : at2 ≡ at + length (encode_utf8 c)
  pub scalar : c < 1114112

-- the pattern in the cell after the row, and the text up to the place
abbrev pub found : Layout → List ℕ → List ℕ → ℕ × ℕ → ℕ × List ℕ
found t cells text m = (slice_index cells (m.0 + t.width), take m.1 text)

-- a row with a pattern, and the end of a nonempty prefix of the text
pub record IsPlace (t : Layout) (cells text : List ℕ) (m : ℕ × ℕ) : Type 0 where
  pub cell : m.0 + t.width < length cells
  pub boundary : IsCharBoundary text m.1
  pub prefix : IsPrefix (take m.1 text) text
  pub some : take m.1 text ≢ []

-- the text was read up to `at`: the characters of the match and the bytes after it pay for the steps
abbrev pub PaysPast : List ℕ → ℕ → ℕ → ℕ → Option (ℕ × ℕ) → Type 0
PaysPast text at before after None = after ≤ before + at
PaysPast text at before after (Some m) = (m.1 ≤ at) × (after + m.1 ≤ before + length (chars (take m.1 text)) + at)
