-- cases: proofs/Cases/Position.antt
-- The line and the column of an offset in a text.
use Rattle.std.specs.Prelude.{◌≡◌, ℕ, ◌+◌, ◌-◌, ◌<◌, ◌^◌, ◌⊎◌, Bool, ◌==◌, if◌then◌else◌, List, length, take}
use Rattle.std.specs.List.{count_by, after_last}
use Rattle.std.specs.Str.{chars}
use Rattle.lalrpop_hir.specs.Starts.{is_start}
use Rattle.bajofeki_rules.specs.declared.position.Position.{Position}

abbrev pub is_line_feed : ℕ → Bool
is_line_feed c = c == 10

-- the place after some characters: lines and columns count from 1, a line feed ends its line, and a column counts the characters
-- after the last line feed
abbrev pub place_behind : List ℕ → Position
place_behind cs = record { line = 1 + count_by is_line_feed cs; column = 1 + length (after_last is_line_feed cs) }

-- the place of an offset in bytes: the place after the characters before it
abbrev pub position_of : List ℕ → ℕ → Position
position_of text offset = place_behind (chars (take offset text))

-- the same of bytes, which needn't be UTF-8: a column counts the bytes with which a character begins
abbrev pub byte_place : List ℕ → Position
byte_place bs = record { line = 1 + count_by is_line_feed bs; column = 1 + count_by is_start (after_last is_line_feed bs) }

abbrev pub byte_place_of : List ℕ → ℕ → Position
byte_place_of text offset = byte_place (take offset text)

-- the first place comes before the second
abbrev pub IsBefore : Position → Position → Type 0
IsBefore p q = (p.line < q.line) ⊎ ((p.line ≡ q.line) × (p.column < q.column))

-- the second place, counted from the first one: both are of one line if the second is in the first line of what begins there
abbrev pub moved : Position → Position → Position
moved p q = if q.line == 1 then record { line = p.line; column = p.column + (q.column - 1) } else record { line = p.line + (q.line - 1); column = q.column }

-- both numbers of a place fit in 64 bits
abbrev pub Fits : Position → Type 0
Fits p = (p.line < 2 ^ 64) × (p.column < 2 ^ 64)

-- the place after a text that begins at a place
abbrev pub place_after : Position → List ℕ → Position
place_after p text = moved p (place_behind (chars text))

-- a text whose lines and columns are counted up to an offset
pub record Counted : Type 0 where
  pub text : List ℕ
  pub offset : ℕ
