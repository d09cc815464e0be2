-- cases: proofs/Cases/Lines.antt
-- The lines of some bytes.
use Rattle.std.specs.Prelude.{ℕ, List, [], ◌∷◌, ◌==◌, if◌then◌else◌}

-- the lines, with this byte put before the first one
abbrev pub begin_with : ℕ → List (List ℕ) → List (List ℕ)
begin_with b [] = (b ∷ []) ∷ []
begin_with b (line ∷ rest) = (b ∷ line) ∷ rest

-- each line feed, 10, ends a line; the bytes after the last one, if there are any, are one more line
abbrev pub lines : List ℕ → List (List ℕ)
lines [] = []
lines (b ∷ bytes) = if b == 10 then [] ∷ lines bytes else begin_with b (lines bytes)
