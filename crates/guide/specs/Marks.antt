-- cases: proofs/Cases/Marks.antt
-- A text with marks of a terminal.
use Rattle.std.specs.Prelude.{ℕ, Bool, true, false, not, ◌==◌, List, [], ◌∷◌, if◌then◌else◌}

-- what is left of the bytes without their marks, from outside a mark (false) or from inside one (true): a mark begins with the
-- byte 27 and ends with the next `m`, 109
abbrev pub left_from : Bool → List ℕ → List ℕ
left_from inside [] = []
left_from true (b ∷ bytes) = left_from (not (b == 109)) bytes
left_from false (b ∷ bytes) = if b == 27 then left_from true bytes else b ∷ left_from false bytes

abbrev pub without_marks : List ℕ → List ℕ
without_marks bytes = left_from false bytes
