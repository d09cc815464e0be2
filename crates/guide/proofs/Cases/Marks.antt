-- Cases of specs/Marks.antt.
use Rattle.std.proofs.Common.{◌≡◌, true, refl, codes, ◌∷◌, ◌++◌}
use Rattle.guide.specs.Marks.{left_from, without_marks}

-- a mark in the middle is taken out, and one at the end that doesn't end
mark_is_taken_out : without_marks (codes "a" ++ (27 ∷ codes "[1mb")) ≡ codes "ab"
mark_is_taken_out = refl

open_mark_is_taken_out : without_marks (codes "a" ++ (27 ∷ codes "[1")) ≡ codes "a"
open_mark_is_taken_out = refl

-- an `m` outside a mark stays
m_stays : without_marks (codes "m") ≡ codes "m"
m_stays = refl

inside_a_mark : left_from true (codes "32mx") ≡ codes "x"
inside_a_mark = refl
