-- Cases of specs/Agree.antt.
use Rattle.std.proofs.Common.{◌≡◌, ℕ, List, [], ◌∷◌, get_or, Option, Some, None, refl, ap, arith}
use Rattle.lalrpop_build.specs.Agree.{Agree}

-- neither gives a nonempty prefix: the pattern's own run gives none, or the empty one
no_nonempty_prefix : Agree None None × Agree (Some []) None
no_nonempty_prefix = (refl, refl)

-- the same nonempty prefix, with the index 0
same_prefix : Agree (Some (97 ∷ [])) (Some (0, 97 ∷ []))
same_prefix = refl

abbrev index : Option (ℕ × List ℕ) → ℕ
index None = 0
index (Some m) = m.0

abbrev first : Option (ℕ × List ℕ) → ℕ
first None = 0
first (Some m) = get_or m.1 0 0

-- not with another index, not another prefix, and not only one of the two
other_index : ¬ Agree (Some (97 ∷ [])) (Some (1, 97 ∷ []))
other_index h = let n : 1 ≡ 0 = ap index h in omega (arith, n)

other_prefix : ¬ Agree (Some (97 ∷ [])) (Some (0, 98 ∷ []))
other_prefix h = let n : 98 ≡ 97 = ap first h in omega (arith, n)

prefix_of_the_first_alone : ¬ Agree (Some (97 ∷ [])) None
prefix_of_the_first_alone h = let e = h in absurd (cc)

prefix_of_the_second_alone : ¬ Agree (Some []) (Some (0, 97 ∷ []))
prefix_of_the_second_alone h = let e = h in absurd (cc)
