-- Cases of specs/Names.antt.
use Rattle.std.proofs.Common.{◌≡◌, [], ◌∷◌, codes, length, refl, ap, arith}
use Rattle.lalrpop_emit.specs.Names.{IsName, IsIdentifier, distinct_names, kinds_of, place_of_name}

letters_and_digits : IsName (codes "IF_2")
letters_and_digits = record { some = λ e. omega (arith, ap length e); bytes = refl }

no_dash : ¬ IsName (codes "A-B")
no_dash h = let bad = h.bytes in cc

not_empty : ¬ IsName []
not_empty h = h.some refl

no_digit_first : ¬ IsIdentifier (codes "2a")
no_digit_first h = let bad = h.first in cc

two_of_three : distinct_names (codes "IF" ∷ codes "ID" ∷ codes "IF" ∷ []) ≡ codes "IF" ∷ codes "ID" ∷ []
two_of_three = refl

third_is_as_the_first : kinds_of (codes "IF" ∷ codes "ID" ∷ codes "IF" ∷ []) ≡ 0 ∷ 1 ∷ 0 ∷ []
third_is_as_the_first = refl

nowhere : place_of_name (codes "IF" ∷ []) (codes "ID") ≡ 1
nowhere = refl
