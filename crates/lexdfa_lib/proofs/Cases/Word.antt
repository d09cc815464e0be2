-- Cases of specs/Word.antt.
use Rattle.std.proofs.Common.{◌≡◌, ◌≢◌, ℕ, List, codes, get_or, refl, ap, arith}
use Rattle.std.specs.Fmt.{digits}
use Rattle.lexdfa_lib.specs.Word.{value_text}

-- the value 0 has a digit, others have no leading zeros
values_of_words : (value_text 0 ≡ codes " 0") × (value_text 10 ≡ codes " a") × (value_text 55296 ≡ codes " d800")
unfolding digits
values_of_words = (refl, refl, refl)

-- not in decimal digits
value_is_not_decimal : value_text 97 ≢ codes " 97"
unfolding digits
value_is_not_decimal e = let n : 54 ≡ 57 = ap (λ (l : List ℕ). get_or l 1 0) e in omega (arith, n)
