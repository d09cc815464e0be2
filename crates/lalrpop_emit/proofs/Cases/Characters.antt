-- Cases of specs/Internal/Characters.antt.
use Rattle.std.proofs.Common.{◌≡◌, [], ◌∷◌, length, get_or, refl, ap, arith}
use Rattle.lalrpop_emit.specs.Internal.Characters.{IsCharacterAt, IsFollowing}

-- `é` after an `a`
two_bytes : IsCharacterAt (0x61 ∷ 0xC3 ∷ 0xA9 ∷ []) 1 0xE9
unfolding lib.Utf8.encode
two_bytes = record { scalar = refl; rest = []; split = refl }

-- `/` in two bytes
no_overlong_form : ¬ IsCharacterAt (0xC0 ∷ 0xAF ∷ []) 0 0x2F
unfolding lib.Utf8.encode
no_overlong_form h = let same : 0xC0 ≡ 0x2F = ap (λ bs. get_or bs 0 0) h.split in omega (arith, same)

no_surrogate : ¬ IsCharacterAt (0xED ∷ 0xA0 ∷ 0x80 ∷ []) 0 0xD800
no_surrogate h = let scalar = h.scalar in cc

no_cut_character : ¬ IsCharacterAt (0xC3 ∷ []) 0 0xE9
unfolding lib.Utf8.encode
no_cut_character h = omega (arith, ap length h.split)

second_of_two : IsFollowing (0xC3 ∷ 0xA9 ∷ []) 1
second_of_two = record { within = omega arith; least = omega arith; most = omega arith }

not_the_first : ¬ IsFollowing (0xC3 ∷ 0xA9 ∷ []) 0
not_the_first h = omega (arith, h.most)

not_past_the_end : ¬ IsFollowing (0xC3 ∷ []) 1
not_past_the_end h = omega (arith, h.within)
