-- Cases of specs/Place.antt.
use Rattle.std.proofs.Common.{◌≡◌, ◌≢◌, codes, refl, ap, arith}
use Rattle.bajofeki_c.specs.Place.{place_in}
use Rattle.bajofeki_c.specs.declared.position.Place.{Place}

on_the_second_line : place_in (codes "a\nbc") 3 ≡ record { at = 3; line = 2; column = 2 }
on_the_second_line = refl

past_the_end : place_in (codes "a\nbc") 9 ≡ record { at = 4; line = 2; column = 3 }
past_the_end = refl

no_place_is_past_the_end : place_in (codes "a") 2 ≢ record { at = 2; line = 1; column = 2 }
no_place_is_past_the_end e = let n : 1 ≡ 2 = ap (λ (p : Place). p.at) e in omega (arith, n)
