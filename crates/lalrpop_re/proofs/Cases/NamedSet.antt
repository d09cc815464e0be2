-- Cases of specs/NamedSet.antt.
use Rattle.std.proofs.Common.{◌≡◌, Some, true, false, codes, refl}
use Rattle.std.specs.Char.{is_ascii}
use Rattle.lalrpop_re.specs.CharacterSet.{is_scalar}
use Rattle.lalrpop_re.specs.NamedSet.{looked_up}

-- the two names that are not Unicode's: all scalar values, and those up to U+007F
names_of_two_more_sets : (looked_up (codes "any") ≡ Some is_scalar) × (looked_up (codes "ascii") ≡ Some is_ascii)
names_of_two_more_sets = (refl, refl)

members_of_the_two : (is_scalar 0x80 ≡ true) × (is_ascii 0x7F ≡ true) × (is_ascii 0x80 ≡ false)
members_of_the_two = (refl, refl, refl)
