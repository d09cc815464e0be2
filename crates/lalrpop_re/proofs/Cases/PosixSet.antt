-- Cases of specs/PosixSet.antt.
use Rattle.std.proofs.Common.{◌≡◌, Some, None, codes, refl}
use Rattle.std.specs.Char.{is_ascii_digit}
use Rattle.lalrpop_re.specs.PosixSet.{posix_set}

-- the name of a class
name_of_digits : posix_set (codes "digit") ≡ Some is_ascii_digit
name_of_digits = refl

-- not a name: one letter too many, another case, the empty text
names_of_no_class : (posix_set (codes "digits") ≡ None) × (posix_set (codes "Digit") ≡ None) × (posix_set (codes "") ≡ None)
names_of_no_class = (refl, refl, refl)
