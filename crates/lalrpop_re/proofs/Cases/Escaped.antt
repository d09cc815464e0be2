-- Cases of specs/Escaped.antt.
use Rattle.std.proofs.Common.{◌≡◌, [], true, false, codes, refl}
use Rattle.lalrpop_re.specs.Escaped.{is_escaped, escaped}

-- `.`, `#` and `~` are escaped, letters, `<` and spaces aren't
characters_that_are_escaped : (is_escaped 46 ≡ true) × (is_escaped 35 ≡ true) × (is_escaped 126 ≡ true)
characters_that_are_escaped = (refl, refl, refl)

characters_that_are_not_escaped : (is_escaped 97 ≡ false) × (is_escaped 60 ≡ false) × (is_escaped 32 ≡ false)
characters_that_are_not_escaped = (refl, refl, refl)

-- a backslash before each, and before no other
texts_that_are_escaped : (escaped (codes "a.b") ≡ codes "a\\.b") × (escaped (codes "\\") ≡ codes "\\\\") × (escaped [] ≡ [])
unfolding escaped
texts_that_are_escaped = (refl, refl, refl)
