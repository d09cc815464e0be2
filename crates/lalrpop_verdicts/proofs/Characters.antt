-- Which values are characters.
use Rattle.std.proofs.Common.{◌≡◌, ℕ, ◌<◌, ◌≤◌, true, false, arith}
use Rattle.std.specs.Char.{IsScalar}
use Rattle.std.proofs.lemmas.Bool.Decides.{nat_tests}
use Rattle.lalrpop_verdicts.specs.Internal.Pairs.{is_character}

pub character_of_scalar : (c : ℕ) → IsScalar c → is_character c ≡ true
character_of_scalar c h = grind (arith, nat_tests)

pub scalar_of_character : (c : ℕ) → is_character c ≡ true → IsScalar c
scalar_of_character c h = grind (arith, nat_tests)

pub character_low : (c : ℕ) → c < 0xD800 → is_character c ≡ true
character_low c h = grind (arith, nat_tests)

pub character_high : (c : ℕ) → 0xE000 ≤ c → c < 0x110000 → is_character c ≡ true
character_high c h k = grind (arith, nat_tests)

pub surrogate : (c : ℕ) → 0xD800 ≤ c → c < 0xE000 → is_character c ≡ false
surrogate c h k = grind (arith, nat_tests)

pub beyond_all : (c : ℕ) → 0x110000 ≤ c → is_character c ≡ false
beyond_all c h = grind (arith, nat_tests)

pub character_below : (c : ℕ) → is_character c ≡ true → c < 0x110000
character_below c h = grind (arith, nat_tests)
