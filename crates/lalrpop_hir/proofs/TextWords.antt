-- The words of texts.
use Rattle.std.proofs.Common.{◌≡◌, ℕ, ◌<◌, ◌≤◌, true, List, [], ◌∷◌, ◌++◌, length, arith}
use Rattle.std.specs.Char.{IsScalar}
use Rattle.std.specs.Str.{chars, IsUtf8, all_scalars}
use Rattle.std.proofs.lemmas.Bool.{and_parts}
use Rattle.std.proofs.lemmas.Bool.Decides.{nat_tests}
use Rattle.std.proofs.lemmas.Str.{chars-nil, scalars-chars}
use Rattle.lalrpop_hir.specs.Word.{IsWord}

pub IsWord-append : (v w : List ℕ) → IsWord v → IsWord w → IsWord (v ++ w)
IsWord-append [] w before behind = behind
IsWord-append (c ∷ v) w before behind = (before.0, IsWord-append v w before.1 behind)

scalar_fits : (c : ℕ) → IsScalar c → c ≤ 4294967295
scalar_fits c is = let below : c < 0x110000 = grind (arith, nat_tests) in omega arith

characters_are_word : (cs : List ℕ) → all_scalars cs ≡ true → IsWord cs
characters_are_word [] scalars = tt
characters_are_word (c ∷ cs) scalars = let parts = and_parts _ (all_scalars cs) scalars in (scalar_fits c parts.0, characters_are_word cs parts.1)

-- the characters of a text are a word
pub text_word : (text : List ℕ) → IsUtf8 text → IsWord (chars text)
text_word text utf8 = characters_are_word (chars text) (scalars-chars text utf8)

-- a text without bytes has no characters
pub chars-none : (bs : List ℕ) → length bs ≡ 0 → chars bs ≡ []
chars-none [] h = chars-nil
chars-none (b ∷ bs) h = cc
