-- Cases of specs/Compare.antt.
use Rattle.std.proofs.Common.{◌≡◌, ℕ, inl, inr, List, [], ◌∷◌, refl, ap, arith}
use Rattle.std.specs.Str.{IsUtf8}
use Rattle.lexdfa_lib.specs.declared.command.Verbosity.TheVariants.{Warnings}
use Rattle.reviews_lib.specs.Compared.{BytesCompared}
use Rattle.bajofeki_c.specs.Answered.{IsAnswered}
use Rattle.bajofeki_c.specs.Compare.{IsCompared}
use Rattle.bajofeki_c.specs.declared.check.Checked.{Checked}

abbrev told : ℕ → ℕ → ℕ → Checked
told code found length = record { code = code; found = found; length = length }

module _ (rules other : List ℕ) where
  -- memory can be refused for any rules
  memory_refused : IsUtf8 [] → IsCompared [] rules [] other (7 ∷ []) (told 7 0 0) (7 ∷ [])
  memory_refused utf8 = inl ((utf8, utf8), inr (refl, refl))

  bad_first_name : ¬ IsUtf8 (255 ∷ []) → IsCompared (255 ∷ []) rules [] other (7 ∷ []) (told 10 0 0) (7 ∷ [])
  bad_first_name bad = inr ((λ both. bad both.0), (refl, refl))

  bad_other_name : ¬ IsUtf8 (255 ∷ []) → IsCompared [] rules (255 ∷ []) other (7 ∷ []) (told 10 0 0) (7 ∷ [])
  bad_other_name bad = inr ((λ both. bad both.1), (refl, refl))

  -- good names aren't refused
  no_good_names_are_refused : IsUtf8 [] → ¬ IsAnswered (BytesCompared Warnings [] rules [] other) [] (told 10 0 0) []
      → ¬ IsCompared [] rules [] other [] (told 10 0 0) []
  no_good_names_are_refused utf8 none (inl (good, answered)) = none answered
  no_good_names_are_refused utf8 none (inr bad) = bad.0 (utf8, utf8)

  -- of bad names nothing is written
  nothing_of_bad_names : ¬ IsUtf8 (255 ∷ []) → ¬ IsCompared (255 ∷ []) rules [] other [] (told 0 0 0) []
  nothing_of_bad_names bad (inl (good, answered)) = bad good.0
  nothing_of_bad_names bad (inr refused) = let n : 0 ≡ 10 = ap (λ (c : Checked). c.code) refused.1.0 in omega (arith, n)
