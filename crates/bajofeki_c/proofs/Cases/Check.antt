-- Cases of specs/Check.antt.
use Rattle.std.proofs.Common.{◌≡◌, ℕ, inl, inr, true, List, [], ◌∷◌, refl, ap, arith}
use Rattle.std.specs.Str.{IsUtf8}
use Rattle.lexdfa_lib.specs.declared.layout.LineForm.TheVariants.{Json}
use Rattle.bajofeki_c.specs.Answered.{IsAnswered}
use Rattle.bajofeki_c.specs.Check.{IsChecked, IsCheckAnswer}
use Rattle.bajofeki_c.specs.declared.check.Checked.{Checked}

abbrev told : ℕ → ℕ → ℕ → Checked
told code found length = record { code = code; found = found; length = length }

module _ (rules : List ℕ) where
  -- memory can be refused for any rules
  memory_refused : IsUtf8 [] → IsChecked [] rules true (7 ∷ []) (told 7 0 0) (7 ∷ [])
  memory_refused utf8 = inl (utf8, inr (refl, refl))

  bad_name : ¬ IsUtf8 (255 ∷ []) → IsChecked (255 ∷ []) rules true (7 ∷ []) (told 10 0 0) (7 ∷ [])
  bad_name bad = inr (bad, (refl, refl))

  -- a good name isn't refused
  no_good_name_is_refused : IsUtf8 [] → ¬ IsAnswered (IsCheckAnswer Json [] rules) [] (told 10 0 0) [] → ¬ IsChecked [] rules true [] (told 10 0 0) []
  no_good_name_is_refused utf8 none (inl (good, answered)) = none answered
  no_good_name_is_refused utf8 none (inr bad) = bad.0 utf8

  -- of a bad name nothing is written
  nothing_of_a_bad_name : ¬ IsUtf8 (255 ∷ []) → ¬ IsChecked (255 ∷ []) rules true [] (told 0 0 0) []
  nothing_of_a_bad_name bad (inl (good, answered)) = bad good
  nothing_of_a_bad_name bad (inr refused) = let n : 0 ≡ 10 = ap (λ (c : Checked). c.code) refused.1.0 in omega (arith, n)
