-- Cases of specs/Draw.antt.
use Rattle.std.proofs.Common.{◌≡◌, ℕ, inl, inr, List, [], ◌∷◌, codes, refl, ap, arith}
use Rattle.std.specs.Prelude.{Some, None}
use Rattle.std.specs.Str.{IsUtf8}
use Rattle.lexdfa_lib.specs.declared.command.Verbosity.TheVariants.{Warnings}
use Rattle.reviews_lib.specs.Pictured.{BytesPictured}
use Rattle.bajofeki_c.specs.Answered.{IsAnswered}
use Rattle.bajofeki_c.specs.Draw.{IsDrawing, given}
use Rattle.bajofeki_c.specs.declared.check.Checked.{Checked}

abbrev told : ℕ → ℕ → ℕ → Checked
told code found length = record { code = code; found = found; length = length }

-- an empty name is that of no rule, so each mode is drawn
each_mode : given [] ≡ None
each_mode = refl

one_name : given (codes "A") ≡ Some (codes "A")
one_name = refl

module _ (rules : List ℕ) where
  memory_refused : IsUtf8 [] → IsDrawing [] rules [] (7 ∷ []) (told 7 0 0) (7 ∷ [])
  memory_refused utf8 = inl ((utf8, utf8), inr (refl, refl))

  bad_rule : ¬ IsUtf8 (255 ∷ []) → IsDrawing [] rules (255 ∷ []) (7 ∷ []) (told 10 0 0) (7 ∷ [])
  bad_rule bad = inr ((λ both. bad both.1), (refl, refl))

  -- good names aren't refused
  no_good_names_are_refused : IsUtf8 [] → ¬ IsAnswered (BytesPictured Warnings None [] rules) [] (told 10 0 0) [] → ¬ IsDrawing [] rules [] [] (told 10 0 0) []
  no_good_names_are_refused utf8 none (inl (good, answered)) = none answered
  no_good_names_are_refused utf8 none (inr bad) = bad.0 (utf8, utf8)

  -- of bad names nothing is written
  nothing_of_bad_names : ¬ IsUtf8 (255 ∷ []) → ¬ IsDrawing (255 ∷ []) rules [] [] (told 0 0 0) []
  nothing_of_bad_names bad (inl (good, answered)) = bad good.0
  nothing_of_bad_names bad (inr refused) = let n : 0 ≡ 10 = ap (λ (c : Checked). c.code) refused.1.0 in omega (arith, n)
