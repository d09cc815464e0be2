-- Cases of specs/Answered.antt.
use Rattle.std.proofs.Common.{◌≡◌, ℕ, inl, inr, List, [], ◌∷◌, refl, ap, arith}
use Rattle.reports_lib.specs.Answer.{Answer}
use Rattle.bajofeki_c.specs.Answered.{IsAnswered, IsNotChecked, IsPut}
use Rattle.bajofeki_c.specs.declared.check.Checked.{Checked}

abbrev told : ℕ → ℕ → ℕ → Checked
told code found length = record { code = code; found = found; length = length }

abbrev some : Answer
some = record { status = 1; out = 5 ∷ 6 ∷ []; err = 7 ∷ [] }

-- what is written comes first
put : IsPut some (0 ∷ 0 ∷ 0 ∷ 9 ∷ []) (told 1 2 3) (5 ∷ 6 ∷ 7 ∷ 9 ∷ [])
put = record { code = refl; found = refl; written = record { count = refl; front = refl; behind = refl } }

-- what doesn't fit is counted
one_does_not_fit : IsPut some (0 ∷ 0 ∷ []) (told 1 2 3) (5 ∷ 6 ∷ [])
one_does_not_fit = record { code = refl; found = refl; written = record { count = refl; front = refl; behind = refl } }

no_other_status : ¬ IsPut some (0 ∷ []) (told 0 2 3) (5 ∷ [])
no_other_status is = let code = is.code in omega (arith, code)

what_is_said_is_not_found : ¬ IsPut some (0 ∷ []) (told 1 3 3) (5 ∷ [])
what_is_said_is_not_found is = let found = is.found in omega (arith, found)

-- where memory is refused, nothing is written
refused : IsAnswered (λ answer. ⊥) (9 ∷ []) (told 7 0 0) (9 ∷ [])
refused = inr (refl, refl)

nothing_else_is_answered : (code : ℕ) → ¬ IsAnswered (λ answer. ⊥) [] (told code 1 1) []
nothing_else_is_answered code (inl (answer, (is, put))) = is
nothing_else_is_answered code (inr refused) = let n : 1 ≡ 0 = ap (λ (c : Checked). c.found) refused.0 in omega (arith, n)
