-- Cases of specs/Follow.antt: the numbers `1`, `2` and `12`, of which two make a third where they stand side by side.
use Rattle.std.proofs.Common.{◌≡◌, ℕ, ◌⊎◌, inl, inr, List, [], ◌∷◌, ◌++◌, length, refl, ap, subst, arith}
use Rattle.lalrpop_dfa.specs.Follow.{RunsOn}

abbrev Numbers : List ℕ → Type 0
Numbers w = (w ≡ 49 ∷ []) ⊎ ((w ≡ 50 ∷ []) ⊎ (w ≡ 49 ∷ 50 ∷ []))

abbrev One : List ℕ → Type 0
One w = w ≡ 49 ∷ []

abbrev Two : List ℕ → Type 0
Two w = w ≡ 50 ∷ []

-- `12` is the only number of two digits or more
of_two_digits : (b c : ℕ) (w : List ℕ) → Numbers (b ∷ c ∷ w) → (b ≡ 49) × (c ≡ 50)
of_two_digits b c w (inl e) = absurd (omega (arith, ap length e))
of_two_digits b c w (inr (inl e)) = absurd (omega (arith, ap length e))
of_two_digits b c w (inr (inr e)) = (cc, cc)

-- `12` begins with `1` and then `2`
one_runs_on_into_two : RunsOn Numbers One Two
one_runs_on_into_two = record {
  first = 49 ∷ [];
  value = 50;
  rest = [];
  later = [];
  some = λ e. cc;
  is_first = refl;
  begins_second = refl;
  goes_on = inr (inr refl);
}

-- the first digit of the second is enough: `1` runs on into `23`
one_runs_on_into_the_first_digit : RunsOn Numbers One (λ w. w ≡ 50 ∷ 51 ∷ [])
one_runs_on_into_the_first_digit = record {
  first = 49 ∷ [];
  value = 50;
  rest = 51 ∷ [];
  later = [];
  some = λ e. cc;
  is_first = refl;
  begins_second = refl;
  goes_on = inr (inr refl);
}

-- no number begins with `2` and then `1`
two_does_not_run_on : ¬ RunsOn Numbers Two One
two_does_not_run_on h = go h.first h.is_first h.goes_on
  where
    go : (first : List ℕ) → first ≡ 50 ∷ [] → Numbers (first ++ h.value ∷ h.later) → ⊥
    go first e m =
        let digits = of_two_digits 50 h.value h.later (subst (λ (v : List ℕ). Numbers (v ++ h.value ∷ h.later)) e m) in
        omega (arith, digits.0)

-- nor with `1` and then `3`
one_does_not_run_on_into_three : ¬ RunsOn Numbers One (λ w. w ≡ 51 ∷ [])
one_does_not_run_on_into_three h = go h.first h.is_first h.value h.rest h.begins_second h.goes_on
  where
    go : (first : List ℕ) → One first → (c : ℕ) (rest : List ℕ) → c ∷ rest ≡ 51 ∷ [] → Numbers (first ++ c ∷ h.later) → ⊥
    go first e c rest begins m =
        let digits = of_two_digits 49 c h.later (subst (λ (v : List ℕ). Numbers (v ++ c ∷ h.later)) e m) in
        let three : c ≡ 51 = cc in
        omega (arith, digits.1)

-- without `12` none runs on
one_does_not_run_on_without_the_third : ¬ RunsOn (λ w. One w ⊎ Two w) One Two
one_does_not_run_on_without_the_third h = go h.first h.is_first h.goes_on
  where
    go : (first : List ℕ) → One first → One (first ++ h.value ∷ h.later) ⊎ Two (first ++ h.value ∷ h.later) → ⊥
    go first e m = by_length (subst (λ (v : List ℕ). One (v ++ h.value ∷ h.later) ⊎ Two (v ++ h.value ∷ h.later)) e m)
      where
        by_length : One (49 ∷ h.value ∷ h.later) ⊎ Two (49 ∷ h.value ∷ h.later) → ⊥
        by_length (inl f) = omega (arith, ap length f)
        by_length (inr f) = omega (arith, ap length f)

-- the empty word doesn't run on, and nothing runs on into it
nothing_does_not_run_on : ¬ RunsOn Numbers (λ w. w ≡ []) Two
nothing_does_not_run_on h = h.some h.is_first

none_runs_on_into_nothing : ¬ RunsOn Numbers One (λ w. w ≡ [])
none_runs_on_into_nothing h = let e : h.value ∷ h.rest ≡ [] = h.begins_second in cc
