-- Cases of specs/Look.antt.
use Rattle.std.proofs.Common.{◌≡◌, ◌≢◌, ℕ, inl, inr, refl, ap, arith}
use Rattle.std.specs.Prelude.{Option, Some, None, Ok, Err}
use Rattle.bajofeki_c.specs.Look.{IsLookOf, look_told, mode_count, no_look}
use Rattle.bajofeki_c.specs.declared.held.BuildError.TheVariants.{Freed}
use Rattle.bajofeki_c.specs.declared.held.BuiltLexer.{BuiltLexer}
use Rattle.bajofeki_c.specs.declared.look.Look.{Look}

two_characters : look_told (Some 2) ≡ record { code = 0; count = 2 }
two_characters = refl

any_number : look_told None ≡ record { code = 1; count = 0 }
any_number = refl

any_number_is_not_none : look_told None ≢ look_told (Some 0)
any_number_is_not_none e = let n : 1 ≡ 0 = ap (λ (k : Look). k.code) e in omega (arith, n)

no_lexer_has_no_modes : mode_count (record { made = Err Freed }) ≡ 0
no_lexer_has_no_modes = refl

no_lexer_has_no_look : IsLookOf (record { made = Err Freed }) 0 no_look
no_lexer_has_no_look = refl

no_count_without_a_lexer : ¬ IsLookOf (record { made = Err Freed }) 0 (look_told (Some 0))
no_count_without_a_lexer e = let n : 0 ≡ 9 = ap (λ (k : Look). k.code) e in omega (arith, n)

other_code : (o : Option ℕ) → no_look ≢ look_told o
other_code (Some n) e = let k : 9 ≡ 0 = ap (λ (l : Look). l.code) e in omega (arith, k)
other_code None e = let k : 9 ≡ 1 = ap (λ (l : Look). l.code) e in omega (arith, k)

module _ (l : BuiltLexer) (one : l.rules.modes ≡ 1) where
  no_such_mode : IsLookOf (record { made = Ok l }) 1 no_look
  no_such_mode = inr (omega (arith, one), refl)

  each_mode_has_a_look : ¬ IsLookOf (record { made = Ok l }) 0 no_look
  each_mode_has_a_look (inl look) = other_code look.1.0 look.1.1.1
  each_mode_has_a_look (inr none) = omega (arith, one, none.0)
