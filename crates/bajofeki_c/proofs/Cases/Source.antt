-- Cases of specs/Source.antt.
use Rattle.std.proofs.Common.{◌≡◌, ℕ, inl, inr, List, [], ◌∷◌, codes, refl, ap, arith}
use Rattle.std.specs.Prelude.{Ok, Err}
use Rattle.std.specs.List.{All}
use Rattle.lalrpop_emit.specs.Names.{IsIdentifier}
use Rattle.lalrpop_emit.specs.RustSource.{IsVariant}
use Rattle.bajofeki_c.specs.Source.{IsCSource, IsRustSource}
use Rattle.bajofeki_c.specs.declared.held.BuildError.TheVariants.{Freed}
use Rattle.bajofeki_c.specs.declared.held.BuiltLexer.{BuiltLexer}
use Rattle.bajofeki_c.specs.declared.page.Page.{Page}

abbrev told : ℕ → ℕ → Page
told code length = record { code = code; length = length }

no_lexer : (prefix : List ℕ) → IsCSource (record { made = Err Freed }) prefix (7 ∷ []) (told 9 0) (7 ∷ [])
no_lexer prefix = (refl, refl)

no_lexer_in_rust : ¬ IsRustSource (record { made = Err Freed }) [] (told 7 0) []
no_lexer_in_rust none = let n : 7 ≡ 9 = ap (λ (p : Page). p.code) none.0 in omega (arith, n)

module _ (l : BuiltLexer) where
  -- memory can be refused for any prefix
  memory_refused : (prefix : List ℕ) → IsCSource (record { made = Ok l }) prefix (7 ∷ []) (told 7 0) (7 ∷ [])
  memory_refused prefix = inr (inr (refl, refl))

  -- no name begins with a digit
  digit_first : ¬ IsIdentifier (codes "1ex") → IsCSource (record { made = Ok l }) (codes "1ex") (7 ∷ []) (told 1 0) (7 ∷ [])
  digit_first bad = inr (inl (bad, (refl, refl)))

  no_file_of_a_bad_prefix : ¬ IsIdentifier (codes "1ex") → ¬ IsCSource (record { made = Ok l }) (codes "1ex") [] (told 0 5) []
  no_file_of_a_bad_prefix bad (inl file) = bad file.0
  no_file_of_a_bad_prefix bad (inr (inl none)) = let n : 0 ≡ 1 = ap (λ (p : Page). p.code) none.1.0 in omega (arith, n)
  no_file_of_a_bad_prefix bad (inr (inr none)) = let n : 0 ≡ 7 = ap (λ (p : Page). p.code) none.0 in omega (arith, n)

  -- a good prefix isn't refused
  each_good_prefix_has_a_file : IsIdentifier (codes "lex") → ¬ IsCSource (record { made = Ok l }) (codes "lex") [] (told 1 0) []
  each_good_prefix_has_a_file good (inl file) = let n : 1 ≡ 0 = file.1.0 in omega (arith, n)
  each_good_prefix_has_a_file good (inr (inl none)) = none.0 good
  each_good_prefix_has_a_file good (inr (inr none)) = let n : 1 ≡ 7 = ap (λ (p : Page). p.code) none.0 in omega (arith, n)

  names_that_are_none : ¬ All IsVariant l.numbers.names → IsRustSource (record { made = Ok l }) [] (told 1 0) []
  names_that_are_none bad = inr (inl (bad, (refl, refl)))
