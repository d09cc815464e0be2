-- What is found in a text is the first token of its pieces.
use Rattle.std.proofs.Common.{◌≡◌, ℕ, ◌+◌, ◌<◌, ◌⊎◌, Bool, inl, inr, List, [], ◌∷◌, length, arith, refl, sym, ap, subst, length-drop}
use Rattle.std.specs.Prelude.{Option, Some, None, IfSome, IfNone, IsSomeAnd, MatchOption}
use Rattle.std.proofs.lemmas.Bool.{cases_lt, cases_order}
use Rattle.lalrpop_hir.specs.Tree.{Tree}
use Rattle.lalrpop_hir.specs.Tokens.{IsToken}
use Rattle.lalrpop_lexer.specs.SameTokens.{IsSameToken}
use Rattle.lalrpop_hir.specs.declared.token.Token.{Token as Cut}
use Rattle.lalrpop_lexer.proofs.UniqueTokens.{token-unique}
use Rattle.lalrpop_rules.specs.Found.{NoMatchBefore, IsFound, NothingFound}
use Rattle.lalrpop_rules.specs.Pieces.{ArePieces, first_token}
use Rattle.lalrpop_rules.specs.declared.piece.Piece.{Piece}
use Rattle.lalrpop_rules.specs.declared.piece.Piece.TheVariants.{Token, Skipped, Fault}
use Rattle.lalrpop_rules.proofs.FirstMatches.{match_within}
use Rattle.lalrpop_rules.proofs.PieceLaws.{are_apart}

module _ (ts : List Tree) (ps text : List ℕ) where
  earlier : (a b : Cut) → IsFound ts ps text a → IsFound ts ps text b → ¬ (a.start < b.start)
  earlier a b first second less = second.1 a.start less (a.slice.now, first.0.1.0)

  -- one token is found
  pub found-unique : (a b : Cut) → IsFound ts ps text a → IsFound ts ps text b → IsSameToken a b
  found-unique a b first second = by_order (cases_order a.start b.start)
    where
      by_order : (a.start ≡ b.start) ⊎ ((a.start < b.start) ⊎ (b.start < a.start)) → IsSameToken a b
      by_order (inl same) = token-unique ts ps text b.start a b (subst (λ (n : ℕ). IsToken ts ps text n a) same first.0) second.0
      by_order (inr (inl less)) = absurd (earlier a b first second less)
      by_order (inr (inr more)) = absurd (earlier b a second first more)

  found_at : (at : ℕ) (token : Cut) → IsToken ts ps text at token → NoMatchBefore ts text at → IsFound ts ps text token
  found_at at token is before =
      let start : at ≡ token.start = sym is.0 in
      (subst (λ (n : ℕ). IsToken ts ps text n token) start is, subst (λ (n : ℕ). NoMatchBefore ts text n) start before)

  nothing_before_start : NoMatchBefore ts text 0
  nothing_before_start n less m = omega arith

  -- the first token of all pieces is found, and where there is none, nothing
  pub first_is_found : (skips : List Bool) (xs : List Piece) → ArePieces ts ps skips text 0 xs
      → IfSome (first_token xs) (λ token. IsFound ts ps text token) × IfNone (first_token xs) (NothingFound ts text)
  first_is_found skips [] are = (tt, λ n m. omega (arith, match_within ts text n m, ap length are))
  first_is_found skips (Token token ∷ xs) are = (found_at 0 token are.0.0 nothing_before_start, tt)
  first_is_found skips (Skipped token ∷ xs) are = (found_at 0 token are.0.0 nothing_before_start, tt)
  first_is_found skips (Fault start slice ∷ []) are = (
    tt,
    λ n m. elim (cases_lt n (length slice.now)) [
      | inl less ↦ are.0.1.nothing n less m
      | inr more ↦ omega (arith, more, match_within ts text n m, ap length are.1, length-drop (0 + length slice.now) text)
    ],
  )
  first_is_found skips (Fault start slice ∷ Token token ∷ xs) are = (found_at (0 + length slice.now) token are.1.0.0 (λ n less m. are.0.1.nothing n (omega arith) m), tt)
  first_is_found skips (Fault start slice ∷ Skipped token ∷ xs) are = (found_at (0 + length slice.now) token are.1.0.0 (λ n less m. are.0.1.nothing n (omega arith) m), tt)
  first_is_found skips (Fault start slice ∷ Fault start2 slice2 ∷ xs) are =
      absurd (are_apart ts ps skips text 0 (Fault start slice ∷ Fault start2 slice2 ∷ xs) are)

  both_found : (found other : Option Cut) → IfSome found (λ token. IsFound ts ps text token) → IfNone found (NothingFound ts text)
      → IfSome other (λ token. IsFound ts ps text token) → IfNone other (NothingFound ts text) → MatchOption found (other ≡ None) (λ a. IsSomeAnd other (λ b. IsSameToken a b))
  both_found None None some nothing some2 nothing2 = refl
  both_found None (Some b) some nothing some2 nothing2 = absurd (nothing b.start (b.slice.now, some2.0.1.0))
  both_found (Some a) None some nothing some2 nothing2 = absurd (nothing2 a.start (a.slice.now, some.0.1.0))
  both_found (Some a) (Some b) some nothing some2 nothing2 = found-unique a b some some2

  -- so what is found is the first token
  pub found_is_first : (skips : List Bool) (xs : List Piece) (found : Option Cut) → ArePieces ts ps skips text 0 xs
      → IfSome found (λ token. IsFound ts ps text token) → IfNone found (NothingFound ts text)
      → MatchOption found (first_token xs ≡ None) (λ a. IsSomeAnd (first_token xs) (λ b. IsSameToken a b))
  found_is_first skips xs found are some nothing =
      let first = first_is_found skips xs are in
      both_found found (first_token xs) some nothing first.0 first.1
