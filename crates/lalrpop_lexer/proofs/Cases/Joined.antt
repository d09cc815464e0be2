-- Cases of specs/Joined.antt.
use Rattle.std.proofs.Common.{◌≡◌, ℕ, List, [], ◌∷◌, length, refl, ap, ◌∙◌, arith}
use Rattle.std.proofs.lemmas.List.Elements.{All-nil, All-cons, All-head}
use Rattle.lalrpop_hir.specs.Tree.{Tree}
use Rattle.lalrpop_hir.specs.declared.token.Token.{Token}
use Rattle.lalrpop_dense.specs.Neighbours.{CanFollow, text_of, IsWhole, CanPart}
use Rattle.lalrpop_lexer.specs.Joined.{plain, IsJoined, CanJoin, IsJoinError}
use Rattle.lalrpop_lexer.specs.declared.join_error.JoinError.TheVariants.{NotAToken, NotASeparator, Inseparable}

place_left_out : (token : Token) → plain (record token { start = 7 }) ≡ plain token
place_left_out token = refl

module _ (ts : List Tree) (ps : List ℕ) (sep x y : ℕ × List ℕ) where
  -- ---- the text

  no_tokens_joined : IsJoined ts ps sep [] []
  no_tokens_joined = record { written = []; parted = refl; spelled = refl; tokens = refl }

  text_of_no_tokens : ¬ IsJoined ts ps sep [] (97 ∷ [])
  text_of_no_tokens joined = let n : 1 ≡ 0 = ap length (joined.spelled ∙ ap text_of joined.parted) in omega (arith, n)

  -- ---- what can be joined

  one_token_can : IsWhole ts ps sep → IsWhole ts ps x → CanJoin ts ps sep (x ∷ [])
  one_token_can one whole = record { separator = one; tokens = All-cons (IsWhole ts ps) x [] whole (All-nil (IsWhole ts ps)); parts = tt }

  token_that_is_cut_otherwise : (¬ IsWhole ts ps x) → ¬ CanJoin ts ps sep (x ∷ [])
  token_that_is_cut_otherwise other can = other (All-head (IsWhole ts ps) x [] can.tokens)

  -- the separator counts even where it is not needed
  separator_that_is_cut_otherwise : (¬ IsWhole ts ps sep) → ¬ CanJoin ts ps sep []
  separator_that_is_cut_otherwise other can = other can.separator

  -- ---- errors

  first_token : IsWhole ts ps sep → (¬ IsWhole ts ps x) → IsJoinError ts ps sep (x ∷ y ∷ []) (NotAToken 0)
  first_token one other = (other, record { separator = one; tokens = All-nil (IsWhole ts ps); parts = tt })

  first_token_is_right : IsWhole ts ps x → ¬ IsJoinError ts ps sep (x ∷ y ∷ []) (NotAToken 0)
  first_token_is_right whole error = error.0 whole

  no_such_token : ¬ IsJoinError ts ps sep (x ∷ []) (NotAToken 1)
  no_such_token error = error.0

  -- the first is told
  second_token_for_the_first : (¬ IsWhole ts ps x) → ¬ IsJoinError ts ps sep (x ∷ y ∷ []) (NotAToken 1)
  second_token_for_the_first other error = other (All-head (IsWhole ts ps) x [] error.1.tokens)

  separator_is_right : IsWhole ts ps sep → ¬ IsJoinError ts ps sep (x ∷ []) NotASeparator
  separator_is_right one error = error one

  nothing_parts_two : IsWhole ts ps sep → IsWhole ts ps x → (¬ CanFollow ts ps x.0 y.0) → (¬ CanPart ts ps sep x y)
      → IsJoinError ts ps sep (x ∷ y ∷ []) (Inseparable 0)
  nothing_parts_two one whole far apart = (x, y, (refl, refl, far, apart, one_token_can one whole))

  nothing_parts_the_last : ¬ IsJoinError ts ps sep (x ∷ []) (Inseparable 0)
  nothing_parts_the_last (v, w, error) = let e = error.1 in absurd (cc)
