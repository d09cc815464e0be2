-- cases: proofs/Cases/Joined.antt
-- The text of tokens that is cut back into them, with a separator where one is needed; and why there is none.
use Rattle.std.specs.Prelude.{◌≡◌, ℕ, ◌+◌, List, take, slice_get, Some, IsSomeAnd}
use Rattle.std.specs.List.{All}
use Rattle.lalrpop_hir.specs.Tree.{Tree}
use Rattle.lalrpop_hir.specs.Tokens.{AreTokens}
use Rattle.lalrpop_hir.specs.declared.token.Token.{Token}
use Rattle.lalrpop_dense.specs.Neighbours.{CanFollow, IsParted, text_of, IsWhole, CanPart, CanPartAll, placed}
use Rattle.lalrpop_lexer.specs.declared.join_error.JoinError.{JoinError}
use Rattle.lalrpop_lexer.specs.declared.join_error.JoinError.TheVariants.{NotAToken, NotASeparator, Inseparable, OutOfMemory}

-- the index of the token's tree, and its text
abbrev pub plain : Token → ℕ × List ℕ
plain token = (token.index, token.slice.now)

-- the text spells the tokens, with the separator between those that may not stand side by side, and just these tokens are cut from it
pub record IsJoined (ts : List Tree) (ps : List ℕ) (sep : ℕ × List ℕ) (xs : List (ℕ × List ℕ)) (text : List ℕ) : Type 0 where
  pub written : List (ℕ × List ℕ)
  pub parted : IsParted ts ps sep xs written
  pub spelled : text ≡ text_of written
  pub tokens : AreTokens ts ps text 0 (placed 0 written)

-- each token and the separator are cut from their own texts, and the separator may stand where it is needed
pub record CanJoin (ts : List Tree) (ps : List ℕ) (sep : ℕ × List ℕ) (xs : List (ℕ × List ℕ)) : Type 0 where
  pub separator : IsWhole ts ps sep
  pub tokens : All (IsWhole ts ps) xs
  pub parts : CanPartAll ts ps sep xs

-- the first token that can't be joined with those before it, and why
abbrev pub IsJoinError : List Tree → List ℕ → ℕ × List ℕ → List (ℕ × List ℕ) → JoinError → Type 0
IsJoinError ts ps sep xs (NotAToken at) = IsSomeAnd (slice_get xs at) (λ x. ¬ IsWhole ts ps x) × CanJoin ts ps sep (take at xs)
IsJoinError ts ps sep xs NotASeparator = ¬ IsWhole ts ps sep
IsJoinError ts ps sep xs (Inseparable at) =
    (x y : ℕ × List ℕ) × ((slice_get xs at ≡ Some x) × (slice_get xs (at + 1) ≡ Some y)
    × (¬ CanFollow ts ps x.0 y.0) × (¬ CanPart ts ps sep x y) × CanJoin ts ps sep (take (at + 1) xs))
IsJoinError ts ps sep xs OutOfMemory = Unit {0}
