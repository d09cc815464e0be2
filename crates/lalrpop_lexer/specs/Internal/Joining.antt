-- A text of tokens that is being written.
use Rattle.std.specs.Prelude.{◌≡◌, ℕ, ◌⊎◌, List, [], take}
use Rattle.lalrpop_hir.specs.Tree.{Tree}
use Rattle.lalrpop_dense.specs.Neighbours.{CanFollow, IsParted, text_of, CanPart}
use Rattle.lalrpop_lexer.specs.Joined.{CanJoin}

-- what stands between the tokens x and y: nothing if y may follow x, and otherwise the separator
abbrev pub IsBetween : List Tree → List ℕ → ℕ × List ℕ → ℕ × List ℕ → ℕ × List ℕ → List ℕ → Type 0
IsBetween ts ps sep x y between =
    (CanFollow ts ps x.0 y.0 × (between ≡ []))
    ⊎ ((¬ CanFollow ts ps x.0 y.0) × CanPart ts ps sep x y × (between ≡ sep.1))

-- the first n tokens are written
pub record IsJoinedUpTo (ts : List Tree) (ps : List ℕ) (sep : ℕ × List ℕ) (xs : List (ℕ × List ℕ)) (n : ℕ) (text : List ℕ) : Type 0 where
  pub can : CanJoin ts ps sep (take n xs)
  pub written : List (ℕ × List ℕ)
  pub parted : IsParted ts ps sep (take n xs) written
  pub spelled : text ≡ text_of written
