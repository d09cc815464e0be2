-- The columns of the bytes of a text.
use Rattle.std.specs.Prelude.{◌≡◌, ℕ, zero, suc, ◌-◌, ◌⊎◌, List, [], ◌∷◌, length}
use Rattle.std.specs.Char.{encode_utf8}
use Rattle.lalrpop_dense.specs.DenseTable.{TableNumbers}
use Rattle.lalrpop_emit.specs.Ahead.{character_column, within_column, bad_column}
use Rattle.lalrpop_emit.specs.Internal.Characters.{IsCharacterAt}

-- the columns of bytes, of which the first `left` are within a character; what follows the text is bad
abbrev pub AreColumns : TableNumbers → ℕ → ℕ → List ℕ → List ℕ → Type 0
AreColumns t width left bytes [] = Unit {0}
AreColumns t width left [] (column ∷ columns) = (column ≡ bad_column width) × AreColumns t width zero [] columns
AreColumns t width (suc left) (b ∷ bytes) (column ∷ columns) = (column ≡ within_column width) × AreColumns t width left bytes columns
AreColumns t width zero (b ∷ bytes) (column ∷ columns) =
    ((c : ℕ) × (IsCharacterAt (b ∷ bytes) 0 c × (column ≡ character_column t c) × AreColumns t width (length (encode_utf8 c) - 1) bytes columns))
    ⊎ (((c : ℕ) → ¬ IsCharacterAt (b ∷ bytes) 0 c) × (column ≡ bad_column width) × AreColumns t width zero bytes columns)
