-- cases: proofs/Cases/Characters.antt
-- Characters in bytes that may be no text.
use Rattle.std.specs.Prelude.{◌≡◌, ℕ, ◌<◌, ◌≤◌, List, ◌++◌, length, drop, slice_index}
use Rattle.std.specs.Char.{IsScalar, encode_utf8}

-- the bytes from this place on begin with the character's UTF-8
pub record IsCharacterAt (text : List ℕ) (at c : ℕ) : Type 0 where
  pub scalar : IsScalar c
  pub rest : List ℕ
  pub split : drop at text ≡ encode_utf8 c ++ rest

-- the byte at this place is one that stands in a character after its first one
pub record IsFollowing (text : List ℕ) (at : ℕ) : Type 0 where
  pub within : at < length text
  pub least : 128 ≤ slice_index text at
  pub most : slice_index text at < 192
