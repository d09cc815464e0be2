-- cases: proofs/Cases/Begun.antt
-- The bytes after a text: a character of which only the first bytes have come, or bytes of no character.
use Rattle.std.specs.Prelude.{◌≢◌, ℕ, ◌≤◌, ◌<◌, List, [], ◌++◌, length, take}
use Rattle.std.specs.Str.{IsUtf8}

-- no character is at the front of the bytes
abbrev pub NoCharacter : List ℕ → Type 0
NoCharacter bytes = (n : ℕ) → 0 < n → n ≤ length bytes → ¬ IsUtf8 (take n bytes)

-- a character may be at their front once more bytes come
abbrev pub IsBegun : List ℕ → Type 0
IsBegun bytes = NoCharacter bytes × ((more : List ℕ) × IsUtf8 (bytes ++ more))

-- whatever comes, none will be
abbrev pub IsBad : List ℕ → Type 0
IsBad bytes = (bytes ≢ []) × ((more : List ℕ) → NoCharacter (bytes ++ more))
