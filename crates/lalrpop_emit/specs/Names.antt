-- cases: proofs/Cases/Names.antt
-- The names of rules: which of them can be part of an identifier, and the numbers of the distinct ones.
use Rattle.std.specs.Prelude.{◌≢◌, ◌==◌, ◌||◌, ℕ, Bool, List, [], ◌∷◌, ◌++◌, length, map, if◌then◌else◌, IsTrue, IsFalse, slice_index}
use Rattle.std.specs.Char.{is_ascii_alphanumeric, is_ascii_digit}
use Rattle.std.specs.List.{list_all, position_or_len}
use Rattle.std.specs.Str.{bytes_eq}

-- an ASCII letter, a digit or `_`
abbrev pub is_name_byte : ℕ → Bool
is_name_byte b = is_ascii_alphanumeric b || b == 95

-- one or more of them
pub record IsName (name : List ℕ) : Type 0 where
  pub some : name ≢ []
  pub bytes : IsTrue (list_all is_name_byte name)

-- a name that doesn't begin with a digit
pub record IsIdentifier (name : List ℕ) : Type 0 where
  pub part : IsName name
  pub first : IsFalse (is_ascii_digit (slice_index name 0))

-- where the name first stands in the list; where it doesn't, how long the list is
abbrev pub place_of_name : List (List ℕ) → List ℕ → ℕ
place_of_name names n = position_or_len (bytes_eq n) names

-- the known names, and after them those of the list that are not among those before them
abbrev pub distinct_behind : List (List ℕ) → List (List ℕ) → List (List ℕ)
distinct_behind known [] = known
distinct_behind known (n ∷ ns) = if place_of_name known n == length known then distinct_behind (known ++ n ∷ []) ns else distinct_behind known ns

-- each name once, in the order in which they first come
abbrev pub distinct_names : List (List ℕ) → List (List ℕ)
distinct_names names = distinct_behind [] names

-- for each name its place among the distinct ones
abbrev pub kinds_of : List (List ℕ) → List ℕ
kinds_of names = map (place_of_name (distinct_names names)) names
