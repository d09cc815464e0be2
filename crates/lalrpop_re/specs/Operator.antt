-- cases: proofs/Cases/Operator.antt
-- Operators: what follows a piece to repeat it.
use Rattle.std.specs.Prelude.{◌≡◌, ℕ, ◌<◌, ◌≤◌, ◌^◌, ◌+◌, ◌*◌, Bool, not, IsTrue, IsFalse, List, [], ◌∷◌, length, Option, Some, None, codes}
use Rattle.std.specs.List.{list_all}
use Rattle.std.specs.Char.{digit_value, is_ascii_digit}
use Rattle.unicode.specs.Binary.{is_white_space}
use Rattle.lalrpop_re.specs.Text.{Text, ◌▸◌, begins}
use Rattle.lalrpop_re.specs.declared.flags.Flags.{Flags}

-- the number that decimal digits write, after those that are read already
unfoldable pub decimal : List ℕ → ℕ → ℕ
decimal [] n = n
decimal (d ∷ ds) n = decimal ds (n * 10 + digit_value d)

-- one or more digits with white space around them, and their value, which fits 32 bits
pub data Count : Text → Text → ℕ → Type 0 where
  count : {n : ℕ} {r : Text} (before digits behind : List ℕ) → IsTrue (list_all is_white_space before) → IsTrue (list_all is_ascii_digit digits) → 0 < length digits →
      IsTrue (list_all is_white_space behind) → n ≡ decimal digits 0 → n < 2 ^ 32 → Count (before ▸ digits ▸ behind ▸ r) r n

-- `?`, `*`, `+`, `{n}`, `{n,}` and `{n,m}`, with the least and the greatest number of repetitions. There is no white
-- space between the `,` and the `}` of `{n,}`; n is at most m.
pub data Bounds : Text → Text → ℕ → Option ℕ → Type 0 where
  optional : {r : Text} → Bounds (codes "?" ▸ r) r 0 (Some 1)
  any_number : {r : Text} → Bounds (codes "*" ▸ r) r 0 None
  one_or_more : {r : Text} → Bounds (codes "+" ▸ r) r 1 None
  exactly : {t r : Text} {n : ℕ} → Count t (codes "}" ▸ r) n → Bounds (codes "{" ▸ t) r n (Some n)
  at_least : {t r : Text} {n : ℕ} → Count t (codes ",}" ▸ r) n → Bounds (codes "{" ▸ t) r n None
  between : {t u r : Text} {n m : ℕ} → Count t (codes "," ▸ u) n → Count u (codes "}" ▸ r) m → n ≤ m → Bounds (codes "{" ▸ t) r n (Some m)

-- An operator and whether it is greedy: it is greedy without the flag `U` and lazy under it. A `?` directly after it
-- belongs to it and reverses that.
pub data Operator (f : Flags) : Text → Text → ℕ → Option ℕ → Bool → Type 0 where
  alone : {t r : Text} {n : ℕ} {m : Option ℕ} → Bounds t r n m → IsFalse (begins "?" r) → Operator f t r n m (not f.swap_greed)
  turned : {t r : Text} {n : ℕ} {m : Option ℕ} → Bounds t (codes "?" ▸ r) n m → Operator f t r n m f.swap_greed
