-- A precedence in digits.
use Rattle.std.specs.Prelude.{◌≡◌, ℕ, ◌≤◌, List, length}
use Rattle.std.specs.Str.Parse.{IsNumeral, digits_value}

-- 1 to 20 decimal digits whose value is n, which fits 64 bits
pub record IsPrecedence (digits : List ℕ) (n : ℕ) : Type 0 where
  pub numeral : IsNumeral 10 digits
  pub short : length digits ≤ 20
  pub value : n ≡ digits_value 10 digits
  pub fits : n ≤ 18446744073709551615
