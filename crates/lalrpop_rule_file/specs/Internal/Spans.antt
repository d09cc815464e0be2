-- The classes of bytes.
use Rattle.std.specs.Prelude.{ℕ, Bool}
use Rattle.std.specs.Char.{is_ascii_digit}
use Rattle.lalrpop_rule_file.specs.Words.{is_blank, is_of_name}
use Rattle.lalrpop_rule_file.specs.declared.span.Class.{Class}
use Rattle.lalrpop_rule_file.specs.declared.span.Class.TheVariants.{Blank, Name, Digit}

abbrev pub members : Class → ℕ → Bool
members Blank = is_blank
members Name = is_of_name
members Digit = is_ascii_digit
