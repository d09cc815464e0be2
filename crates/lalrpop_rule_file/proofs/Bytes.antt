-- Which bytes may be in names, and that all classes are of ASCII.
use Rattle.std.proofs.Common.{◌≡◌, ℕ, ◌<◌, true, arith}
use Rattle.std.specs.Char.{is_ascii_digit}
use Rattle.lalrpop_rule_file.specs.Words.{is_blank, is_of_name, begins_name}
use Rattle.lalrpop_rule_file.specs.Internal.Spans.{members}
use Rattle.lalrpop_rule_file.specs.declared.span.Class.{Class}
use Rattle.lalrpop_rule_file.specs.declared.span.Class.TheVariants.{Blank, Name, Digit}

pub begins_of_name : (b : ℕ) → begins_name b ≡ true → is_of_name b ≡ true
begins_of_name b h = grind arith

blank_ascii : (b : ℕ) → is_blank b ≡ true → b < 128
blank_ascii b h = grind arith

of_name_ascii : (b : ℕ) → is_of_name b ≡ true → b < 128
of_name_ascii b h = grind arith

digit_ascii : (b : ℕ) → is_ascii_digit b ≡ true → b < 128
digit_ascii b h = grind arith

-- each class is of ASCII
pub members_ascii : (class : Class) (b : ℕ) → members class b ≡ true → b < 128
members_ascii Blank b h = blank_ascii b h
members_ascii Name b h = of_name_ascii b h
members_ascii Digit b h = digit_ascii b h
