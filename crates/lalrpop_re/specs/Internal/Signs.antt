-- How the parser's signs of escapes relate to those of the grammar.
use Rattle.std.specs.Prelude.{◌<◌}
use Rattle.unicode.specs.Perl.{is_digit_char, is_space_char, is_word_char}
use Rattle.lalrpop_re.specs.CharacterSet.{Set}
use Rattle.lalrpop_re.specs.Escape.{character, set, assertion, Sign, this, code, property, edge, unknown}
use Rattle.lalrpop_re.specs.declared.escape_sequence.PerlClass.{PerlClass}
use Rattle.lalrpop_re.specs.declared.escape_sequence.PerlClass.TheVariants.{Digits, Spaces, Words}
use Rattle.lalrpop_re.specs.declared.escape_sequence.EscapeSign.{EscapeSign}
use Rattle.lalrpop_re.specs.declared.escape_sequence.EscapeSign.TheVariants as read

abbrev pub perl_set : PerlClass → Set
perl_set Digits = is_digit_char
perl_set Spaces = is_space_char
perl_set Words = is_word_char

abbrev pub sign_view : EscapeSign → Sign
sign_view (read.Character c) = this (character c)
sign_view (read.Perl class negated) = this (set (perl_set class) negated)
sign_view (read.Assertion look) = this (assertion look)
sign_view (read.Code count) = code count
sign_view (read.Property negated) = property negated
sign_view read.Edge = edge
sign_view (read.Unknown kind) = unknown

-- a code has at least one digit
abbrev pub HasDigits : EscapeSign → Type 0
HasDigits (read.Code count) = 0 < count
HasDigits (read.Character c) = Unit {0}
HasDigits (read.Perl class negated) = Unit {0}
HasDigits (read.Assertion look) = Unit {0}
HasDigits (read.Property negated) = Unit {0}
HasDigits read.Edge = Unit {0}
HasDigits (read.Unknown kind) = Unit {0}
