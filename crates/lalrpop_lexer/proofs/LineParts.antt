-- The parts of a line `P l TEXT` or `P r PATTERN`.
use Rattle.std.proofs.Common.{◌≡◌, ℕ, List, [], ◌∷◌, true, refl, sym, ap, ◌∙◌, lit<, arith, Bor}
use Rattle.std.specs.Prelude.{◌++◌, codes, Option, Some, MatchOption, Result, Ok, Err, MatchResult}
use Rattle.std.specs.Result.{result_ok}
use Rattle.std.specs.Str.{IsUtf8}
use Rattle.std.specs.Char.{is_ascii_digit}
use Rattle.std.specs.Int.{IsInRange}
use Rattle.std.specs.List.{list_all}
use Rattle.std.specs.Str.Parse.{AllDigits, digits_value}
use Rattle.std.proofs.lemmas.Bool.{and_from}
use Rattle.std.proofs.lemmas.Str.Parse.{IsNumeralModel, numerals_by_value, tells_digits, not_in_digits, digit_from_value}
use Rattle.std.proofs.lemmas.Str.Pattern.{IsSplitOnceResult, split_after}
use Rattle.lalrpop_lexer.specs.Line.{letter, IsLine}
use Rattle.lalrpop_lexer.specs.declared.form.Form.{Form}

pub own : IsNumeralModel (AllDigits 10) (digits_value 10)
own = numerals_by_value (AllDigits 10) tells_digits

-- the text that bytes were read as
pub shown-text : {E : Type 0} (r : Result (Bor (List ℕ)) E) (s : Bor (List ℕ)) (bytes : List ℕ) (Q : E → Type 0) → Some s ≡ result_ok r → MatchResult r (λ t. (t.now ≡ bytes) × IsUtf8 bytes) Q → bytes ≡ s.now
shown-text (Ok t) s bytes Q e h = let same : s ≡ t = cc in sym (ap (λ u. u.now) same ∙ h.0)
shown-text (Err x) s bytes Q e h = cc

-- such a line, split at its first space
pub line-split : (line : List ℕ) (n : ℕ) (form : Form) (text : List ℕ) (h : IsLine line n form text) (r : Option (Bor (List ℕ) × Bor (List ℕ))) → IsSplitOnceResult 32 line r → MatchOption r ⊥ (λ x. (x.0.now ≡ h.digits) × (x.1.now ≡ letter form ++ (codes " " ++ text)))
line-split line n form text h r s =
    split_after 32 line h.digits (letter form ++ (codes " " ++ text)) r s (lit< tt) h.parts
    (not_in_digits own h.digits 32 h.precedence.numeral.1 (λ r. omega (arith, r.0)))

is_ascii_digit-true : (c : ℕ) → IsInRange 48 57 c → is_ascii_digit c ≡ true
is_ascii_digit-true c r = grind arith

-- the test of each byte accepts digits
pub list_all-digits : (ds : List ℕ) → AllDigits 10 ds → list_all is_ascii_digit ds ≡ true
list_all-digits [] h = refl
list_all-digits (c ∷ ds) h = and_from _ _ (is_ascii_digit-true c (digit_from_value c h.0)) (list_all-digits ds h.1)
