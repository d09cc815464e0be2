-- Cases of specs/RuleFault.antt.
use Rattle.std.proofs.Common.{◌≡◌, ◌≢◌, ℕ, Some, None, List, [], ◌∷◌, ◌++◌, codes, get_or, refl, ap, arith, length, length-append, inl, inr}
use Rattle.lalrpop_rule_file.specs.Words.{IsSpan, is_blank, is_of_name}
use Rattle.lalrpop_rule_file.specs.LineText.{Form, Literal, Escaped, Pattern, delimiter}
use Rattle.lalrpop_rule_file.specs.RuleLine.{Push, Head, WrittenPart, WrittenRule, Section, Start, Listing, Headed, Entering, Equals, InAnyCase, From, Defines, Defined, Closed}
use Rattle.lalrpop_rule_file.specs.RuleFault.{StopsBefore, fault_at}
use Rattle.lalrpop_rule_file.specs.declared.error.LineFault.TheVariants.{NoName, NoMode, NoBracket, AfterSection, PrecedenceTooLarge, NoText, NoPattern, NoLiteral, NoFrom, NoTo, NotClosed}
use Rattle.lalrpop_rule_file.proofs.Stopping.{no_from, no_literal, no_mode, no_name, no_text, not_quoted, open_in_any_case, without_to}
use Rattle.lalrpop_rule_file.proofs.StoppingLaws.{StopsBefore-unique}
use Rattle.lalrpop_rule_file.proofs.PartLines.{no_pattern}
use Rattle.lalrpop_rule_file.proofs.Cases.LineText.{letter_is_no_to}

digit_behind_equals : (head : Head) → fault_at (Equals head None) (codes "9x") ≡ Some PrecedenceTooLarge
digit_behind_equals head = refl

digit_behind_a_precedence : (head : Head) → fault_at (Equals head (Some 1)) (codes "9x") ≡ Some NoText
digit_behind_a_precedence head = refl

end_of_a_rule : (rule : WrittenRule) → fault_at (Closed rule) [] ≡ None
end_of_a_rule rule = refl

end_of_a_part : (part : WrittenPart) → fault_at (Defined part) [] ≡ None
end_of_a_part part = refl

letter_behind_a_part : (part : WrittenPart) → fault_at (Defined part) (codes "x") ≡ Some NotClosed
letter_behind_a_part part = refl

end_of_a_section : (section : Section) → fault_at (Headed section) [] ≡ None
end_of_a_section section = refl

letter_behind_a_section : (section : Section) → fault_at (Headed section) (codes "x") ≡ Some AfterSection
letter_behind_a_section section = refl

section_without_a_mode : fault_at (Listing []) (codes "]") ≡ Some NoMode
section_without_a_mode = refl

comma_in_a_section : fault_at (Listing (codes "A" ∷ [])) (codes ", B]") ≡ Some NoBracket
comma_in_a_section = refl

-- ` 1` stops at its digit
no_section_there : (lead right : List ℕ) → ¬ IsSpan is_blank (codes " 1") lead (codes "[" ++ right)
no_section_there [] right span = let k : 32 ≡ 91 = ap (λ (x : List ℕ). get_or x 0 0) span.parts in omega (arith, k)
no_section_there (b ∷ []) right span = let k : 49 ≡ 91 = ap (λ (x : List ℕ). get_or x 1 0) span.parts in omega (arith, k)
no_section_there (b ∷ c ∷ lead) right span = let k : 2 ≡ length (b ∷ c ∷ (lead ++ (codes "[" ++ right))) = ap length span.parts in omega (arith, k, length-append lead (codes "[" ++ right))

digit_begins_no_name : StopsBefore Start (codes " 1") (codes "1") NoName
digit_begins_no_name = no_name (codes " 1") (codes " ") (codes "1") (record { parts = refl; passes = (refl, tt); stops = refl }) refl no_section_there

-- not in front of its blanks
blank_is_no_place : ¬ StopsBefore Start (codes " 1") (codes " 1") NoName
blank_is_no_place stops = let k : 2 ≡ 1 = ap length (StopsBefore-unique Start (codes " 1") (codes " 1") (codes "1") NoName NoName stops digit_begins_no_name).0 in omega (arith, k)

-- after `push` ` =` stops at the `=`
push_without_a_mode : (head : Head) → StopsBefore (Entering head Push) (codes " =") (codes "=") NoMode
push_without_a_mode head = no_mode Push (codes " =") (codes " ") (codes "=") (record { parts = refl; passes = (refl, tt); stops = refl }) refl head

letter_is_no_delimiter : (form : Form) → 120 ≡ delimiter form → ⊥
letter_is_no_delimiter Literal e = omega (arith, e)
letter_is_no_delimiter Escaped e = omega (arith, e)
letter_is_no_delimiter Pattern e = omega (arith, e)

-- ` x` has no text, and stops at its letter
letter_is_no_text : (head : Head) → StopsBefore (Equals head None) (codes "x") (codes "x") NoText
letter_is_no_text head = no_text (codes "x") no_delimiter (λ behind span. no_any_case behind span) (λ behind span. no_word behind span) None (refl, refl) head
  where
    no_delimiter : (form : Form) (inner : List ℕ) → codes "x" ≢ delimiter form ∷ inner
    no_delimiter form inner e = letter_is_no_delimiter form (ap (λ (x : List ℕ). get_or x 0 0) e)

    no_any_case : (behind : List ℕ) → ¬ IsSpan is_of_name (codes "x") (codes "anycase") behind
    no_any_case behind span = let k : 120 ≡ 97 = ap (λ (x : List ℕ). get_or x 0 0) span.parts in omega (arith, k)

    no_word : (behind : List ℕ) → ¬ IsSpan is_of_name (codes "x") (codes "from") behind
    no_word behind span = let k : 120 ≡ 102 = ap (λ (x : List ℕ). get_or x 0 0) span.parts in omega (arith, k)

-- a part has no literal
literal_is_no_pattern : (name : List ℕ) → StopsBefore (Defines name) (codes " 'x'") (codes "'x'") NoPattern
literal_is_no_pattern name = no_pattern name (codes " 'x'") (codes " ") (codes "'x'") (record { parts = refl; passes = (refl, tt); stops = refl }) (λ inner e. absurd (cc))

-- `anycase` has a literal between apostrophes alone
quote_behind_anycase : (head : Head) → StopsBefore (InAnyCase head None) (codes " \"x\"") (codes "\"x\"") NoLiteral
quote_behind_anycase head = no_literal (codes " \"x\"") (codes " ") (codes "\"x\"") (record { parts = refl; passes = (refl, tt); stops = refl }) (λ inner e. absurd (cc)) head None

open_literal_in_any_case : (head : Head) → StopsBefore (InAnyCase head None) (codes "'x") [] NotClosed
open_literal_in_any_case head = open_in_any_case (codes "x") [] (inl ((refl, tt), refl)) head None

letter_behind_from : (head : Head) → StopsBefore (From head None) (codes " x") (codes "x") NoFrom
letter_behind_from head = no_from (codes " x") (codes " ") (codes "x") (record { parts = refl; passes = (refl, tt); stops = refl }) (λ inner e. absurd (cc)) head None

-- `from 'a'b` stops at the second apostrophe
no_to_there : (head : Head) → StopsBefore (From head None) (codes "'a'b") (codes "'b") NoTo
no_to_there head = without_to (codes "a'b") (codes "a") (codes "'b") letter_is_no_to (record { parts = refl; passes = (refl, tt); stops = refl }) head None

-- `'x` stops at its end, and `'x'y` at what stands after the second apostrophe
open_literal : (head : Head) → StopsBefore (Equals head None) (codes "'x") [] NotClosed
open_literal head = not_quoted Literal (codes "x") [] (inl ((refl, tt), refl)) None head

letter_behind : (head : Head) → StopsBefore (Equals head None) (codes "'x'y") (codes "y") NotClosed
letter_behind head =
    let behind : IsSpan is_blank (codes "y") [] (codes "y") = record { parts = refl; passes = tt; stops = refl } in
    not_quoted Literal (codes "x'y") (codes "y") (inr (codes "x", (codes "y", ([], (refl, (refl, tt), behind, omega arith))))) None head

letter_behind_is_read : (head : Head) → ¬ StopsBefore (Equals head None) (codes "'x'y") [] NotClosed
letter_behind_is_read head stops =
    let k : 0 ≡ 1 = ap length (StopsBefore-unique (Equals head None) (codes "'x'y") [] (codes "y") NotClosed NotClosed stops (letter_behind head)).0 in omega (arith, k)
