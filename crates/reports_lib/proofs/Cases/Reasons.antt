-- Cases of specs/Reasons.antt.
use Rattle.std.proofs.Common.{◌≡◌, ◌≢◌, ℕ, List, [], ◌∷◌, ◌++◌, codes, decimal, get_or, length, length-append, refl, ap, arith, Bor, Some}
use Rattle.std.specs.Fmt.{digits}
use Rattle.std.specs.Char.{encode_utf8}
use Rattle.std.specs.Str.{chars, is_utf8}
use Rattle.unicode_width.specs.Width.{str_width}
use Rattle.lalrpop_hir.specs.declared.error.NfaConstructionError.TheVariants.{LookAround, NonGreedy}
use Rattle.lalrpop_re.specs.declared.error.SyntaxKind.TheVariants.{UnclosedGroup, UnopenedGroup}
use Rattle.bajofeki_rules.specs.declared.position.Position.{Position}
use Rattle.bajofeki_rules.specs.declared.rule_text.RuleText.TheVariants.{Pattern}
use Rattle.lalrpop_rule_file.specs.RuleFault.{reason_of}
use Rattle.lalrpop_re.specs.declared.from_to_error.FromToError.TheVariants.{EmptyEnd, LongEnd}
use Rattle.lalrpop_rules.specs.declared.error.RulesError.TheVariants.{NotParsed, BadEnd, NotCompiled, OutOfMemory}
use Rattle.bajofeki_rules.specs.declared.rule.Rule.{Rule}
use Rattle.lalrpop_rule_file.specs.declared.error.LineFault.TheVariants.{NoEquals}
use Rattle.lalrpop_rule_file.specs.declared.error.RuleFileError.TheVariants.{BadLine, NoSuchMode}
use Rattle.reports_lib.specs.Reasons.{syntax_text, refusal_text, bad_end_text, clash_advice, mode_said, parsed_text, placed, clash_text, SaysBadLine, place_at, text_at, SaysRules}
use Rattle.reports_lib.specs.ShownLine.{pointed, signs_at}

-- ---- in words

group_that_is_open : syntax_text UnclosedGroup ≡ codes "this group isn't closed"
group_that_is_open = refl

another_reason : syntax_text UnopenedGroup ≢ codes "this group isn't closed"
another_reason e = let k : 96 ≡ 103 = ap (λ (l : List ℕ). get_or l 5 0) e in omega (arith, k)

lazy_repetition : refusal_text NonGreedy ≡ codes "a lexer can't have lazy repetitions: write `[^x]*x` for `.*?x`, and `/\\*([^*]|\\*+[^*/])*\\*+/` for `/\\*.*?\\*/`"
lazy_repetition = refl

another_refusal : refusal_text LookAround ≢ refusal_text NonGreedy
another_refusal e = let k : 111 ≡ 97 = ap (λ (l : List ℕ). get_or l 20 0) e in omega (arith, k)

-- a clash on the empty word is told apart
advice : clash_advice (97 ∷ []) ≡ codes "Give the one that should win a greater precedence."
advice = refl

advice_for_the_empty_word : clash_advice [] ≢ clash_advice (97 ∷ [])
advice_for_the_empty_word e = let k : 78 ≡ 71 = ap (λ (l : List ℕ). get_or l 0 0) e in omega (arith, k)

-- ---- messages

-- below a line that isn't there, which is empty
message_about_a_place : placed [] 2 1 (codes "why") ≡ codes "2:1: why\n    \n    ^\n"
unfolding digits is_utf8 chars encode_utf8 str_width
message_about_a_place = refl

-- the later line comes first, and the advice last
message_about_a_clash : clash_text 2 (codes "B") 1 (codes "A") [] (codes "\"a\"") (codes "    1: A\n") (codes "Do.")
    ≡ codes "2: B clashes with A of line 1: both match the word \"a\", and neither wins\n    1: A\nDo.\n"
unfolding digits
message_about_a_clash = refl

-- where there are several modes
clash_in_a_mode : clash_text 2 (codes "B") 1 (codes "A") (mode_said (Some (codes "M"))) (codes "\"a\"") [] (codes "Do.")
    ≡ codes "2: B clashes with A of line 1 in mode M: both match the word \"a\", and neither wins\nDo.\n"
unfolding digits
clash_in_a_mode = refl

clash_turned : clash_text 1 (codes "A") 2 (codes "B") [] (codes "\"a\"") [] [] ≢ clash_text 2 (codes "B") 1 (codes "A") [] (codes "\"a\"") [] []
unfolding digits
clash_turned e = let k : 49 ≡ 50 = ap (λ (l : List ℕ). get_or l 0 0) e in omega (arith, k)

-- ---- rules

-- a mode that no section names is told with its place; and nothing else is said of it
no_such_mode : (ls : List (List ℕ)) → SaysBadLine ls (NoSuchMode 1 8) (placed ls 1 8 (codes "no section names this mode"))
no_such_mode ls = refl

no_place : (ls : List (List ℕ)) → ¬ SaysBadLine ls (BadLine 2 7 NoEquals) []
no_place ls said = absurd (omega (arith, ap length said, length-append (decimal 2) (codes ":" ++ (decimal 7 ++ (codes ": " ++ (reason_of NoEquals ++ (codes "\n" ++ pointed (signs_at ls 2) 6)))))))

-- the place of the second rule, and the text of the first
second_place : (p q : Position) → place_at (p ∷ q ∷ []) 1 ≡ q
second_place p q = refl

first_text : (r s : Rule) (text : Bor (List ℕ)) → r.text ≡ Pattern text → text_at (r ∷ s ∷ []) 0 ≡ text.now
first_text r s text is = ap parsed_text is

-- the line of a rule that can't be compiled stands before the column
not_the_column : (ls : List (List ℕ)) → ¬ SaysRules ls [] [] (record { line = 4; column = 6 } ∷ []) (NotCompiled 0 LookAround) (placed ls 6 4 (refusal_text LookAround))
unfolding digits
not_the_column ls said = let k : 54 ≡ 52 = ap (λ (l : List ℕ). get_or l 0 0) said in omega (arith, k)

-- the second character of a text that begins in column 6
second_character : (ls : List (List ℕ)) (r : Rule) (text : Bor (List ℕ)) → r.text ≡ Pattern text → text.now ≡ codes "a)"
    → SaysRules ls [] (r ∷ []) (record { line = 4; column = 6 } ∷ []) (NotParsed 0 1 UnopenedGroup) (placed ls 4 7 (syntax_text UnopenedGroup))
unfolding chars
second_character ls r text form is = rw (form, is) refl

-- the end of a text on line 4 is empty
empty_end : (ls : List (List ℕ)) → SaysRules ls [] [] (record { line = 4; column = 6 } ∷ []) (BadEnd 0 EmptyEnd) (placed ls 4 6 (bad_end_text EmptyEnd))
empty_end ls = refl

another_end : bad_end_text LongEnd ≢ bad_end_text EmptyEnd
another_end e = let k : 116 ≡ 110 = ap (λ (l : List ℕ). get_or l 0 0) e in omega (arith, k)

no_word_of_memory : (ls modes : List (List ℕ)) (rs : List Rule) (places : List Position) (said : List ℕ) → ¬ SaysRules ls modes rs places OutOfMemory said
no_word_of_memory ls modes rs places said says = says
