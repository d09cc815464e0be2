-- Cases of specs/RuleLine.antt.
use Rattle.std.proofs.Common.{true, ◌≡◌, ℕ, List, [], ◌∷◌, length, get_or, drop, ◌∙◌, codes, refl, ap, sym, Option, Some, None, arith}
use Rattle.std.specs.Char.{is_ascii_digit}
use Rattle.std.proofs.lemmas.Bool.{false≢true}
use Rattle.bajofeki_rules.specs.Precedence.{IsPrecedence}
use Rattle.lalrpop_rule_file.specs.Words.{IsSpan, begins, is_of_name}
use Rattle.lalrpop_rule_file.specs.LineText.{Literal, Escaped, Pattern, Quoted, AnyCase, FromTo}
use Rattle.lalrpop_rule_file.specs.RuleLine.{Mode, Push, word_of, Enters, Pops, Head, WrittenRule, acting, bare, marked, part_of, rule_of, These, Every, Part, Start, Listing, Named, Entering, Equals, InAnyCase, From, Defines, Defined, Open, Closed, Lexeme, a_blank, a_bracket, a_mode, a_star, an_end, a_star_end, a_name, a_skip, a_pop, an_entry, its_mode, an_equals, a_part, its_equals, its_pattern, an_open_pattern, a_precedence, a_text, an_open_text, an_any_case, its_literal, an_open_literal, a_from, from_to, nothing, lexeme_then, IsPartLine, IsRule, IsSection}
use Rattle.lalrpop_rule_file.proofs.Cases.LineText.{start_of_one_letter}
use Rattle.lalrpop_rule_file.proofs.Lexemes.{Lexeme-unique, Reads-unique, end_is_stuck}

-- ---- a rule's words

name_of_a_rule : Lexeme Start (codes "_a1 ") (Named (bare (codes "_a1"))) (codes " ")
name_of_a_rule = a_name refl (record { parts = refl; passes = (refl, (refl, (refl, tt))); stops = refl })

digit_begins_no_name : (q : Part) (rest : List ℕ) → ¬ Lexeme Start (codes "1a") q rest
digit_begins_no_name q rest s = by s
  where
    by : {p : Part} {behind : List ℕ} → ¬ Lexeme Start (codes "1a") p behind
    by (a_blank h) = false≢true h
    by (a_name h span) = false≢true h

-- a rule may be called `skip`
skip_word : IsSpan is_of_name (codes "skip=") (codes "skip") (codes "=")
skip_word = record { parts = refl; passes = (refl, (refl, (refl, (refl, tt)))); stops = refl }

rule_called_skip : Lexeme Start (codes "skip=") (Named (bare (codes "skip"))) (codes "=")
rule_called_skip = a_name refl skip_word

skip_behind_a_name : (name : List ℕ) → Lexeme (Named (bare name)) (codes "skip=") (Named (marked name)) (codes "=")
skip_behind_a_name name = a_skip skip_word

-- but `skip` doesn't stand after an action
third : List ℕ → ℕ
third bs = get_or bs 2 0

no_skip_there : {p : Part} {behind : List ℕ} (head : Head) → length head.actions ≡ 1 → ¬ Lexeme (Named head) (codes "skip=") p behind
unfolding third
no_skip_there head one (a_blank h) = false≢true h
no_skip_there head one (a_skip span) = omega (arith, one)
no_skip_there head one (a_pop span) = let k : 105 ≡ 112 = ap third span.parts in omega (arith, k)
no_skip_there head one (an_entry Mode span) = let k : 105 ≡ 100 = ap third span.parts in omega (arith, k)
no_skip_there head one (a_part span) = omega (arith, one)
no_skip_there head one (an_entry Push span) = let k : 105 ≡ 115 = ap third span.parts in omega (arith, k)

skip_behind_an_action : (name : List ℕ) (q : Part) (rest : List ℕ) → ¬ Lexeme (Named (acting (bare name) Pops)) (codes "skip=") q rest
skip_behind_an_action name q rest s = no_skip_there (acting (bare name) Pops) refl s

-- a part: a name, the word `part`, `=` and a pattern
part_word : IsSpan is_of_name (codes "part =/0/ ") (codes "part") (codes " =/0/ ")
part_word = record { parts = refl; passes = (refl, (refl, (refl, (refl, tt)))); stops = refl }

one_letter : IsSpan is_of_name (codes "D part =/0/ ") (codes "D") (codes " part =/0/ ")
one_letter = record { parts = refl; passes = (refl, tt); stops = refl }

line_of_a_part : IsPartLine (codes "D part =/0/ ") (part_of (codes "D") (codes "0"))
line_of_a_part =
    lexeme_then (a_name refl one_letter) (lexeme_then (a_blank refl) (lexeme_then (a_part part_word) (lexeme_then (a_blank refl)
    (lexeme_then its_equals (lexeme_then (its_pattern {inner = codes "0"} (refl, tt)) (lexeme_then (a_blank refl) nothing))))))

-- a name may be `part`
name_called_part : Lexeme Start (codes "part =/0/ ") (Named (bare (codes "part"))) (codes " =/0/ ")
name_called_part = a_name refl part_word

-- `skip` and actions don't go with the word
no_part_there : {p : Part} {behind : List ℕ} (head : Head) → head.skipped ≡ true → ¬ Lexeme (Named head) (codes "part =/0/ ") p behind
unfolding third
no_part_there head skipped (a_blank h) = false≢true h
no_part_there head skipped (a_part span) = false≢true skipped
no_part_there head skipped (a_skip span) = false≢true skipped
no_part_there head skipped (a_pop span) = let k : 114 ≡ 112 = ap third span.parts in omega (arith, k)
no_part_there head skipped (an_entry Mode span) = let k : 114 ≡ 100 = ap third span.parts in omega (arith, k)
no_part_there head skipped (an_entry Push span) = let k : 114 ≡ 115 = ap third span.parts in omega (arith, k)

part_behind_skip : (name : List ℕ) (q : Part) (rest : List ℕ) → ¬ Lexeme (Named (marked name)) (codes "part =/0/ ") q rest
part_behind_skip name q rest s = no_part_there (marked name) refl s

-- a pattern ends at the last slash
slash_in_a_pattern : (name : List ℕ) → Lexeme (Defines name) (codes "/a/b/") (Defined (part_of name (codes "a/b"))) []
slash_in_a_pattern name = its_pattern {inner = codes "a/b"} tt

one_slash_alone : (name : List ℕ) → Lexeme (Defines name) (codes "/a") Open []
one_slash_alone name = an_open_pattern (refl, tt)

words_of_modes : (word_of Mode ≡ codes "mode") × (word_of Push ≡ codes "push")
words_of_modes = (refl, refl)

pop_is_an_action : (head : Head) → Lexeme (Named head) (codes "pop ") (Named (acting head Pops)) (codes " ")
pop_is_an_action head = a_pop (record { parts = refl; passes = (refl, (refl, (refl, tt))); stops = refl })

push_wants_a_mode : (head : Head) → Lexeme (Named head) (codes "push C") (Entering head Push) (codes " C")
push_wants_a_mode head = an_entry Push (record { parts = refl; passes = (refl, (refl, (refl, (refl, tt)))); stops = refl })

-- a mode may be called `pop`
mode_called_pop : (head : Head) → Lexeme (Entering head Mode) (codes "pop=") (Named (acting head (Enters Mode (codes "pop")))) (codes "=")
mode_called_pop head = its_mode refl (record { parts = refl; passes = (refl, (refl, (refl, tt))); stops = refl })

-- `popper` is another word
longer_word_is_no_action : (rest : List ℕ) → ¬ IsSpan is_of_name (codes "popper") (codes "pop") rest
longer_word_is_no_action rest span = false≢true (sym (ap (begins is_of_name) (ap (drop 3) span.parts) ∙ span.stops))

-- ---- after the `=`

twelve : IsPrecedence (codes "12") 12
twelve = record { numeral = search arith; short = omega arith; value = refl; fits = omega arith }

digits : IsSpan is_ascii_digit (codes "12 ") (codes "12") (codes " ")
digits = record { parts = refl; passes = (refl, (refl, tt)); stops = refl }

written_precedence : (head : Head) → Lexeme (Equals head None) (codes "12 ") (Equals head (Some 12)) (codes " ")
written_precedence head = a_precedence digits twelve

half_a_precedence : (head : Head) → ¬ Lexeme (Equals head None) (codes "12 ") (Equals head (Some 1)) (codes "2 ")
half_a_precedence head s = let same = (Lexeme-unique s (written_precedence head)).1 in let k : 2 ≡ 1 = ap length same in omega (arith, k)

-- quotes inside need no escape
quote_in_quotes : (head : Head) → Lexeme (Equals head None) (codes "'''") (Closed (rule_of head None (Quoted Literal (codes "'")))) []
quote_in_quotes head = a_text Literal tt

first_quote_ends_nothing : (head : Head) → ¬ Lexeme (Equals head None) (codes "'''") (Closed (rule_of head None (Quoted Literal []))) (codes "'")
first_quote_ends_nothing head s = let same = (Lexeme-unique s (quote_in_quotes head)).1 in let k : 1 ≡ 0 = ap length same in omega (arith, k)

pattern_with_a_precedence : (head : Head) → Lexeme (Equals head (Some 12)) (codes "/a/b/ ") (Closed (rule_of head (Some 12) (Quoted Pattern (codes "a/b")))) (codes " ")
pattern_with_a_precedence head = a_text Pattern (refl, tt)

one_delimiter_alone : (head : Head) (written : Option ℕ) → Lexeme (Equals head written) (codes "'a") Open []
one_delimiter_alone head written = an_open_text Literal (refl, tt)

-- a quote after a backslash ends a text too
quote_behind_a_backslash : (head : Head) → Lexeme (Equals head None) (codes "\"a\\\"") (Closed (rule_of head None (Quoted Escaped (codes "a\\")))) []
quote_behind_a_backslash head = a_text Escaped tt

word_anycase : (head : Head) → Lexeme (Equals head None) (codes "anycase 'a'") (InAnyCase head None) (codes " 'a'")
word_anycase head = an_any_case (record { parts = refl; passes = (refl, (refl, (refl, (refl, (refl, (refl, (refl, tt))))))); stops = refl })

quote_in_any_case : (head : Head) → Lexeme (InAnyCase head None) (codes "'a'b' ") (Closed (rule_of head None (AnyCase (codes "a'b")))) (codes " ")
quote_in_any_case head = its_literal {inner = codes "a'b"} (refl, tt)

any_case_ends_at_the_last : (head : Head) → ¬ Lexeme (InAnyCase head None) (codes "'a'b' ") (Closed (rule_of head None (AnyCase (codes "a")))) (codes "b' ")
any_case_ends_at_the_last head s = let k : 3 ≡ 1 = ap length (Lexeme-unique s (quote_in_any_case head)).1 in omega (arith, k)

one_apostrophe_alone : (head : Head) → Lexeme (InAnyCase head None) (codes "'a") Open []
one_apostrophe_alone head = an_open_literal (refl, tt)

word_from : (head : Head) → Lexeme (Equals head None) (codes "from'a") (From head None) (codes "'a")
word_from head = a_from (record { parts = refl; passes = (refl, (refl, (refl, (refl, tt)))); stops = refl })

start_and_end : (head : Head) → Lexeme (From head None) (codes "'a'  to'b'") (Closed (rule_of head None (FromTo (codes "a") (codes "b")))) []
start_and_end head = from_to start_of_one_letter tt

-- ---- sections and rules

section_of_one_mode : IsSection (codes "[A] ") (These (codes "A" ∷ []))
section_of_one_mode =
    let word : IsSpan is_of_name (codes "A] ") (codes "A") (codes "] ") = record { parts = refl; passes = (refl, tt); stops = refl } in
    lexeme_then a_bracket (lexeme_then (a_mode refl word) (lexeme_then an_end (lexeme_then (a_blank refl) nothing)))

section_of_every_mode : IsSection (codes "[*]") Every
section_of_every_mode = lexeme_then a_bracket (lexeme_then a_star (lexeme_then a_star_end nothing))

no_mode_in_brackets : (q : Part) (rest : List ℕ) → ¬ Lexeme (Listing []) (codes "]") q rest
no_mode_in_brackets q rest s = by s
  where
    by : {p : Part} {behind : List ℕ} → ¬ Lexeme (Listing []) (codes "]") p behind
    by (a_blank h) = false≢true h
    by (a_mode h span) = false≢true h

abbrev rule_a : ℕ → WrittenRule
rule_a n = record { head = bare (codes "A"); precedence = n; text = Quoted Literal (codes "x") }

pub reads_a : IsRule (codes " A ='x'") (rule_a 1)
reads_a =
    let word : IsSpan is_of_name (codes "A ='x'") (codes "A") (codes " ='x'") = record { parts = refl; passes = (refl, tt); stops = refl } in
    lexeme_then (a_blank refl) (lexeme_then (a_name refl word) (lexeme_then (a_blank refl) (lexeme_then an_equals (lexeme_then (a_text Literal tt) nothing))))

precedence_of : Part → ℕ
precedence_of (Closed rule) = rule.precedence
precedence_of p = 0

not_of_precedence_0 : ¬ IsRule (codes " A ='x'") (rule_a 0)
unfolding precedence_of
not_of_precedence_0 is =
    let k : 0 ≡ 1 = ap precedence_of (Reads-unique is reads_a (end_is_stuck (rule_a 0)) (end_is_stuck (rule_a 1))).0 in omega (arith, k)
