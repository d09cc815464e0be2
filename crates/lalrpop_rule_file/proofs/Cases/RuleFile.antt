-- Cases of specs/RuleFile.antt.
use Rattle.std.proofs.Common.{◌≡◌, ℕ, inl, inr, List, [], ◌∷◌, get_or, length, codes, refl, ap, subst, false, sym, Bor, ◌∙◌, arith, Contains}
use Rattle.std.proofs.lemmas.Bool.{false≢true}
use Rattle.std.specs.Str.{IsUtf8, chars}
use lib.Utf8.{encode}
use Rattle.bajofeki_rules.specs.declared.position.Position.{Position}
use Rattle.bajofeki_rules.specs.declared.action.Action.{Action}
use Rattle.bajofeki_rules.specs.declared.action.Action.TheVariants as action
use Rattle.bajofeki_rules.specs.EnteredModes.{OneLeadsInto}
use Rattle.lalrpop_re.specs.NamedPart.{NamedPart}
use Rattle.bajofeki_rules.specs.declared.rule_text.RuleText.TheVariants as texts
use Rattle.lalrpop_rule_file.specs.Words.{IsSpan, is_blank, is_of_name}
use Rattle.lalrpop_rule_file.specs.LineText.{Literal, Escaped, Pattern, Quoted, AnyCase, FromTo}
use Rattle.lalrpop_rule_file.specs.RuleLine.{Entry, Mode, Push, word_of, WrittenRule, bare, These, Start, a_bracket, a_blank, a_mode, a_name, an_end, an_entry, lexeme_then, nothing}
use Rattle.lalrpop_rule_file.specs.RuleFault.{StopsBefore}
use Rattle.lalrpop_rule_file.specs.FileModes.{Said, Nothing, Heading, Define, Rule, AreModes, initial, modes_of}
use Rattle.lalrpop_rule_file.specs.RuleFile.{without_mark, without_return, IsBlankOrComment, IsTextLine, Says, LineSays, LinesSay, AreRules, AreRulesBelow, IsFileRule, NamesMode, IsText, HasParts, IsTextColumn, ArePlaces, ArePlacesFrom, IsFirstBad, IsLineFault, IsNoMode, IsFirstNoMode, IsRuleFileError}
use Rattle.lalrpop_rule_file.specs.declared.file_rule.FileRule.{FileRule}
use Rattle.lalrpop_rule_file.specs.declared.error.LineFault.TheVariants.{CarriageReturn, NoEquals}
use Rattle.lalrpop_rule_file.specs.declared.error.RuleFileError.TheVariants.{BadLine, OutOfMemory}
use Rattle.lalrpop_rule_file.specs.Internal.Stops.{NoActionAt}
use Rattle.lalrpop_rule_file.proofs.Stopping.{no_equals}
use Rattle.lalrpop_rule_file.proofs.StoppingLaws.{IsLineFault-unique, stops_at_no_part, stops_at_no_rule, stops_at_no_section}

-- one mark at the beginning is left out, and nothing else
mark_at_the_beginning : without_mark (239 ∷ 187 ∷ 191 ∷ codes "a") ≡ codes "a"
mark_at_the_beginning = refl

two_marks : without_mark (239 ∷ 187 ∷ 191 ∷ 239 ∷ 187 ∷ 191 ∷ []) ≡ 239 ∷ 187 ∷ 191 ∷ []
two_marks = refl

mark_inside : without_mark (97 ∷ 239 ∷ 187 ∷ 191 ∷ []) ≡ 97 ∷ 239 ∷ 187 ∷ 191 ∷ []
mark_inside = refl

part_of_a_mark : without_mark (239 ∷ 187 ∷ []) ≡ 239 ∷ 187 ∷ []
part_of_a_mark = refl

-- one carriage return at the end isn't part of a line
return_at_the_end : without_return (codes "a\r") ≡ codes "a"
return_at_the_end = refl

return_inside : without_return (codes "a\rb") ≡ codes "a\rb"
return_inside = refl

two_returns : without_return (codes "\r\r") ≡ codes "\r"
two_returns = refl

-- ---- what lines say

blank_line : IsBlankOrComment (codes " ")
blank_line = inl (refl, tt)

comment_behind_a_blank : IsBlankOrComment (codes "\t# a")
comment_behind_a_blank = inr (codes "\t", (codes " a", (refl, (refl, tt))))

letter_is_no_comment : ¬ IsBlankOrComment (codes "x")
letter_is_no_comment (inl h) = false≢true h.0
letter_is_no_comment (inr ([], (comment, (parts, blanks)))) = let k : 120 ≡ 35 = ap (λ (x : List ℕ). get_or x 0 0) parts in omega (arith, k)
letter_is_no_comment (inr (b ∷ lead, (comment, (parts, blanks)))) =
    let k : 120 ≡ b = ap (λ (x : List ℕ). get_or x 0 0) parts in false≢true (blank_letter b k ∙ blanks.0)
  where
    blank_letter : (c : ℕ) → 120 ≡ c → false ≡ is_blank c
    blank_letter c e = ap is_blank e

empty_line_says_nothing : LineSays [] Nothing
empty_line_says_nothing = ((([], (refl, refl)), tt), inl tt)

section_line : Says (codes "[A]") (Heading (These (codes "A" ∷ [])))
section_line =
    let word : IsSpan is_of_name (codes "A]") (codes "A") (codes "]") = record { parts = refl; passes = (refl, tt); stops = refl } in
    lexeme_then a_bracket (lexeme_then (a_mode refl word) (lexeme_then an_end nothing))

-- a name alone isn't a rule: it stops after its name
no_action_in_nothing : NoActionAt []
no_action_in_nothing behind = (λ span. absurd (cc span.parts), λ entry. no_word entry)
  where
    no_word : (entry : Entry) → ¬ IsSpan is_of_name [] (word_of entry) behind
    no_word Mode span = absurd (cc span.parts)
    no_word Push span = absurd (cc span.parts)

x_stops : StopsBefore Start (codes "x") [] NoEquals
x_stops =
    let word : IsSpan is_of_name (codes "x") (codes "x") [] = record { parts = refl; passes = (refl, tt); stops = refl } in
    no_equals Start (codes "x") (bare (codes "x")) [] [] NoEquals (lexeme_then (a_name refl word) nothing) refl (λ right e. absurd (cc)) no_action_in_nothing (λ name e behind span. absurd (cc span.parts)) (λ name e behind span. absurd (cc span.parts)) (refl, refl)

x_says_nothing : (said : Said) → ¬ LineSays (codes "x") said
x_says_nothing Nothing h = letter_is_no_comment h.1
x_says_nothing (Heading section) h = stops_at_no_section (codes "x") [] NoEquals section x_stops h.1
x_says_nothing (Define part) h = stops_at_no_part (codes "x") [] NoEquals part x_stops h.1
x_says_nothing (Rule rule) h = stops_at_no_rule (codes "x") [] NoEquals rule x_stops h.1

no_lines_say_nothing : LinesSay [] []
no_lines_say_nothing = tt

line_left_out : ¬ LinesSay ([] ∷ []) []
line_left_out h = h

-- ---- the rules

empty_file : AreRules [] (codes "INITIAL" ∷ []) []
empty_file = record { said = []; lines_say = tt; are_modes = refl; are_rules = tt; are_known = refl }

no_file_without_modes : ¬ AreRules [] [] []
no_file_without_modes are = no_modes are.said are.lines_say are.are_modes
  where
    no_modes : (said : List Said) → LinesSay [] said → [] ≡ modes_of said → ⊥
    no_modes [] say e = absurd (cc)
    no_modes (s ∷ said) say e = absurd say

bad_line_is_not_passed_over : (modes : List (List ℕ)) (rs : List FileRule) → ¬ AreRules (codes "x" ∷ []) modes rs
bad_line_is_not_passed_over modes rs are = no_line are.said are.lines_say
  where
    no_line : (said : List Said) → ¬ LinesSay (codes "x" ∷ []) said
    no_line [] say = say
    no_line (s ∷ said) say = x_says_nothing s say.0

rule_left_out : (modes : List (List ℕ)) (w : WrittenRule) → ¬ AreRulesBelow modes initial (Rule w ∷ []) []
rule_left_out modes w are = are

literal_of_a_rule : (text : Bor (List ℕ)) → IsText (texts.Literal text) (Quoted Literal text.now)
literal_of_a_rule text = refl

-- a literal with escapes stays as it is written, and is no plain one
escapes_of_a_rule : (text : Bor (List ℕ)) → IsText (texts.Escaped text) (Quoted Escaped text.now) × ¬ IsText (texts.Literal text) (Quoted Escaped text.now)
escapes_of_a_rule text = (refl, λ e. absurd (cc))

any_case_of_a_rule : (text : Bor (List ℕ)) → IsText (texts.AnyCase text) (AnyCase text.now) × ¬ IsText (texts.Literal text) (AnyCase text.now)
any_case_of_a_rule text = (refl, λ e. absurd (cc))

start_and_end_of_a_rule : (start end : Bor (List ℕ)) → IsText (texts.FromTo start end) (FromTo start.now end.now)
start_and_end_of_a_rule start end = refl

-- as it is written, a pattern has no parts
no_parts_in_a_rule : (text : Bor (List ℕ)) (parts : Bor (List NamedPart)) → ¬ IsText (texts.PatternWith text parts) (Quoted Pattern text.now)
no_parts_in_a_rule text parts is = is

-- where there are no parts, a pattern has none, but is one with parts
no_parts_for_a_pattern : (text : Bor (List ℕ)) (parts : Bor (List NamedPart)) → parts.now ≡ [] → HasParts [] (texts.Pattern text) (texts.PatternWith text parts) × ¬ HasParts [] (texts.Pattern text) (texts.Pattern text)
no_parts_for_a_pattern text parts none = ((refl, none), λ has. has)

-- a pattern with parts has all of these
other_parts_for_a_pattern : (p q : NamedPart) (text : Bor (List ℕ)) (parts : Bor (List NamedPart)) → parts.now ≡ p ∷ [] → ¬ HasParts (p ∷ q ∷ []) (texts.Pattern text) (texts.PatternWith text parts)
other_parts_for_a_pattern p q text parts one has = let k : 2 ≡ 1 = ap length (sym has.1 ∙ one) in omega (arith, k)

parts_left_out : (p : NamedPart) (text : Bor (List ℕ)) → ¬ HasParts (p ∷ []) (texts.Pattern text) (texts.Pattern text)
parts_left_out p text has = has

literal_has_no_parts : (p : NamedPart) (text : Bor (List ℕ)) → HasParts (p ∷ []) (texts.Literal text) (texts.Literal text)
literal_has_no_parts p text = refl

-- a rule of the first section stands in the mode with the number 0
rule_of_a_section : (w : WrittenRule) (r : FileRule) → IsFileRule (codes "A" ∷ []) (These (codes "A" ∷ [])) w r → r.modes.items ≡ 1 ∷ [] → ⊥
rule_of_a_section w r is one = let e = subst (AreModes (codes "A" ∷ []) (These (codes "A" ∷ []))) one is.in_modes in absurd (cc e.0)

mode_of_its_own_is_named : (r : FileRule) → r.modes.items ≡ 2 ∷ [] → NamesMode r 2
mode_of_its_own_is_named r e = inl (subst (λ (ms : List ℕ). Contains ms 2) (sym e) (0, omega arith, refl))

mode_it_leads_into_is_named : (r : FileRule) → r.actions.items ≡ action.Push 3 ∷ [] → NamesMode r 3
mode_it_leads_into_is_named r e = inr (subst (λ (acts : List Action). OneLeadsInto acts 3) (sym e) (inl refl))

-- ---- places

-- in `A = 'x' ` the text begins in column 6, after its first delimiter
text_in_column_6 : IsTextColumn (codes "A = 'x' ") (Quoted Literal (codes "x")) 6
unfolding chars
text_in_column_6 = record { front = codes "A = '"; here = codes "x' "; parts = refl; begins = (codes " ", (refl, (refl, tt))); counted = refl }

no_lines_have_no_places : ArePlacesFrom 1 [] [] []
no_lines_have_no_places = tt

line_without_a_rule : (n : ℕ) (line : List ℕ) (p : Position) → ¬ ArePlacesFrom n (line ∷ []) (Nothing ∷ []) (p ∷ [])
line_without_a_rule n line p are = are

-- places count lines from 1
no_place_on_line_0 : (line : List ℕ) (w : WrittenRule) (p : Position) → p.line ≡ 0 → ¬ ArePlacesFrom 1 (line ∷ []) (Rule w ∷ []) (p ∷ [])
no_place_on_line_0 line w p none are = omega (arith, none, are.0.0)

empty_file_has_no_places : ArePlaces [] []
empty_file_has_no_places = ([], (tt, tt))

-- ---- errors

-- of an empty line and `x` the second is the first bad one
first_bad_line : IsFirstBad ([] ∷ codes "x" ∷ []) 2
first_bad_line = ((Nothing, empty_line_says_nothing), x_says_nothing)

empty_line_is_not_bad : ¬ IsFirstBad ([] ∷ codes "x" ∷ []) 1
empty_line_is_not_bad h = h Nothing empty_line_says_nothing

no_line_0 : ¬ IsFirstBad (codes "x" ∷ []) 0
no_line_0 h = h

line_behind_a_bad_one : ¬ IsFirstBad (codes "x" ∷ codes "x" ∷ []) 2
line_behind_a_bad_one h = x_says_nothing h.0.0 h.0.1

x_is_text : IsUtf8 (codes "x")
unfolding encode
x_is_text = (codes "x", (refl, refl))

x_fault : IsLineFault (codes "x") 2 NoEquals
unfolding chars
x_fault = ((x_is_text, (refl, tt)), (codes "x", ([], (refl, (refl, x_stops)))))

-- a carriage return that ends no line
return_alone : IsLineFault (codes "a\rb") 2 CarriageReturn
unfolding chars encode
return_alone = ((codes "a\rb", (refl, refl)), (codes "a", (codes "b", (record { parts = refl; passes = (refl, tt); stops = refl }, refl))))

return_that_ends_it : IsTextLine (codes "a\r")
unfolding encode
return_that_ends_it = ((codes "a\r", (refl, refl)), (refl, tt))

one_too_many : ¬ IsTextLine (codes "\r\r")
one_too_many text = false≢true text.1.0

error_of_a_file : IsRuleFileError (codes "\nx") (BadLine 2 2 NoEquals)
error_of_a_file = (first_bad_line, (codes "x", (refl, x_fault)))

not_in_the_first_column : ¬ IsLineFault (codes "x") 1 NoEquals
not_in_the_first_column fault = let k : 1 ≡ 2 = (IsLineFault-unique (codes "x") 1 2 NoEquals NoEquals fault x_fault).0 in omega (arith, k)

-- the mode `B` of `A push B` is told in column 8
missing_mode : IsNoMode [] (codes "A push B") 8
unfolding chars
missing_mode =
    let name : IsSpan is_of_name (codes "A push B") (codes "A") (codes " push B") = record { parts = refl; passes = (refl, tt); stops = refl } in
    let word : IsSpan is_of_name (codes "push B") (codes "push") (codes " B") = record { parts = refl; passes = (refl, (refl, (refl, (refl, tt)))); stops = refl } in
    record {
      front = codes "A push ";
      here = codes "B";
      mode = codes "B";
      rest = [];
      head = bare (codes "A");
      entry = Push;
      parts = refl;
      reads = lexeme_then (a_name refl name) (lexeme_then (a_blank refl) (lexeme_then (an_entry Push word) (lexeme_then (a_blank refl) nothing)));
      named = (refl, record { parts = refl; passes = (refl, tt); stops = refl });
      within = tt;
      missing = λ there. omega (arith, there.1);
      counted = refl;
    }

no_missing_mode_in_no_lines : (modes : List (List ℕ)) (n column : ℕ) → ¬ IsFirstNoMode modes [] [] n column
no_missing_mode_in_no_lines modes n column h = h

-- lines count from 1
missing_mode_on_line_0 : (modes : List (List ℕ)) (line : List ℕ) (s : Said) (column : ℕ) → ¬ IsFirstNoMode modes (line ∷ []) (s ∷ []) 0 column
missing_mode_on_line_0 modes line Nothing column h = h
missing_mode_on_line_0 modes line (Heading section) column h = h
missing_mode_on_line_0 modes line (Define part) column h = h
missing_mode_on_line_0 modes line (Rule rule) column h = h

refused_memory_is_right : (bytes : List ℕ) → IsRuleFileError bytes OutOfMemory
refused_memory_is_right bytes = tt
