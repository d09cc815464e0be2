-- Cases of specs/Picture.antt.
use Rattle.std.proofs.Common.{◌≡◌, ◌≢◌, ℕ, true, false, List, [], ◌∷◌, ◌++◌, length, get_or, replicate, codes, refl, ap, arith}
use Rattle.std.specs.Prelude.{None, Some, encode_utf8}
use Rattle.std.specs.Fmt.{digits}
use Rattle.std.specs.Str.{chars}
use Rattle.lalrpop_hir.specs.Range.{Range}
use Rattle.lalrpop_dfa.specs.Dfa.{Row}
use Rattle.lalrpop_dfa.specs.declared.Kind.TheVariants.{Accepts, Reject, Neither}
use Rattle.lalrpop_verdicts.specs.Picture.{accepting_line, as_itself, code_text, distinct, dot, edge_line, is_coded, label, name_character, name_text, range_text, row_edges, shortened, state_line, title_line, value_text}

-- ---- characters

e_with_an_acute : value_text 233 ≡ codes "U+00E9"
unfolding value_text code_text digits
e_with_an_acute = refl

beyond_the_first_plane : value_text 128512 ≡ codes "U+1F600"
unfolding value_text code_text digits
beyond_the_first_plane = refl

space_is_not_seen : value_text 32 ≡ codes "U+0020"
unfolding value_text code_text digits
space_is_not_seen = refl

line_feed : value_text 10 ≡ codes "\\\\n"
unfolding value_text
line_feed = refl

letter : value_text 97 ≡ codes "a"
unfolding value_text as_itself lib.Utf8.encode
letter = refl

quote_and_backslash : value_text 34 ++ value_text 92 ≡ codes "\\\"\\\\"
unfolding value_text as_itself
quote_and_backslash = refl

-- Graphviz reads entities in labels
ampersand : value_text 38 ≡ codes "&amp;"
unfolding value_text as_itself
ampersand = refl

quote_is_not_written_alone : name_character 34 ≢ codes "\""
unfolding name_character as_itself
quote_is_not_written_alone e = let n : 2 ≡ 1 = ap length e in omega (arith, n)

-- ---- labels

abbrev range : ℕ → ℕ → Range
range a b = record { start = a; end = b }

one_two_and_more : (range_text (range 97 97) ≡ codes "a") × (range_text (range 97 98) ≡ codes "ab") × (range_text (range 97 122) ≡ codes "a-z")
unfolding range_text value_text as_itself lib.Utf8.encode
one_two_and_more = (refl, refl, refl)

two_codes : range_text (range 0x2028 0x2029) ≡ codes "U+2028-U+2029"
unfolding range_text value_text code_text digits
two_codes = refl

a_code_and_a_character : (range_text (range 32 33) ≡ codes "U+0020-!") × (range_text (range 126 127) ≡ codes "~-U+007F")
unfolding range_text value_text code_text as_itself digits lib.Utf8.encode
a_code_and_a_character = (refl, refl)

tab_and_line_feed : range_text (range 9 10) ≡ codes "\\\\t\\\\n"
unfolding range_text value_text
tab_and_line_feed = refl

just_codes_are_coded : (is_coded 32 ≡ true) × (is_coded 127 ≡ true) × (is_coded 10 ≡ false) × (is_coded 97 ≡ false)
just_codes_are_coded = (refl, refl, refl, refl)

two_codes_are_not_side_by_side : range_text (range 0x2028 0x2029) ≢ codes "U+2028U+2029"
unfolding range_text value_text code_text digits
two_codes_are_not_side_by_side e = let n : 13 ≡ 12 = ap length e in omega (arith, n)

-- a and c to state 1, b to state 2
abbrev tests : List (Range × ℕ)
tests = (range 97 97, 1) ∷ (range 98 98, 2) ∷ (range 99 99, 1) ∷ []

ranges_are_joined : label tests 0 1 ≡ codes "a c"
unfolding label shortened range_text value_text as_itself lib.Utf8.encode
ranges_are_joined = refl

other_comes_last : label tests 1 1 ≡ codes "a c other"
unfolding label shortened range_text value_text as_itself lib.Utf8.encode
other_comes_last = refl

other_alone : label tests 3 3 ≡ codes "other"
unfolding label shortened
other_alone = refl

twelve_are_shown : shortened (replicate 12 (codes "a")) ≡ replicate 12 (codes "a")
unfolding shortened
twelve_are_shown = refl

fifteen_are_not : shortened (replicate 15 (codes "a")) ≡ replicate 12 (codes "a") ++ codes "+3" ∷ []
unfolding shortened digits
fifteen_are_not = refl

-- ---- edges and states

each_where_it_comes_first : distinct (2 ∷ 1 ∷ 2 ∷ 0 ∷ 1 ∷ []) ≡ 2 ∷ 1 ∷ 0 ∷ []
each_where_it_comes_first = refl

not_where_it_comes_last : distinct (2 ∷ 1 ∷ 2 ∷ []) ≢ 1 ∷ 2 ∷ []
not_where_it_comes_last e = let n : 2 ≡ 1 = ap (λ (qs : List ℕ). get_or qs 0 0) e in omega (arith, n)

abbrev starting : Row
starting = record { kind = Neither; tests = (range 97 122, 1) ∷ []; other = 2; items = [] }

abbrev accepting : Row
accepting = record { kind = Accepts 0; tests = (range 34 34, 0) ∷ (range 97 97, 2) ∷ []; other = 1; items = [] }

abbrev rejecting : Row
rejecting = record { kind = Reject; tests = (range 97 97, 1) ∷ []; other = 0; items = [] }

-- no edge leads to a state that rejects, nor from one
picture : dot (Some (codes "a\"")) (codes "word" ∷ []) (starting ∷ accepting ∷ rejecting ∷ [])
    ≡ codes "digraph {\n  rankdir=LR;\n  node [shape=circle];\n  nowhere [shape=none, label=\"\", width=0, height=0];\n  nowhere -> 0;\n"
    ++ codes "  label=\"a\\\"\";\n  0;\n  1 [shape=doublecircle, label=\"1\\nword\"];\n"
    ++ codes "  0 -> 1 [label=\"a-z\"];\n  1 -> 0 [label=\"\\\"\"];\n  1 -> 1 [label=\"other\"];\n}\n"
unfolding dot title_line state_line accepting_line name_text name_character row_edges edge_line label shortened range_text value_text as_itself digits chars lib.Utf8.encode
picture = refl

-- without a title there is no line for one, not an empty title
no_title : title_line None ≡ []
unfolding title_line
no_title = refl

pattern_without_a_name : name_text (codes "word" ∷ []) 7 ≡ codes "7"
unfolding name_text digits
pattern_without_a_name = refl

accepting_state_is_not_drawn_as_others : state_line [] 1 (Accepts 0) ≢ state_line [] 1 Neither
unfolding state_line accepting_line name_text digits
accepting_state_is_not_drawn_as_others e = let n : 32 ≡ 59 = ap (λ (text : List ℕ). get_or text 3 0) e in omega (arith, n)

-- the edges from a state are shown with it
edges_are_not_left_out : row_edges (starting ∷ accepting ∷ []) 0 starting ≢ []
unfolding row_edges edge_line label shortened range_text value_text as_itself digits lib.Utf8.encode
edges_are_not_left_out e = let n : 32 ≡ 0 = ap (λ (text : List ℕ). get_or text 0 0) e in omega (arith, n)
