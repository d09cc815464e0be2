-- Cases of specs/ReviewLines.antt.
use Rattle.std.proofs.Common.{◌≡◌, ◌≢◌, ℕ, ◌<◌, ◌^◌, true, false, List, [], ◌∷◌, ◌++◌, length, Some, None, codes, refl, ap, arith}
use Rattle.std.specs.Fmt.{digits}
use Rattle.std.specs.declared.alloc.Global.{Global}
use Rattle.std.specs.declared.vec.Vec.{Vec}
use denote.RawPtr.{null_ptr}
use Rattle.ucd_category.proofs.Computing.{ucd_category}
use Rattle.ucd_derived.proofs.Computing.{ucd_derived}
use Rattle.json.specs.Print.{print_from, escape_byte}
use Rattle.lalrpop_hir.specs.Clashes.{Entry}
use Rattle.lalrpop_dfa.specs.Witness.{OpenMatch}
use Rattle.lalrpop_review.specs.declared.idle.IdleRule.{IdleRule}
use Rattle.lalrpop_review.specs.declared.look.Look.TheVariants.{AtMost, Unbounded}
use Rattle.lalrpop_review.specs.declared.mode.ModeReview.{ModeReview}
use Rattle.lalrpop_review.specs.declared.whole.Review.{Review}
use Rattle.lalrpop_verdicts.specs.WonWord.{WonWord}
use Rattle.reports_lib.specs.ReportedFile.{ReportedFile}
use Rattle.reports_lib.proofs.JsonLaws.{line_as_is}
use Rattle.reviews_lib.specs.ReviewLines.{place_text, empty_line, winner_text, winners_text, idle_reason, idle_line, pair_text, clash_line, states_text, characters_text, after_text, witness_text, rules_text, look_text, mode_before, automaton_line, empty_told, idle_told, automaton_told, clash_told, by_mode, is_only_empty, idle_once, mode_told, review_told, review_text, clashes_told, clash_report, has_idle, has_findings}
use Rattle.lexdfa_lib.specs.declared.layout.LineForm.TheVariants.{Plain, Json}

-- two rules, IF in line 1 and NAME in line 2, and two modes
abbrev two : ReportedFile
two = record {
  file = codes "f";
  modes = codes "A" ∷ codes "B" ∷ [];
  names = codes "IF" ∷ codes "NAME" ∷ [];
  places = record { line = 1; column = 6 } ∷ record { line = 2; column = 8 } ∷ [];
}

-- NAME wins the word `if`, and IF the word `i`
abbrev name_wins : WonWord
name_wins = record { by = 1; word = 105 ∷ 102 ∷ [] }

abbrev if_wins : WonWord
if_wins = record { by = 0; word = 105 ∷ [] }

abbrev clash : Entry
clash = record { match0 = 1; match1 = 0; word = 105 ∷ 102 ∷ [] }

-- ---- rules

place_of_name : place_text two 1 ≡ codes "f:2:8: "
unfolding digits
place_of_name = refl

-- a rule that isn't there
place_of_no_rule : place_text two 2 ≡ codes "f:1:1: "
unfolding digits
place_of_no_rule = refl

name_is_empty : empty_line two 1 ≡ codes "f:2:8: NAME matches the empty text, and no token is empty\n"
unfolding digits
name_is_empty = refl

one_winner : winner_text two name_wins ≡ codes "NAME wins \"if\""
unfolding lib.Utf8.encode ucd_category ucd_derived
one_winner = refl

two_winners : winners_text two (if_wins ∷ name_wins ∷ []) ≡ codes "IF wins \"i\", NAME wins \"if\""
unfolding lib.Utf8.encode ucd_category ucd_derived
two_winners = refl

-- not without the last
last_winner : winners_text two (if_wins ∷ name_wins ∷ []) ≢ winners_text two (if_wins ∷ [])
unfolding lib.Utf8.encode ucd_category ucd_derived
last_winner e = let n : 27 ≡ 11 = ap length e in omega (arith, n)

never_wins : idle_reason two (Some (codes "A")) (name_wins ∷ []) ≡ codes " never wins in mode A: NAME wins \"if\""
unfolding lib.Utf8.encode ucd_category ucd_derived
never_wins = refl

matches_nothing : (idle_reason two None [] ≡ codes " matches no nonempty text") × (idle_reason two (Some (codes "A")) [] ≡ codes " matches no nonempty text in mode A")
matches_nothing = (refl, refl)

one_pair : pair_text two None 1 0 ≡ codes "NAME clashes with IF of line 1"
unfolding digits
one_pair = refl

clash_in_a_mode : clash_line two (Some (codes "A")) clash ≡ codes "f:2:8: NAME clashes with IF of line 1 in mode A: both match \"if\", and neither wins\n"
unfolding digits lib.Utf8.encode ucd_category ucd_derived
clash_in_a_mode = refl

-- the mode is told
clash_without_its_mode : clash_line two (Some (codes "A")) clash ≢ clash_line two None clash
unfolding digits lib.Utf8.encode ucd_category ucd_derived
clash_without_its_mode e = let n : 83 ≡ 73 = ap length e in omega (arith, n)

-- ---- the automaton of a mode

numbers_of_states : (states_text 1 ≡ codes "1 state") × (states_text 0 ≡ codes "0 states") × (states_text 24 ≡ codes "24 states")
unfolding digits
numbers_of_states = (refl, refl, refl)

-- one more than the count
numbers_of_characters : (characters_text 0 ≡ codes "1 character is") × (characters_text 1 ≡ codes "2 characters are") × (characters_text 9 ≡ codes "10 characters are")
unfolding digits
numbers_of_characters = (refl, refl, refl)

-- the token `1` is left open by `e+`
left_open : after_text (49 ∷ []) (101 ∷ 43 ∷ []) ≡ codes ", as after \"1\" when \"e+\" follows"
unfolding lib.Utf8.encode ucd_category ucd_derived
left_open = refl

left_open_by_nothing : after_text (49 ∷ []) [] ≡ []
left_open_by_nothing = refl

abbrev exponent : OpenMatch
exponent = record { word = 49 ∷ []; after = 101 ∷ [] }

with_a_witness : witness_text (Some exponent) ≡ codes ", as after \"1\" when \"e\" follows"
unfolding lib.Utf8.encode ucd_category ucd_derived
with_a_witness = refl

with_no_witness : witness_text None ≡ []
with_no_witness = refl

names_of_rules : (rules_text two (0 ∷ 1 ∷ []) ≡ codes "IF, NAME") × (rules_text two (1 ∷ []) ≡ codes "NAME")
names_of_rules = (refl, refl)

bounded : look_text two (AtMost 1 (Some exponent)) ≡ codes "at most 2 characters are read past a token, as after \"1\" when \"e\" follows"
unfolding digits lib.Utf8.encode ucd_category ucd_derived
bounded = refl

bounded_by_one : look_text two (AtMost 0 None) ≡ codes "at most 1 character is read past a token"
bounded_by_one = refl

mode_at_the_front : (mode_before (Some (codes "A")) ≡ codes "mode A: ") × (mode_before None ≡ [])
mode_at_the_front = (refl, refl)

module _ (alloc : Global) where
  -- a vector of these elements
  abbrev vector : {X : Type 0} (xs : List X) → length xs < 2 ^ 63 → Vec X Global
  vector xs small = record { ptr = null_ptr; len = length xs; cap = length xs; alloc = alloc; items = xs; ok = (refl, omega arith); small = small }

  -- IF never wins
  abbrev idle_if : IdleRule
  idle_if = record { rule = 0; winners = vector (name_wins ∷ []) (omega arith) }

  abbrev smallest : ModeReview
  smallest = record { idle = vector [] (omega arith); least_states = 4; look = AtMost 0 None }

  abbrev mode_of_if : ModeReview
  mode_of_if = record { idle = vector (idle_if ∷ []) (omega arith); least_states = 3; look = AtMost 0 None }

  if_never_wins : idle_line two None idle_if ≡ codes "f:1:6: IF never wins: NAME wins \"if\"\n"
  unfolding digits lib.Utf8.encode ucd_category ucd_derived
  if_never_wins = refl

  unbounded : look_text two (Unbounded (vector (0 ∷ 1 ∷ []) (omega arith))) ≡ codes "any number of characters is read past a token of IF, NAME"
  unbounded = refl

  size_of_a_mode : automaton_line two (Some (codes "A")) mode_of_if ≡ codes "f: mode A: 3 states in the smallest automaton; at most 1 character is read past a token\n"
  unfolding digits
  size_of_a_mode = refl

  -- ---- the whole

  -- a line of either form
  empty_in_json : empty_told Json two 1 ≡ codes "{\"file\":\"f\",\"line\":2,\"column\":8,\"kind\":\"matches-empty\",\"rule\":\"NAME\"}\n"
  unfolding digits print_from escape_byte
  empty_in_json = line_as_is _ refl

  empty_in_plain : empty_told Plain two 1 ≡ empty_line two 1
  empty_in_plain = refl

  idle_in_plain : idle_told Plain two None idle_if ≡ idle_line two None idle_if
  idle_in_plain = refl

  automaton_in_plain : automaton_told Plain two None smallest ≡ automaton_line two None smallest
  automaton_in_plain = refl

  clash_in_plain : clash_told Plain two None clash ≡ clash_line two None clash
  clash_in_plain = refl

  -- the rule that never wins is told before the automaton
  one_mode : mode_told Plain two [] None mode_of_if ≡ idle_line two None idle_if ++ automaton_line two None mode_of_if
  unfolding digits lib.Utf8.encode ucd_category ucd_derived
  one_mode = refl

  -- IF matches no nonempty text
  abbrev idle_always : IdleRule
  idle_always = record { rule = 0; winners = vector [] (omega arith) }

  only_empty : (is_only_empty (1 ∷ 0 ∷ []) idle_always ≡ true) × ((is_only_empty (1 ∷ []) idle_always ≡ false) × (is_only_empty (0 ∷ []) idle_if ≡ false))
  only_empty = (refl, (refl, refl))

  -- it isn't told again
  told_before : (idle_once Plain two (0 ∷ []) None idle_always ≡ []) × (idle_once Plain two [] None idle_always ≡ idle_line two None idle_always)
  told_before = (refl, refl)

  -- IF matches the empty text, and never wins in the second mode
  abbrev both : Review
  both = record { empty = vector (0 ∷ []) (omega arith); modes = vector (smallest ∷ mode_of_if ∷ []) (omega arith) }

  whole_review : review_told Plain two both
      ≡ empty_line two 0 ++ (automaton_line two (Some (codes "A")) smallest ++ (idle_line two (Some (codes "B")) idle_if ++ automaton_line two (Some (codes "B")) mode_of_if))
  unfolding digits lib.Utf8.encode ucd_category ucd_derived
  whole_review = refl

  by_its_parts : review_text Plain two.file two.modes two.names two.places both ≡ review_told Plain two both
  by_its_parts = refl

  idle_or_not : (has_idle mode_of_if ≡ true) × (has_idle smallest ≡ false)
  idle_or_not = (refl, refl)

  findings : (has_findings both ≡ true) × (has_findings (record { empty = vector [] (omega arith); modes = vector (smallest ∷ mode_of_if ∷ []) (omega arith) }) ≡ true)
  findings = (refl, refl)

  no_findings : has_findings (record { empty = vector [] (omega arith); modes = vector (smallest ∷ []) (omega arith) }) ≡ false
  no_findings = refl

-- the second mode's text stands after the first one's, each with its name
two_modes : by_mode (λ mode (text : List ℕ). mode_before mode ++ text) (codes "A" ∷ codes "B" ∷ []) 0 (codes "x" ∷ codes "y" ∷ []) ≡ codes "mode A: xmode B: y"
two_modes = refl

-- one mode isn't named
one_mode_alone : by_mode (λ mode (text : List ℕ). mode_before mode ++ text) (codes "A" ∷ []) 0 (codes "x" ∷ []) ≡ codes "x"
one_mode_alone = refl

-- the clash of the second mode
clashes : clashes_told Plain two 0 ([] ∷ (clash ∷ []) ∷ []) ≡ clash_line two (Some (codes "B")) clash
unfolding digits lib.Utf8.encode ucd_category ucd_derived
clashes = refl

clashes_by_parts : clash_report Json two.file two.modes two.names two.places 0 ([] ∷ (clash ∷ []) ∷ []) ≡ clashes_told Json two 0 ([] ∷ (clash ∷ []) ∷ [])
clashes_by_parts = refl
