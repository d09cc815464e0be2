-- Cases of specs/ReviewJson.antt.
use Rattle.std.proofs.Common.{◌≡◌, ◌≢◌, ◌<◌, ◌^◌, List, [], ◌∷◌, length, Some, None, codes, refl, arith}
use Rattle.std.specs.Fmt.{digits}
use Rattle.std.specs.declared.alloc.Global.{Global}
use Rattle.std.specs.declared.vec.Vec.{Vec}
use denote.RawPtr.{null_ptr}
use Rattle.json.specs.Token.{begin_object, end_object, key, string}
use Rattle.json.specs.Print.{print_from, escape_byte}
use Rattle.lalrpop_hir.specs.Clashes.{Entry}
use Rattle.lalrpop_dfa.specs.Witness.{OpenMatch}
use Rattle.lalrpop_review.specs.declared.idle.IdleRule.{IdleRule}
use Rattle.lalrpop_review.specs.declared.look.Look.TheVariants.{AtMost, Unbounded}
use Rattle.lalrpop_review.specs.declared.mode.ModeReview.{ModeReview}
use Rattle.lalrpop_verdicts.specs.WonWord.{WonWord}
use Rattle.reports_lib.specs.ReportedFile.{ReportedFile}
use Rattle.reviews_lib.specs.ReviewJson.{shown_value, word_text, rule_member, place_members, empty_members, winner_object, winners_member, idle_members, after_members, witness_members, unbounded_members, look_members, automaton_members, clash_members}
use Rattle.reports_lib.specs.PieceLines.{kind_member, object_line}
use Rattle.reports_lib.proofs.JsonLaws.{line_as_is}

-- two rules, IF in line 1 and NAME in line 2
abbrev two : ReportedFile
two = record {
  file = codes "f";
  modes = codes "M" ∷ [];
  names = codes "IF" ∷ codes "NAME" ∷ [];
  places = record { line = 1; column = 6 } ∷ record { line = 2; column = 8 } ∷ [];
}

-- NAME wins the word `if`
abbrev name_wins : WonWord
name_wins = record { by = 1; word = 105 ∷ 102 ∷ [] }

abbrev clash : Entry
clash = record { match0 = 1; match1 = 0; word = 105 ∷ 102 ∷ [] }

-- ---- words

-- a surrogate and a value that is too large are no characters
values : (shown_value 105 ≡ 105) × (shown_value 55296 ≡ 65533) × (shown_value 1114112 ≡ 65533)
values = (refl, refl, refl)

words : (word_text (105 ∷ 102 ∷ []) ≡ codes "if") × (word_text (55296 ∷ []) ≡ 239 ∷ 191 ∷ 189 ∷ [])
unfolding lib.Utf8.encode
words = (refl, refl)

-- ---- members

kinds : kind_member (codes "clash") ≡ key (codes "kind") ∷ string (codes "clash") ∷ []
kinds = refl

rules : rule_member two 1 ≡ key (codes "rule") ∷ string (codes "NAME") ∷ []
rules = refl

places : object_line (place_members two 1) ≡ codes "{\"file\":\"f\",\"line\":2,\"column\":8}\n"
unfolding digits print_from escape_byte
places = line_as_is _ refl

-- ---- objects

name_is_empty : object_line (empty_members two 1) ≡ codes "{\"file\":\"f\",\"line\":2,\"column\":8,\"kind\":\"matches-empty\",\"rule\":\"NAME\"}\n"
unfolding digits print_from escape_byte
name_is_empty = line_as_is _ refl

-- a winner has its text
one_winner : winner_object two name_wins ≡ begin_object ∷ key (codes "rule") ∷ string (codes "NAME") ∷ key (codes "text") ∷ string (codes "if") ∷ end_object ∷ []
unfolding lib.Utf8.encode
one_winner = refl

one_of_the_winners : object_line (winners_member two (name_wins ∷ [])) ≡ codes "{\"winners\":[{\"rule\":\"NAME\",\"text\":\"if\"}]}\n"
unfolding digits print_from escape_byte lib.Utf8.encode
one_of_the_winners = line_as_is _ refl

no_winners : object_line (winners_member two []) ≡ codes "{\"winners\":[]}\n"
unfolding print_from escape_byte
no_winners = line_as_is _ refl

left_open : object_line (after_members (49 ∷ []) (101 ∷ 43 ∷ [])) ≡ codes "{\"after\":\"1\",\"when\":\"e+\"}\n"
unfolding print_from escape_byte lib.Utf8.encode
left_open = line_as_is _ refl

left_open_by_nothing : after_members (49 ∷ []) [] ≡ []
left_open_by_nothing = refl

abbrev exponent : OpenMatch
exponent = record { word = 49 ∷ []; after = 101 ∷ [] }

with_a_witness : witness_members (Some exponent) ≡ after_members (49 ∷ []) (101 ∷ [])
with_a_witness = refl

with_no_witness : witness_members None ≡ []
with_no_witness = refl

unbounded : object_line (unbounded_members two (0 ∷ 1 ∷ [])) ≡ codes "{\"past\":null,\"rules\":[\"IF\",\"NAME\"]}\n"
unfolding print_from escape_byte
unbounded = line_as_is _ refl

-- one more than the count
bounded : object_line (look_members two (AtMost 1 None)) ≡ codes "{\"past\":2}\n"
unfolding digits print_from escape_byte
bounded = line_as_is _ refl

clash_of_a_mode : object_line (clash_members two (Some (codes "M")) clash)
    ≡ codes "{\"file\":\"f\",\"line\":2,\"column\":8,\"kind\":\"clash\",\"rule\":\"NAME\",\"mode\":\"M\",\"other\":\"IF\",\"text\":\"if\"}\n"
unfolding digits print_from escape_byte lib.Utf8.encode
clash_of_a_mode = line_as_is _ refl

-- the earlier rule is the other one
clash_turned : clash_members two None clash ≢ clash_members two None (record { match0 = 0; match1 = 1; word = 105 ∷ 102 ∷ [] })
clash_turned e = absurd (cc (e))

module _ (alloc : Global) where
  -- a vector of these elements
  abbrev vector : {X : Type 0} (xs : List X) → length xs < 2 ^ 63 → Vec X Global
  vector xs small = record { ptr = null_ptr; len = length xs; cap = length xs; alloc = alloc; items = xs; ok = (refl, omega arith); small = small }

  abbrev idle_if : IdleRule
  idle_if = record { rule = 0; winners = vector (name_wins ∷ []) (omega arith) }

  if_never_wins : object_line (idle_members two None idle_if)
      ≡ codes "{\"file\":\"f\",\"line\":1,\"column\":6,\"kind\":\"never-wins\",\"rule\":\"IF\",\"winners\":[{\"rule\":\"NAME\",\"text\":\"if\"}]}\n"
  unfolding digits print_from escape_byte lib.Utf8.encode
  if_never_wins = line_as_is _ refl

  abbrev mode_of_two : ModeReview
  mode_of_two = record { idle = vector [] (omega arith); least_states = 3; look = Unbounded (vector (1 ∷ []) (omega arith)) }

  size_of_a_mode : object_line (automaton_members two (Some (codes "M")) mode_of_two)
      ≡ codes "{\"file\":\"f\",\"kind\":\"automaton\",\"mode\":\"M\",\"least_states\":3,\"past\":null,\"rules\":[\"NAME\"]}\n"
  unfolding digits print_from escape_byte
  size_of_a_mode = line_as_is _ refl
