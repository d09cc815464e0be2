-- Cases of specs/Internal/Ahead.antt.
use Rattle.std.proofs.Common.{◌≡◌, ℕ, List, [], ◌∷◌, ◌++◌, true, false, replicate, take, refl, inl, arith}
use Rattle.std.specs.Prelude.{Some, None}
use Rattle.lalrpop_dense.specs.DenseTable.{TableNumbers}
use Rattle.lalrpop_emit.specs.Ahead.{within_column, standing_after, is_end, is_waiting, rule_at, by_column}
use Rattle.lalrpop_emit.specs.Internal.Columns.{AreColumns}
use Rattle.lalrpop_emit.proofs.AheadTokens.{IsNextEnd}
use Rattle.lalrpop_emit.specs.Ahead.Standing.{Begin, Lost, Ended, In, Again}

-- one class each for `a` and `b`, and one for the rest; a row that is dead, that of the start, and one for each of the two rules
abbrev a_or_b : TableNumbers
a_or_b = record {
  blocks = replicate 97 0 ++ 1 ∷ 2 ∷ replicate 29 0;
  pages = 0 ∷ [];
  start = 4;
  width = 3;
  live = 4;
  accept = 8;
  cells = 0 ∷ 0 ∷ 0 ∷ 0 ∷ 0 ∷ 8 ∷ 12 ∷ 0 ∷ 0 ∷ 0 ∷ 0 ∷ 0 ∷ 0 ∷ 0 ∷ 0 ∷ 1 ∷ [];
}

-- ---- columns

-- `é` has the column of its class, and that of a byte within a character
columns_of_two_bytes : AreColumns a_or_b 133 0 (0xC3 ∷ 0xA9 ∷ []) (128 ∷ 131 ∷ [])
unfolding lib.Utf8.encode
columns_of_two_bytes = inl (0xE9, (record { scalar = refl; rest = []; split = refl }, refl, (refl, tt)))

-- the class of `é` is that of all characters beyond ASCII, so no other needs a column
columns_of_one_class : AreColumns a_or_b 131 0 (0xC3 ∷ 0xA9 ∷ []) (128 ∷ 129 ∷ [])
unfolding lib.Utf8.encode
columns_of_one_class = inl (0xE9, (record { scalar = refl; rest = []; split = refl }, refl, (refl, tt)))

-- what follows the text is bad
columns_past_the_end : AreColumns a_or_b 133 0 [] (132 ∷ 132 ∷ [])
columns_past_the_end = (refl, (refl, tt))

no_character_past_the_end : ¬ AreColumns a_or_b 133 0 [] (97 ∷ [])
no_character_past_the_end h = omega (arith, h.0)

no_character_within_one : ¬ AreColumns a_or_b 133 1 (0xA9 ∷ []) (128 ∷ [])
no_character_within_one h = omega (arith, h.0)

-- ---- standings

open_after_a : standing_after a_or_b 133 (97 ∷ []) ≡ In 8
open_after_a = refl

rule_of_a : rule_at a_or_b (standing_after a_or_b 133 (97 ∷ [])) ≡ Some 0
rule_of_a = refl

-- `a` ends before `b`, which opens the next token
next_opens : standing_after a_or_b 133 (97 ∷ 98 ∷ []) ≡ Again 12
next_opens = refl

ended_before_b : is_end (standing_after a_or_b 133 (97 ∷ 98 ∷ [])) ≡ true
ended_before_b = refl

-- the text ends after `a`
ended_before_the_end : standing_after a_or_b 133 (97 ∷ 132 ∷ []) ≡ Ended
ended_before_the_end = refl

-- the same, where only one class has a column
ended_by_the_last_column : standing_after a_or_b 131 (97 ∷ 130 ∷ []) ≡ Ended
ended_by_the_last_column = refl

-- `c` is in no token
lost_at_c : standing_after a_or_b 133 (99 ∷ []) ≡ Lost
lost_at_c = refl

no_rule_at_c : rule_at a_or_b (standing_after a_or_b 133 (99 ∷ [])) ≡ None
no_rule_at_c = refl

-- where nothing was open, the token that opens counts as an end too: what lies before it has no rule
opens_after_c : standing_after a_or_b 133 (99 ∷ 97 ∷ []) ≡ Again 8
opens_after_c = refl

not_ended_within_a_character : is_end (by_column a_or_b 133 (In 8) (within_column 133)) ≡ false
not_ended_within_a_character = refl

-- the row at 4 accepts nothing
waits_at_4 : is_waiting a_or_b (In 4) ≡ true
waits_at_4 = refl

not_waiting_after_a : is_waiting a_or_b (In 8) ≡ false
not_waiting_after_a = refl

-- a token ended before the last byte, so another is open but this row isn't one that waits
not_waiting_where_one_ended : is_waiting a_or_b (Again 4) ≡ false
not_waiting_where_one_ended = refl

not_waiting_at_the_beginning : is_waiting a_or_b Begin ≡ false
not_waiting_at_the_beginning = refl

-- ---- from end to end

-- in `ab` the first token ends at 1, the second at 2
abbrev columns_of_ab : List ℕ
columns_of_ab = 97 ∷ 98 ∷ 132 ∷ []

first_end : IsNextEnd a_or_b 133 columns_of_ab 0 1
first_end = record { further = omega arith; inside = omega arith; ends = refl; none_between = λ z above below. omega (arith, above, below) }

second_end : IsNextEnd a_or_b 133 columns_of_ab 1 2
second_end = record { further = omega arith; inside = omega arith; ends = refl; none_between = λ z above below. omega (arith, above, below) }

none_is_passed_over : ¬ IsNextEnd a_or_b 133 columns_of_ab 0 2
none_is_passed_over h = h.none_between 1 (omega arith) (omega arith) refl

rule_of_b : rule_at a_or_b (standing_after a_or_b 133 (take 2 columns_of_ab)) ≡ Some 1
rule_of_b = refl
