-- Cases of specs/NumberedRules.antt.
use Rattle.std.proofs.Common.{◌≡◌, ℕ, zero, suc, [], ◌∷◌, codes, true, false, refl, sym, ap, arith, lit<}
use Rattle.std.proofs.lemmas.Option.{same_Some}
use Rattle.lalrpop_dense.specs.DenseTable.{TableNumbers}
use Rattle.lalrpop_rules.specs.Modes.{ModeRules}
use Rattle.bajofeki_rules.specs.declared.action.Action.TheVariants.{Mode, Push, Pop}
use Rattle.lalrpop_emit.specs.Ahead.{AheadNumbers}
use Rattle.lalrpop_emit.specs.NumberedRules.{NumberedRules, AreAheadOf, AreCounted, AreNumbersOf, AreSameInFile, IsStorable, IsStorableAhead, IsStorableTable, action_number, action_numbers, first_places, actions_of_rules, row_words, waiting_rows}

number_of_pop : action_number Pop ≡ 1
number_of_pop = refl

number_of_mode : action_number (Mode 3) ≡ 8
number_of_mode = refl

number_of_push : action_number (Push 3) ≡ 9
number_of_push = refl

-- the second rule has no actions
numbers_of_two_rules : action_numbers ((Push 1 ∷ Pop ∷ []) ∷ [] ∷ []) ≡ 5 ∷ 1 ∷ 0 ∷ 0 ∷ []
numbers_of_two_rules = refl

places_of_two_rules : first_places 0 ((Push 1 ∷ Pop ∷ []) ∷ [] ∷ []) ≡ 0 ∷ 3 ∷ []
places_of_two_rules = refl

-- two rules of one mode, the first of which has an action
abbrev two_rules : ModeRules
two_rules = record {
  names = codes "IF" ∷ codes "ID" ∷ [];
  trees = [];
  precedences = [];
  skips = [];
  actions = (Pop ∷ []) ∷ [];
  members = [];
  kinds = [];
  modes = 1;
  mode_names = [];
  automata = [];
}

no_actions_of_the_second : actions_of_rules two_rules ≡ (Pop ∷ []) ∷ [] ∷ []
no_actions_of_the_second = refl

abbrev their_numbers : NumberedRules
their_numbers = record {
  names = codes "IF" ∷ codes "A-B" ∷ [];
  kinds = 0 ∷ 65536 ∷ [];
  skips = false ∷ true ∷ [];
  first_actions = 0 ∷ 2 ∷ [];
  actions = 1 ∷ 0 ∷ 4294967296 ∷ [];
  tables = [];
  ahead = [];
}

no_mode_without_a_table : ¬ AreNumbersOf two_rules their_numbers
no_mode_without_a_table h = let none = h.modes in cc

no_kind_past_16_bits : ¬ IsStorable their_numbers
no_kind_past_16_bits h = omega (arith, h.kinds 1 0 (lit< tt))

no_action_past_32_bits : ¬ IsStorable their_numbers
no_action_past_32_bits h = omega (arith, h.actions 2 0 (lit< tt))

no_bad_name : ¬ IsStorable their_numbers
no_bad_name h = let bad = (h.names 1 [] (lit< tt)).bytes in cc

abbrev wide_table : TableNumbers
wide_table = record { blocks = 256 ∷ []; pages = []; start = 0; width = 256; live = 0; accept = 0; cells = 4294967296 ∷ [] }

no_class_past_8_bits : ¬ IsStorableTable wide_table
no_class_past_8_bits h = omega (arith, h.blocks 0 0 (lit< tt))

-- the cells of a table may be others, but not its pages
same_but_for_cells : AreSameInFile (record their_numbers { tables = wide_table ∷ [] }) (record their_numbers { tables = record wide_table { cells = [] } ∷ [] })
same_but_for_cells = record { names = refl; kinds = refl; skips = refl; first_actions = refl; actions = refl; blocks = refl; pages = refl; ahead = refl }

no_other_pages : ¬ AreSameInFile (record their_numbers { tables = wide_table ∷ [] }) (record their_numbers { tables = record wide_table { pages = 0 ∷ [] } ∷ [] })
no_other_pages h = let other = h.pages in cc

no_table_more : ¬ AreSameInFile their_numbers (record their_numbers { tables = wide_table ∷ [] })
no_table_more h = let other = h.blocks in cc

-- as many tables run ahead as there are
no_table_without_one_ahead : ¬ AreAheadOf [] (wide_table ∷ [])
no_table_without_one_ahead h = let same = h.all in cc

one_ahead_of_none : ¬ AreAheadOf (record { start = 0; width = 0; ends = 0; waiting = 0; before = 0; cells = [] } ∷ []) []
one_ahead_of_none h = let same = h.all in cc

-- ---- rows that wait

abbrev three_wait : ℕ → AheadNumbers
three_wait before = record { start = 0; width = 0; ends = 0; waiting = 3; before = before; cells = [] }

rows_of_two : waiting_rows (three_wait 0 ∷ three_wait 3 ∷ []) ≡ 6
rows_of_two = refl

second_is_counted : AreCounted (three_wait 0 ∷ three_wait 3 ∷ [])
second_is_counted zero a at = sym (ap (λ (b : AheadNumbers). b.before) (same_Some (three_wait 0) a at))
second_is_counted (suc zero) a at = sym (ap (λ (b : AheadNumbers). b.before) (same_Some (three_wait 3) a at))
second_is_counted (suc (suc m)) a at = cc

second_is_not_counted : ¬ AreCounted (three_wait 0 ∷ three_wait 0 ∷ [])
second_is_not_counted h = let before = h 1 (three_wait 0) refl in cc

its_own_rows_do_not_count : ¬ AreCounted (three_wait 3 ∷ [])
its_own_rows_do_not_count h = let before = h 0 (three_wait 3) refl in cc

no_rows_past_32_bits : ¬ IsStorableAhead (record (three_wait 0) { waiting = 4294967296 })
no_rows_past_32_bits h = omega (arith, h.waiting)

-- no multiple of 64 but 0 lies in the text
no_word_for_63_bytes : row_words 63 ≡ 0
no_word_for_63_bytes = refl

one_word_for_64_bytes : row_words 64 ≡ 1
one_word_for_64_bytes = refl

two_words_for_4096_bytes : row_words 4096 ≡ 2
two_words_for_4096_bytes = refl
