-- Cases of specs/FileModes.antt.
use Rattle.std.proofs.Common.{◌≡◌, ℕ, List, [], ◌∷◌, get_or, codes, refl, ap, arith, Option, Some, None}
use Rattle.bajofeki_rules.specs.declared.action.Action.TheVariants as action
use Rattle.lalrpop_rule_file.specs.RuleLine.{Mode, Push, Enters, Pops, WrittenRule, These, Every}
use Rattle.lalrpop_rule_file.specs.FileModes.{Nothing, Heading, Rule, AllLeadWithin, AreActions, AreModes, AreNumbers, IsAction, IsNumber, LeadsWithin, firsts, initial, modes_of, named_below, named_by, or_initial, without}

abbrev a : List ℕ
a = codes "A"

abbrev b : List ℕ
b = codes "B"

initial_alone : named_by initial ≡ codes "INITIAL" ∷ []
initial_alone = refl

star_names_none : named_by Every ≡ []
star_names_none = refl

name_left_out : without a (a ∷ b ∷ a ∷ []) ≡ b ∷ []
name_left_out = refl

first_of_each : firsts (b ∷ a ∷ b ∷ a ∷ []) ≡ b ∷ a ∷ []
first_of_each = refl

some_names_stay : or_initial (b ∷ []) ≡ b ∷ []
some_names_stay = refl

-- a section names its modes, and a rule those of its section
names_in_their_order : (w : WrittenRule) → named_below initial (Rule w ∷ Heading (These (b ∷ [])) ∷ Nothing ∷ Rule w ∷ Heading Every ∷ Rule w ∷ []) ≡ codes "INITIAL" ∷ b ∷ b ∷ []
names_in_their_order w = refl

-- ---- the modes of a file

no_line_has_initial : modes_of [] ≡ codes "INITIAL" ∷ []
no_line_has_initial = refl

only_every_mode : (w : WrittenRule) → modes_of (Heading Every ∷ Rule w ∷ []) ≡ codes "INITIAL" ∷ []
only_every_mode w = refl

initial_comes_first : (w : WrittenRule) → modes_of (Rule w ∷ Heading (These (b ∷ a ∷ [])) ∷ Rule w ∷ Heading (These (a ∷ [])) ∷ []) ≡ codes "INITIAL" ∷ b ∷ a ∷ []
initial_comes_first w = refl

no_rule_before_the_first_section : (w : WrittenRule) → modes_of (Nothing ∷ Heading (These (b ∷ [])) ∷ Rule w ∷ Heading (These (codes "INITIAL" ∷ [])) ∷ []) ≡ b ∷ codes "INITIAL" ∷ []
no_rule_before_the_first_section w = refl

-- ---- numbers

modes : List (List ℕ)
modes = b ∷ a ∷ []

second_mode : IsNumber modes a 1
unfolding modes
second_mode = refl

first_letter : Option (List ℕ) → ℕ
first_letter None = 0
first_letter (Some name) = get_or name 0 0

not_the_first : ¬ IsNumber modes a 0
unfolding modes first_letter
not_the_first e = let k : 66 ≡ 65 = ap first_letter e in omega (arith, k)

two_numbers : AreNumbers modes (a ∷ b ∷ []) (1 ∷ 0 ∷ [])
unfolding modes
two_numbers = (refl, (refl, tt))

one_number_too_few : ¬ AreNumbers modes (a ∷ b ∷ []) (1 ∷ [])
one_number_too_few are = are.1

modes_of_a_section : AreModes modes (These (a ∷ [])) (1 ∷ [])
unfolding modes
modes_of_a_section = (refl, tt)

every_mode : AreModes modes Every (0 ∷ 1 ∷ [])
unfolding modes
every_mode = refl

push_of_the_second : IsAction modes (Enters Push a) (action.Push 1)
unfolding modes
push_of_the_second = refl

push_is_no_mode : ¬ IsAction modes (Enters Push a) (action.Mode 1)
push_is_no_mode is = is

actions_in_their_order : AreActions modes (Pops ∷ Enters Mode b ∷ []) (action.Pop ∷ action.Mode 0 ∷ [])
unfolding modes
actions_in_their_order = (tt, (refl, tt))

action_left_out : ¬ AreActions modes (Pops ∷ []) []
action_left_out are = are

-- ---- actions that lead nowhere

pop_leads_nowhere : LeadsWithin [] Pops
pop_leads_nowhere = tt

mode_that_is_there : LeadsWithin (a ∷ []) (Enters Mode a)
mode_that_is_there = (0, omega arith, refl)

no_modes_lead_nowhere : ¬ AllLeadWithin [] (Pops ∷ Enters Push a ∷ [])
no_modes_lead_nowhere all = let h = all.1.0.1 in omega (arith, h)
