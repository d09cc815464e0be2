-- Cases of specs/Stack.antt.
use Rattle.std.proofs.Common.{◌≡◌, ℕ, List, [], ◌∷◌, refl}
use Rattle.bajofeki_rules.specs.declared.action.Action.TheVariants.{Mode, Push, Pop}
use Rattle.bajofeki_rules.specs.Stack.{Stack, start, popped, act, act_all, actions_of}

-- the modes of a stack, the one on top first
abbrev modes_of : Stack → List ℕ
modes_of s = s.mode ∷ s.below

text_begins_in_mode_0 : modes_of start ≡ 0 ∷ []
text_begins_in_mode_0 = refl

pop_takes_the_top : modes_of (act Pop (record { mode = 2; below = 1 ∷ 0 ∷ [] })) ≡ 1 ∷ 0 ∷ []
pop_takes_the_top = refl

last_mode_stays : (m : ℕ) → popped m [] ≡ record { mode = m; below = [] }
last_mode_stays m = refl

mode_leaves_those_below : modes_of (act (Mode 3) (record { mode = 2; below = 1 ∷ [] })) ≡ 3 ∷ 1 ∷ []
mode_leaves_those_below = refl

push_keeps_the_top_below : modes_of (act (Push 3) (record { mode = 2; below = 1 ∷ [] })) ≡ 3 ∷ 2 ∷ 1 ∷ []
push_keeps_the_top_below = refl

-- they are done from the first on: what a `}` returns to isn't what was on top
mode_and_push : modes_of (act_all (Mode 1 ∷ Push 2 ∷ []) start) ≡ 2 ∷ 1 ∷ []
mode_and_push = refl

push_and_mode : modes_of (act_all (Push 2 ∷ Mode 1 ∷ []) start) ≡ 1 ∷ 0 ∷ []
push_and_mode = refl

no_action_no_change : (s : Stack) → act_all [] s ≡ s
no_action_no_change s = refl

actions_of_the_second_rule : actions_of ([] ∷ (Pop ∷ []) ∷ []) 1 ≡ Pop ∷ []
actions_of_the_second_rule = refl

no_rule_no_action : (i : ℕ) → actions_of [] i ≡ []
no_rule_no_action i = refl
