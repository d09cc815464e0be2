-- Cases of specs/OpenModes.antt.
use Rattle.std.proofs.Common.{◌≡◌, ℕ, suc, List, [], ◌∷◌, None, Some, length, refl, ap, arith}
use Rattle.bajofeki_rules.specs.Position.{byte_place_of}
use Rattle.lalrpop_rules.specs.Modes.{after, after_all}
use Rattle.bajofeki_rules.specs.Stack.{Stack, act, act_all, actions_of}
use Rattle.bajofeki_rules.specs.declared.action.Action.{Action}
use Rattle.bajofeki_rules.specs.declared.action.Action.TheVariants.{Mode, Push, Pop}
use Rattle.lalrpop_rules.specs.declared.piece.Piece.{Piece}
use Rattle.lalrpop_rules.specs.declared.piece.Piece.TheVariants.{Token, Skipped, Fault}
use Rattle.pieces_lib.specs.OpenModes.{pushed, pushed_all, open_after, open_behind, open_mode}

-- a comment that begins at byte 4, and one in it
two_comments : pushed {P = ℕ} 9 (Push 1) (pushed {P = ℕ} 4 (Push 1) []) ≡ 9 ∷ 4 ∷ []
two_comments = refl

-- the end of the inner one
inner_closed : pushed {P = ℕ} 12 Pop (9 ∷ 4 ∷ []) ≡ 4 ∷ []
inner_closed = refl

-- a mode in the place of another was entered where that was
other_mode : pushed_all {P = ℕ} 7 (Mode 2 ∷ []) (4 ∷ []) ≡ 4 ∷ []
other_mode = refl

pop_at_the_bottom : pushed {P = ℕ} 7 Pop [] ≡ []
pop_at_the_bottom = refl

first_mode_is_not_open : (text : List ℕ) → open_mode text 0 [] ≡ None
first_mode_is_not_open text = refl

comment_is_open : (text : List ℕ) → open_mode text 1 (4 ∷ []) ≡ Some (record { mode = 1; place = byte_place_of text 4 })
comment_is_open text = refl

-- ---- there is a place for each mode that has one below it

one_for_each : (at : ℕ) (a : Action) (s : Stack) (begins : List ℕ) → length begins ≡ length s.below → length (pushed at a begins) ≡ length (act a s).below
one_for_each at (Mode m) s begins e = e
one_for_each at (Push m) s begins e = ap suc e
one_for_each at Pop s begins e = of_pop s.mode s.below begins e
  where
    of_pop : (mode : ℕ) (below begins : List ℕ) → length begins ≡ length below → length (pushed at Pop begins) ≡ length (act Pop (record { mode = mode; below = below })).below
    of_pop mode [] [] e = refl
    of_pop mode [] (b ∷ begins) e = absurd (cc (e))
    of_pop mode (next ∷ below) [] e = absurd (cc (e))
    of_pop mode (next ∷ below) (b ∷ begins) e = omega (arith, e)

for_actions : (at : ℕ) (acts : List Action) (s : Stack) (begins : List ℕ) → length begins ≡ length s.below → length (pushed_all at acts begins) ≡ length (act_all acts s).below
for_actions at [] s begins e = e
for_actions at (a ∷ acts) s begins e = for_actions at acts (act a s) (pushed at a begins) (one_for_each at a s begins e)

for_a_piece : (actions : List (List Action)) (x : Piece) (s : Stack) (begins : List ℕ) → length begins ≡ length s.below
    → length (open_after actions x begins) ≡ length (after actions x s).below
for_a_piece actions (Token token) s begins e = for_actions token.start (actions_of actions token.index) s begins e
for_a_piece actions (Skipped token) s begins e = for_actions token.start (actions_of actions token.index) s begins e
for_a_piece actions (Fault begin slice) s begins e = e

for_pieces : (actions : List (List Action)) (xs : List Piece) (s : Stack) (begins : List ℕ) → length begins ≡ length s.below
    → length (open_behind actions xs begins) ≡ length (after_all actions xs s).below
for_pieces actions [] s begins e = e
for_pieces actions (x ∷ xs) s begins e = for_pieces actions xs (after actions x s) (open_after actions x begins) (for_a_piece actions x s begins e)
