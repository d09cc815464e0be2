-- Cases of specs/ByteCut.antt.
use Rattle.std.proofs.Common.{◌≡◌, ℕ, zero, suc, List, [], ◌∷◌, length, replicate, inl, refl, ap, arith}
use Rattle.std.specs.Prelude.{Option, Some, None}
use Rattle.lalrpop_hir.specs.Tree.{Tree}
use Rattle.lalrpop_rules.specs.Found.{MatchesAt}
use Rattle.bajofeki_rules.specs.declared.action.Action.TheVariants.{Push, Pop}
use Rattle.bajofeki_rules.specs.Stack.{Stack, start, actions_of}
use Rattle.lalrpop_rules.specs.Modes.{ModeRules, trees_in}
use Rattle.lalrpop_dense.specs.DenseTable.{TableNumbers}
use Rattle.lalrpop_emit.specs.ByteCut.{ByteCut, GivesBytePiece, HasMemoFor, IsCutOf, IsTooDeep, place_of, stack_in}
use Rattle.lalrpop_emit.specs.BytePieces.{Fits, IsBytePiece, rule_actions}
use Rattle.lalrpop_emit.specs.NumberedRules.{NumberedRules}
use Rattle.lalrpop_emit.specs.Internal.Running.{HasRoom}
use Rattle.lalrpop_emit.specs.declared.numbered_piece.NumberedPiece.{NumberedPiece}
use Rattle.lalrpop_emit.specs.declared.run.Run.{Run}

-- a cut of a text at this place, in mode 0 or in the first of two modes, with this room for modes
abbrev cut_at : Run → ℕ → ℕ → List ℕ → ByteCut
cut_at run at depth below = record { state = record { at = at; mode = 0; depth = depth }; below = below; run = run; memo = [] }

-- without a tree nothing matches
nothing_matches : (text : List ℕ) (at : ℕ) → ¬ MatchesAt [] text at
nothing_matches text at m = let none = m.1.2.1.1.0 in cc

abbrev no_rules : ModeRules
no_rules = record { names = []; trees = []; precedences = []; skips = []; actions = []; members = []; kinds = []; modes = 1; mode_names = []; automata = [] }

-- a fault up to the end of a text
abbrev fault : ℕ → ℕ → NumberedPiece
fault start size = record { kind = None; rule = 0; start = start; length = size }

module _ (run : Run) where
  the_place : place_of (cut_at run 3 0 []) ≡ 3
  the_place = refl

  -- the mode that was on top last lies last in the list
  the_stack : stack_in (cut_at run 3 2 (5 ∷ 7 ∷ 9 ∷ [])) ≡ record { mode = 0; below = 7 ∷ 5 ∷ [] }
  the_stack = refl

  a_fault_is_given : GivesBytePiece no_rules [] (255 ∷ []) (cut_at run 0 0 []) (Some (fault 0 1)) (cut_at run 1 0 [])
  a_fault_is_given = (
    (refl, (refl, (omega arith, record { front = ([], refl); some = λ e. absurd (cc); nothing = λ n l. nothing_matches (255 ∷ []) n; ends = inl refl }))),
    tt,
    refl,
    refl,
  )

  no_piece_begins_elsewhere : ¬ GivesBytePiece no_rules [] (255 ∷ 255 ∷ []) (cut_at run 0 0 []) (Some (fault 1 1)) (cut_at run 1 0 [])
  no_piece_begins_elsewhere g = let begins = g.0.0 in omega (arith, begins)

  no_piece_is_given_again : (at : ℕ) → ¬ GivesBytePiece no_rules [] (255 ∷ []) (cut_at run at 0 []) (Some (fault at 1)) (cut_at run at 0 [])
  no_piece_is_given_again at g = let goes_on = g.2 in omega (arith, goes_on)

  -- a fault leaves the stack as it is
  no_mode_is_taken_away_by_a_fault : ¬ GivesBytePiece no_rules [] (255 ∷ []) (cut_at run 0 1 (0 ∷ [])) (Some (fault 0 1)) (cut_at run 1 0 (0 ∷ []))
  no_mode_is_taken_away_by_a_fault g = let size : 0 ≡ 1 = ap (λ (t : Stack). length t.below) g.3 in omega (arith, size)

  none_is_left_at_the_end : GivesBytePiece no_rules [] (255 ∷ []) (cut_at run 1 0 []) None (cut_at run 1 0 [])
  none_is_left_at_the_end = (refl, (refl, refl))

  one_is_left_before_the_end : (d : ByteCut) → ¬ GivesBytePiece no_rules [] (255 ∷ []) (cut_at run 0 0 []) None d
  one_is_left_before_the_end d g = let end = g.0 in cc

  the_end_stays : ¬ GivesBytePiece no_rules [] [] (cut_at run 0 0 []) None (cut_at run 1 0 [])
  the_end_stays g = let place = g.1.0 in omega (arith, place)

-- ---- too deep

-- two rules: the first belongs to mode 0 and puts mode 1 on top, the second belongs to mode 1 and takes it away
abbrev brackets : Tree → Tree → ModeRules
brackets a b = record {
  names = [];
  trees = a ∷ b ∷ [];
  precedences = 0 ∷ 0 ∷ [];
  skips = [];
  actions = (Push 1 ∷ []) ∷ (Pop ∷ []) ∷ [];
  members = (0 ∷ []) ∷ (1 ∷ []) ∷ [];
  kinds = 0 ∷ 1 ∷ [];
  modes = 2;
  mode_names = [];
  automata = [];
}

abbrev opening : NumberedPiece
opening = record { kind = Some 0; rule = 0; start = 0; length = 1 }

-- the text `(`, that it is a token in mode 0, and a list with as many modes as may lie below
module _ (a b : Tree) (run : Run) (below : List ℕ) (is : IsBytePiece (trees_in (brackets a b) 0) (0 ∷ 0 ∷ []) (0 ∷ 1 ∷ []) (40 ∷ []) 0 opening) where
  one_mode_too_many : length (stack_in (cut_at run 0 1024 below)).below ≡ 1024
      → IsTooDeep (brackets a b) (0 ∷ 1 ∷ []) (40 ∷ []) (cut_at run 0 1024 below) (cut_at run 0 1024 below)
  one_mode_too_many full = ((opening, (is, λ fits. omega (arith, full, fits.0))), (refl, refl))

  one_mode_more : GivesBytePiece (brackets a b) (0 ∷ 1 ∷ []) (40 ∷ []) (cut_at run 0 0 (0 ∷ [])) (Some opening)
      (record { state = record { at = 1; mode = 1; depth = 1 }; below = 0 ∷ []; run = run; memo = [] })
  one_mode_more = (is, (omega arith, tt), refl, refl)

  -- the push was lost
  mode_that_stays : ¬ GivesBytePiece (brackets a b) (0 ∷ 1 ∷ []) (40 ∷ []) (cut_at run 0 0 below) (Some opening) (cut_at run 1 0 below)
  mode_that_stays g = let mode : 0 ≡ 1 = ap (λ (t : Stack). t.mode) g.3 in omega (arith, mode)

each_fits : (rule : ℕ) → Fits 1024 (actions_of ((Push 1 ∷ []) ∷ (Pop ∷ []) ∷ []) rule) start
each_fits zero = (omega arith, tt)
each_fits (suc zero) = (omega arith, tt)
each_fits (suc (suc rule)) = tt

too_deep_at_the_beginning : (a b : Tree) (run : Run) (d : ByteCut) → ¬ IsTooDeep (brackets a b) (0 ∷ 1 ∷ []) (40 ∷ []) (cut_at run 0 0 []) d
too_deep_at_the_beginning a b run d h = h.0.1.1 (each h.0.0.kind h.0.0.rule)
  where
    each : (kind : Option ℕ) (rule : ℕ) → Fits 1024 (rule_actions ((Push 1 ∷ []) ∷ (Pop ∷ []) ∷ []) kind rule) start
    each None rule = tt
    each (Some kind) rule = each_fits rule

-- ---- what a cut has found

-- one mode, without a table that runs ahead
abbrev one_mode : TableNumbers → NumberedRules
one_mode t = record { names = []; kinds = []; skips = []; first_actions = []; actions = []; tables = t ∷ []; ahead = [] }

-- a block of no bytes, with room for one
module _ (t : TableNumbers) (run : Run) (room : HasRoom run) (begins : (run.base ≡ 0) × (run.since ≡ 0)) (below : List ℕ) (size : length below ≡ 1024) where
  nothing_is_found_yet : IsCutOf (one_mode t) (97 ∷ []) (cut_at run 0 0 below)
  nothing_is_found_yet = record {
    room = size;
    within = omega arith;
    state = record { within = omega arith; there = (omega arith, tt) };
    run = record { room = room; behind = omega (arith, begins.0); since = omega (arith, begins.1); block = λ a u at_a at_u. cc; serves = λ a u at_a at_u. cc };
    memo = λ mode a u at_a at_u. cc;
  }

no_cut_behind_the_text : (n : NumberedRules) (run : Run) (below : List ℕ) → ¬ IsCutOf n (97 ∷ []) (cut_at run 2 0 below)
no_cut_behind_the_text n run below h = omega (arith, h.within)

no_cut_without_room_for_modes : (n : NumberedRules) (run : Run) → ¬ IsCutOf n (97 ∷ []) (cut_at run 0 0 [])
no_cut_without_room_for_modes n run h = omega (arith, h.room)

no_cut_in_a_mode_that_is_not_there : (run : Run) (below : List ℕ)
    → ¬ IsCutOf (record { names = []; kinds = []; skips = []; first_actions = []; actions = []; tables = []; ahead = [] }) (97 ∷ []) (cut_at run 0 0 below)
no_cut_in_a_mode_that_is_not_there run below h = omega (arith, h.state.there.0)

no_cut_with_more_modes_than_room : (n : NumberedRules) (run : Run) (below : List ℕ) → ¬ IsCutOf n (97 ∷ []) (cut_at run 0 1025 below)
no_cut_with_more_modes_than_room n run below h = omega (arith, h.room, h.state.within)

-- ---- the memo

-- one mode, in whose table that runs ahead three rows wait
abbrev three_waiting : TableNumbers → NumberedRules
three_waiting t = record (one_mode t) { ahead = record { start = 8; width = 1; ends = 10; waiting = 3; before = 0; cells = [] } ∷ [] }

abbrev with_words : Run → ℕ → ByteCut
with_words run words = record (cut_at run 0 0 []) { memo = replicate words 0 }

two_words_for_each_row : (t : TableNumbers) (run : Run) → HasMemoFor (three_waiting t) 4096 (with_words run 6)
two_words_for_each_row t run = refl

no_words_for_a_short_text : (t : TableNumbers) (run : Run) → HasMemoFor (three_waiting t) 63 (with_words run 0)
no_words_for_a_short_text t run = refl

no_word_less : (t : TableNumbers) (run : Run) → ¬ HasMemoFor (three_waiting t) 4096 (with_words run 5)
no_word_less t run h = omega (arith, h)
