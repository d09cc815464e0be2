-- Cases of specs/BytePieces.antt.
use Rattle.std.proofs.Common.{◌≡◌, ℕ, zero, suc, Bool, true, false, List, [], ◌∷◌, inl, inr, length, refl, ap, arith}
use Rattle.std.specs.Prelude.{Option, Some, None}
use Rattle.lalrpop_hir.specs.Tree.{Tree}
use Rattle.lalrpop_rules.specs.Found.{MatchesAt}
use Rattle.bajofeki_rules.specs.declared.action.Action.TheVariants.{Push, Pop}
use Rattle.bajofeki_rules.specs.Stack.{Stack, start, actions_of}
use Rattle.lalrpop_rules.specs.Modes.{ModeRules, trees_in}
use Rattle.lalrpop_emit.specs.BytePieces.{IsByteToken, IsByteTokenOrFault, IsBytePiece, rule_actions, after_piece, Fits, AreBytePieces, AreBytePiecesTo}
use Rattle.lalrpop_emit.specs.declared.numbered_piece.NumberedPiece.{NumberedPiece}

-- without a tree nothing matches
nothing_matches : (text : List ℕ) (at : ℕ) → ¬ MatchesAt [] text at
nothing_matches text at m = let none = m.1.2.1.1.0 in cc

-- a fault up to the end of a text
abbrev fault : ℕ → ℕ → NumberedPiece
fault start size = record { kind = None; rule = 0; start = start; length = size }

all_bytes_are_a_fault : IsByteTokenOrFault [] [] [] (255 ∷ 255 ∷ []) None 0 2
all_bytes_are_a_fault = (refl, (omega arith, record { front = ([], refl); some = λ none. cc; nothing = λ n l. nothing_matches (255 ∷ 255 ∷ []) n; ends = inl refl }))

no_fault_ends_before_another : ¬ IsByteTokenOrFault [] [] [] (255 ∷ 255 ∷ []) None 0 1
no_fault_ends_before_another h = elim h.1.1.ends [ inl whole ↦ omega (arith, ap length whole) | inr match ↦ nothing_matches (255 ∷ 255 ∷ []) 1 match ]

no_fault_is_empty : ¬ IsByteTokenOrFault [] [] [] [] None 0 0
no_fault_is_empty h = h.1.1.some refl

no_fault_is_longer_than_the_text : ¬ IsByteTokenOrFault [] [] [] (255 ∷ []) None 0 2
no_fault_is_longer_than_the_text h = omega (arith, h.1.0)

no_fault_has_a_rule : ¬ IsByteTokenOrFault [] [] [] (255 ∷ []) None 1 1
no_fault_has_a_rule h = omega (arith, h.0)

no_token_is_longer_than_the_text : ¬ IsByteToken [] [] (0 ∷ []) (97 ∷ []) 0 0 2
no_token_is_longer_than_the_text h = omega (arith, h.within)

no_token_has_another_kind : ¬ IsByteToken [] [] (0 ∷ []) (97 ∷ []) 1 0 1
no_token_has_another_kind h = let kind = h.kind_is in cc

-- ---- pieces in modes

abbrev no_rules : ModeRules
no_rules = record { names = []; trees = []; precedences = []; skips = []; actions = []; members = []; kinds = []; modes = 1; mode_names = []; automata = [] }

one_fault : AreBytePieces no_rules [] 0 (255 ∷ []) (fault 0 1 ∷ []) true
one_fault = (
  (refl, (refl, (omega arith, record { front = ([], refl); some = λ none. cc; nothing = λ n l. nothing_matches (255 ∷ []) n; ends = inl refl }))),
  tt,
  refl,
)

whole_only_at_the_end : ¬ AreBytePieces no_rules [] 0 (255 ∷ []) [] true
whole_only_at_the_end h = cc

no_piece_of_an_empty_text : ¬ AreBytePieces no_rules [] 0 [] (fault 0 1 ∷ []) true
no_piece_of_an_empty_text h = omega (arith, h.0.1.1.0)

-- two rules: the first belongs to mode 0 and puts mode 1 on top, the second belongs to mode 1 and takes it away
abbrev brackets : Tree → Tree → ModeRules
brackets a b = record {
  names = [];
  trees = a ∷ b ∷ [];
  precedences = 0 ∷ 0 ∷ [];
  skips = [];
  actions = (Push 1 ∷ []) ∷ (Pop ∷ []) ∷ [];
  members = (0 ∷ []) ∷ (1 ∷ []) ∷ [];
  kinds = 0 ∷ 1 ∷ [];
  modes = 2;
  mode_names = [];
  automata = [];
}

abbrev token : ℕ → ℕ → NumberedPiece
token rule at = record { kind = Some rule; rule = rule; start = at; length = 1 }

-- the text `()`, and that each bracket is a token in its mode
module _ (a b : Tree) (first : IsBytePiece (trees_in (brackets a b) 0) (0 ∷ 0 ∷ []) (0 ∷ 1 ∷ []) (40 ∷ 41 ∷ []) 0 (token 0 0))
    (second : IsBytePiece (trees_in (brackets a b) 1) (0 ∷ 0 ∷ []) (0 ∷ 1 ∷ []) (40 ∷ 41 ∷ []) 1 (token 1 1)) where
  push_and_pop : AreBytePieces (brackets a b) (0 ∷ 1 ∷ []) 1 (40 ∷ 41 ∷ []) (token 0 0 ∷ token 1 1 ∷ []) true
  push_and_pop = (first, (omega arith, tt), (second, (omega arith, tt), refl))

  no_room_for_a_push : AreBytePieces (brackets a b) (0 ∷ 1 ∷ []) 0 (40 ∷ 41 ∷ []) [] false
  no_room_for_a_push = (token 0 0, (first, λ fits. omega (arith, fits.0)))

  -- up to the place after the first bracket, where the second mode is on top
  up_to_a_place : AreBytePiecesTo (brackets a b) (0 ∷ 1 ∷ []) 1 (40 ∷ 41 ∷ []) 0 start (token 0 0 ∷ []) 1 (record { mode = 1; below = 0 ∷ [] })
  up_to_a_place = (first, (omega arith, tt), (refl, refl))

  no_place_within_a_piece : (s : Stack) → ¬ AreBytePiecesTo (brackets a b) (0 ∷ 1 ∷ []) 1 (40 ∷ 41 ∷ []) 0 start (token 0 0 ∷ []) 0 s
  no_place_within_a_piece s h = omega (arith, h.2.0)

  no_stack_of_the_other_mode : ¬ AreBytePiecesTo (brackets a b) (0 ∷ 1 ∷ []) 1 (40 ∷ 41 ∷ []) 0 start (token 0 0 ∷ []) 1 start
  no_stack_of_the_other_mode h = let mode : 1 ≡ 0 = ap (λ (t : Stack). t.mode) h.2.1 in omega (arith, mode)

no_push_without_room : (a b : Tree) (is_whole : Bool) (others : List NumberedPiece) → ¬ AreBytePieces (brackets a b) (0 ∷ 1 ∷ []) 0 (40 ∷ 41 ∷ []) (token 0 0 ∷ others) is_whole
no_push_without_room a b is_whole others h = omega (arith, h.1.0)

-- where there is room, the pieces don't stop
each_fits : (rule : ℕ) → Fits 1 (actions_of ((Push 1 ∷ []) ∷ (Pop ∷ []) ∷ []) rule) start
each_fits zero = (omega arith, tt)
each_fits (suc zero) = (omega arith, tt)
each_fits (suc (suc rule)) = tt

no_stop_with_room : (a b : Tree) → ¬ AreBytePieces (brackets a b) (0 ∷ 1 ∷ []) 1 (40 ∷ 41 ∷ []) [] false
no_stop_with_room a b h = h.1.1 (each h.0.kind h.0.rule)
  where
    each : (kind : Option ℕ) (rule : ℕ) → Fits 1 (rule_actions ((Push 1 ∷ []) ∷ (Pop ∷ []) ∷ []) kind rule) start
    each None rule = tt
    each (Some kind) rule = each_fits rule

fault_keeps_the_stack : (s : Stack) → after_piece ((Push 1 ∷ []) ∷ []) (fault 0 1) s ≡ s
fault_keeps_the_stack s = refl

-- a pop makes room for the push after it
pop_before_push : Fits 1 (Pop ∷ Push 2 ∷ []) (record { mode = 1; below = 0 ∷ [] })
pop_before_push = (omega arith, (omega arith, tt))

push_before_pop : ¬ Fits 1 (Push 2 ∷ Pop ∷ []) (record { mode = 1; below = 0 ∷ [] })
push_before_pop fits = omega (arith, fits.0)
