-- cases: proofs/Cases/BytePieces.antt
-- The pieces of a text of bytes, which needn't be UTF-8: what isn't UTF-8 matches nothing.
use Rattle.std.specs.Prelude.{◌≡◌, ℕ, ◌+◌, ◌≤◌, Bool, true, false, List, [], ◌∷◌, length, take, drop, slice_get, Option, Some, None}
use Rattle.lalrpop_hir.specs.Tree.{Tree}
use Rattle.lalrpop_hir.specs.Longest.{IsLongest}
use Rattle.lalrpop_hir.specs.Chain.{AtEnd}
use Rattle.lalrpop_rules.specs.Pieces.{IsFault}
use Rattle.lalrpop_rules.specs.declared.piece.Piece.{Piece}
use Rattle.lalrpop_rules.specs.declared.piece.Piece.TheVariants.{Token, Skipped, Fault}
use Rattle.bajofeki_rules.specs.declared.action.Action.{Action}
use Rattle.bajofeki_rules.specs.Stack.{Stack, start, act, act_all, actions_of}
use Rattle.lalrpop_rules.specs.Modes.{ModeRules, trees_in}
use Rattle.lalrpop_emit.specs.declared.numbered_piece.NumberedPiece.{NumberedPiece}

-- a token of this rule and length at the front of a text: the longest match; its kind is that of its rule
pub record IsByteToken (ts : List Tree) (ps kinds text : List ℕ) (kind rule size : ℕ) : Type 0 where
  pub kind_is : slice_get kinds rule ≡ Some kind
  pub within : size ≤ length text
  pub longest : IsLongest ts ps text (Some (rule, take size text))

-- a token if it has a kind, else a fault
abbrev pub IsByteTokenOrFault : List Tree → List ℕ → List ℕ → List ℕ → Option ℕ → ℕ → ℕ → Type 0
IsByteTokenOrFault ts ps kinds text None rule size = (rule ≡ 0) × ((size ≤ length text) × IsFault ts text (take size text))
IsByteTokenOrFault ts ps kinds text (Some kind) rule size = IsByteToken ts ps kinds text kind rule size

-- the piece of the text at this place
abbrev pub IsBytePiece : List Tree → List ℕ → List ℕ → List ℕ → ℕ → NumberedPiece → Type 0
IsBytePiece ts ps kinds text at p = (p.start ≡ at) × IsByteTokenOrFault ts ps kinds (drop at text) p.kind p.rule p.length

-- ---- pieces in modes

-- the actions of a token's rule; a fault, which has no kind, has none
abbrev pub rule_actions : List (List Action) → Option ℕ → ℕ → List Action
rule_actions actions None rule = []
rule_actions actions (Some kind) rule = actions_of actions rule

-- the actions of a piece
abbrev pub piece_actions : List (List Action) → NumberedPiece → List Action
piece_actions actions p = rule_actions actions p.kind p.rule

-- the stack after a piece
abbrev pub after_piece : List (List Action) → NumberedPiece → Stack → Stack
after_piece actions p s = act_all (piece_actions actions p) s

-- after each of the actions, one after another, at most `room` modes lie below the one on top
abbrev pub Fits : ℕ → List Action → Stack → Type 0
Fits room [] s = Unit {0}
Fits room (a ∷ actions) s = (length (act a s).below ≤ room) × Fits room actions (act a s)

-- the piece of the text at this place, by the rules of the mode on top
abbrev pub IsModePiece : ModeRules → List ℕ → List ℕ → ℕ → Stack → NumberedPiece → Type 0
IsModePiece r kinds text at s p = IsBytePiece (trees_in r s.mode) r.precedences kinds text at p

-- where the pieces stop: at the end of the text, if they are whole; else where the next one's actions don't fit
abbrev pub StopsAt : ModeRules → List ℕ → ℕ → List ℕ → Bool → ℕ → Stack → Type 0
StopsAt r kinds room text true at s = AtEnd text at
StopsAt r kinds room text false at s = (p : NumberedPiece) × (IsModePiece r kinds text at s p × ¬ Fits room (piece_actions r.actions p) s)

-- the pieces of the text from a place and a stack on, one after another
abbrev pub AreBytePiecesFrom : ModeRules → List ℕ → ℕ → List ℕ → Bool → ℕ → Stack → List NumberedPiece → Type 0
AreBytePiecesFrom r kinds room text is_whole at s [] = StopsAt r kinds room text is_whole at s
AreBytePiecesFrom r kinds room text is_whole at s (p ∷ pieces) =
    IsModePiece r kinds text at s p × Fits room (piece_actions r.actions p) s
    × AreBytePiecesFrom r kinds room text is_whole (at + p.length) (after_piece r.actions p s) pieces

-- the pieces of the text from one place and stack up to another
abbrev pub AreBytePiecesTo : ModeRules → List ℕ → ℕ → List ℕ → ℕ → Stack → List NumberedPiece → ℕ → Stack → Type 0
AreBytePiecesTo r kinds room text at s [] end t = (at ≡ end) × (s ≡ t)
AreBytePiecesTo r kinds room text at s (p ∷ pieces) end t =
    IsModePiece r kinds text at s p × Fits room (piece_actions r.actions p) s
    × AreBytePiecesTo r kinds room text (at + p.length) (after_piece r.actions p s) pieces end t

-- the pieces of the text from its beginning on, where at most `room` modes lie below the one on top
abbrev pub AreBytePieces : ModeRules → List ℕ → ℕ → List ℕ → List NumberedPiece → Bool → Type 0
AreBytePieces r kinds room text pieces is_whole = AreBytePiecesFrom r kinds room text is_whole 0 start pieces

-- a piece of a UTF-8 text in numbers: a token, skipped or not, with the kind of its rule, or a fault
abbrev pub numbered : List ℕ → Piece → NumberedPiece
numbered kinds (Token token) = record { kind = slice_get kinds token.index; rule = token.index; start = token.start; length = length token.slice.now }
numbered kinds (Skipped token) = record { kind = slice_get kinds token.index; rule = token.index; start = token.start; length = length token.slice.now }
numbered kinds (Fault start slice) = record { kind = None; rule = 0; start = start; length = length slice.now }
