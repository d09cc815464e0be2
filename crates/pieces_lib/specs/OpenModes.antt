-- cases: proofs/Cases/OpenModes.antt
-- The modes that tokens put on top of others, by the places at which those tokens begin.
use Rattle.std.specs.Prelude.{ℕ, List, [], ◌∷◌, Option, Some, None}
use Rattle.std.specs.List.{fold}
use Rattle.bajofeki_rules.specs.Position.{byte_place_of}
use Rattle.bajofeki_rules.specs.Stack.{actions_of}
use Rattle.bajofeki_rules.specs.declared.action.Action.{Action}
use Rattle.bajofeki_rules.specs.declared.action.Action.TheVariants.{Mode, Push, Pop}
use Rattle.lalrpop_rules.specs.declared.piece.Piece.{Piece}
use Rattle.lalrpop_rules.specs.declared.piece.Piece.TheVariants.{Token, Skipped, Fault}
use Rattle.pieces_lib.specs.declared.cut_end.OpenMode.{OpenMode}

-- for each mode that has one below it, where the token begins that pushed it, the mode on top first: after an action of a token that begins here.
-- A place is an offset in bytes, or whatever else
abbrev pub pushed : {P : Type 0} → P → Action → List P → List P
pushed at (Mode m) begins = begins
pushed at (Push m) begins = at ∷ begins
pushed at Pop [] = []
pushed at Pop (top ∷ begins) = begins

-- after actions, one after another
abbrev pub pushed_all : {P : Type 0} → P → List Action → List P → List P
pushed_all at acts begins = fold (λ o a. pushed at a o) begins acts

-- after a piece
abbrev pub open_after : List (List Action) → Piece → List ℕ → List ℕ
open_after actions (Token token) begins = pushed_all token.start (actions_of actions token.index) begins
open_after actions (Skipped token) begins = pushed_all token.start (actions_of actions token.index) begins
open_after actions (Fault start slice) begins = begins

-- after pieces
abbrev pub open_behind : List (List Action) → List Piece → List ℕ → List ℕ
open_behind actions [] begins = begins
open_behind actions (x ∷ xs) begins = open_behind actions xs (open_after actions x begins)

-- the mode on top, and where in the text it was entered, if it has one below it
abbrev pub open_mode : List ℕ → ℕ → List ℕ → Option OpenMode
open_mode text mode [] = None
open_mode text mode (at ∷ begins) = Some (record { mode = mode; place = byte_place_of text at })
