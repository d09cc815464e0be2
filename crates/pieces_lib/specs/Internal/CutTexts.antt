-- A text that comes and is cut: its pieces, where they lie, and what is written for them.
use Rattle.std.specs.Prelude.{◌≡◌, ℕ, ◌+◌, ◌≤◌, ◌⊎◌, Bool, true, false, ◌||◌, List, [], ◌∷◌, ◌++◌, length, map, reverse, Option, Some, None, option_map, is_some, string_bytes}
use Rattle.bajofeki.specs.Begun.{IsBegun}
use Rattle.bajofeki.specs.Chunked.{Chunked, GivesFinal, Came, IsHeldBack, BeginsFault, MayMatch}
use Rattle.bajofeki_rules.specs.Position.{byte_place, byte_place_of, moved}
use Rattle.bajofeki_rules.specs.declared.position.Position.{Position}
use Rattle.bajofeki.specs.Markup.{marked}
use Rattle.bajofeki.specs.Terminal.{painted}
use Rattle.lalrpop_rules.specs.Modes.{ModeRules, AllOf, after}
use Rattle.bajofeki_rules.specs.Stack.{Stack, start, actions_of}
use Rattle.bajofeki_rules.specs.declared.action.Action.{Action}
use Rattle.lalrpop_rule_file.specs.RuleFile.{without_mark}
use Rattle.lalrpop_rules.specs.Pieces.{slice_of, start_of}
use Rattle.lalrpop_rules.specs.declared.piece.Piece.{Piece}
use Rattle.lalrpop_rules.specs.declared.piece.Piece.TheVariants.{Token, Skipped, Fault}
use Rattle.lexdfa_lib.specs.Streams.{Stream, ReadEnd, AtEnd, Failed, LeftOff, Reads}
use Rattle.reports_lib.specs.PieceLines.{line_in, mode_named, name_at}
use Rattle.lexdfa_lib.specs.declared.layout.LineForm.{LineForm}
use Rattle.pieces_lib.specs.Console.{Console, Writes, WritesPart}
use Rattle.pieces_lib.specs.CutEnds.{IsFoundNext, first_fault}
use Rattle.pieces_lib.specs.OpenModes.{open_behind, pushed_all}
use Rattle.pieces_lib.specs.TextAnswer.{legible}
use Rattle.lexdfa_lib.specs.declared.error.RunError.{RunError}
use Rattle.pieces_lib.specs.Internal.Incoming.{IsIncoming}
use Rattle.lexdfa_lib.specs.declared.command.Markup.{Markup}
use Rattle.lexdfa_lib.specs.declared.command.Markup.TheVariants.{Html as MarkupHtml, Ansi as MarkupAnsi}
use Rattle.pieces_lib.specs.declared.cut_end.CutEnd.{CutEnd}
use Rattle.pieces_lib.specs.declared.cut_end.CutEnd.TheVariants.{Whole, Stopped, Unread}
use Rattle.pieces_lib.specs.declared.cut_end.Found.{Found}
use Rattle.pieces_lib.specs.declared.cut_end.OpenMode.{OpenMode}
use Rattle.pieces_lib.specs.declared.cutter.Cutter.{Cutter}
use Rattle.pieces_lib.specs.declared.incoming.Brought.{Brought}
use Rattle.pieces_lib.specs.declared.incoming.Brought.TheVariants.{More, Nothing, Failure}
use Rattle.pieces_lib.specs.declared.sheet.Form.{Form}
use Rattle.pieces_lib.specs.declared.sheet.Form.TheVariants.{Lines, Html, Ansi}

-- ---- places

-- where the modes were entered that have one below them, after a piece that begins here
abbrev pub opened_after : List (List Action) → Position → Piece → List Position → List Position
opened_after actions place (Token token) places = pushed_all place (actions_of actions token.index) places
opened_after actions place (Skipped token) places = pushed_all place (actions_of actions token.index) places
opened_after actions place (Fault begin slice) places = places

-- the same by the rule of the piece
abbrev pub opened_by : List (List Action) → Position → Option ℕ → List Position → List Position
opened_by actions place None places = places
opened_by actions place (Some rule) places = pushed_all place (actions_of actions rule) places

-- ---- pieces

abbrev pub is_fault : Piece → Bool
is_fault (Token token) = false
is_fault (Skipped token) = false
is_fault (Fault begin slice) = true

-- a piece is given, which begins at this place and was read in this mode
pub record GivesCut (old : Cutter) (x : Piece) (place : Position) (mode : ℕ) (new : Cutter) : Type 0 where
  pub gives : GivesFinal old.incoming.chunks (Some x) new.incoming.chunks
  pub front : new.incoming.front ≡ old.incoming.front
  pub begun : new.incoming.has_begun ≡ old.incoming.has_begun
  pub lexer : new.lexer ≡ old.lexer
  pub at : new.at ≡ old.at + length (slice_of x)
  pub place_is : place ≡ old.here
  pub mode_is : mode ≡ old.incoming.chunks.stack.mode
  pub here : new.here ≡ moved old.here (byte_place (slice_of x))
  pub fault : new.has_fault ≡ (old.has_fault || is_fault x)
  pub places : reverse new.places.items ≡ opened_after old.lexer.now.actions place x (reverse old.places.items)

-- each piece begins no later than this
abbrev pub BeginWithin : ℕ → List Piece → Type 0
BeginWithin n [] = Unit {0}
BeginWithin n (x ∷ xs) = (start_of x ≤ n) × BeginWithin n xs

-- this text has come, and these pieces of it were given
pub record IsCutInto (rules : ModeRules) (text : List ℕ) (xs : List Piece) (c : Cutter) : Type 0 where
  pub came : Came rules text xs c.incoming.chunks
  pub lexer : c.lexer.now ≡ rules
  pub at : c.at ≡ c.incoming.chunks.at
  pub begin : BeginWithin c.incoming.chunks.at xs
  pub here : c.here ≡ byte_place_of text c.incoming.chunks.at
  pub fault : c.has_fault ≡ is_some (first_fault xs)
  pub places : reverse c.places.items ≡ map (byte_place_of text) (open_behind rules.actions xs [])
  pub opened : AllOf (λ n. n ≤ c.incoming.chunks.at) (open_behind rules.actions xs [])

-- ---- what comes

-- what is known of the text after a read that brought this
abbrev pub HasCome : ReadEnd → List ℕ → List ℕ → Cutter → Brought → Type 0
HasCome end bytes text c More = (end ≡ LeftOff) × (IsIncoming bytes text c.incoming × (c.incoming.chunks.is_ended ≡ false))
HasCome end bytes text c Nothing = (end ≡ AtEnd) × ((without_mark bytes ≡ text) × (c.incoming.chunks.is_ended ≡ true))
HasCome end bytes text c Failure = (end ≡ Failed) × ((without_mark bytes ≡ text) × (c.incoming.chunks.is_ended ≡ false))

-- a read brings bytes, and a part of the text, whatever was read before
abbrev pub Comes : ModeRules → Stream → Stream → Cutter → Cutter → Brought → Type 0
Comes rules s t old new brought =
    (more : List ℕ) × ((end : ReadEnd) × (Reads s t (record { bytes = more; end = end })
    × ((bytes text : List ℕ) (xs : List Piece) → IsIncoming bytes text old.incoming → IsCutInto rules text xs old
    → (chunk : List ℕ) × (IsCutInto rules (text ++ chunk) xs new × HasCome end (bytes ++ more) (text ++ chunk) new brought))))

-- ---- how cutting ends

-- the mode on top, and where it was entered, if it has one below it
abbrev pub open_place : ℕ → List Position → Option OpenMode
open_place mode [] = None
open_place mode (place ∷ places) = Some (record { mode = mode; place = place })

-- by what reading brought
abbrev pub end_by : Cutter → Brought → Option CutEnd
end_by c More = None
end_by c Nothing = Some (Whole c.has_fault (open_place c.incoming.chunks.stack.mode (reverse c.places.items)))
end_by c Failure = Some Unread

-- ---- what is written

-- the line of a piece that begins at this place
abbrev pub line_here : LineForm → Bool → Option (List ℕ) → List (List ℕ) → Option (List ℕ) → Position → Piece → List ℕ
line_here form recovers file names mode place (Token token) = line_in form file place token.start (Some (name_at names token.index)) mode token.slice.now
line_here form recovers file names mode place (Skipped token) = []
line_here form true file names mode place (Fault begin slice) = line_in form file place begin None mode slice.now
line_here form false file names mode place (Fault begin slice) = []

-- the markup of a piece; lines have none
abbrev pub markup_of : Form → List (List ℕ) → Piece → List ℕ
markup_of (Lines layout) names x = []
markup_of Html names x = marked names x
markup_of (Ansi painter) names x = painted painter x

-- what is written for a piece that begins at this place and was read in this mode
abbrev pub piece_shown : Form → List (List ℕ) → Position → ℕ → Piece → List ℕ
piece_shown (Lines layout) names place mode x =
    line_here layout.form layout.recovers (option_map (λ f. f.now) layout.file) names (mode_named (map string_bytes layout.modes.now) mode) place x
piece_shown form names place mode x = markup_of form names (legible x)

-- whether lines are written
abbrev pub has_lines : Form → Bool
has_lines (Lines layout) = true
has_lines form = false

-- whether cutting goes on after a fault
abbrev pub goes_on : Form → Bool
goes_on (Lines layout) = layout.recovers
goes_on Html = true
goes_on (Ansi painter) = true

-- so a page is written
abbrev pub IsPageForm : Form → Markup → List (List ℕ) → Type 0
IsPageForm Html MarkupHtml names = Unit {0}
IsPageForm (Ansi painter) MarkupAnsi names = painter ≡ names
IsPageForm _ _ names = ⊥

-- what is written for pieces of a text, from this stack of modes on
abbrev pub shown_from : Form → ModeRules → List ℕ → Stack → List Piece → List ℕ
shown_from form rules text s [] = []
shown_from form rules text s (x ∷ xs) =
    piece_shown form rules.names (byte_place_of text (start_of x)) s.mode x ++ shown_from form rules text (after rules.actions x s) xs

abbrev pub shown : Form → ModeRules → List ℕ → List Piece → List ℕ
shown form rules text xs = shown_from form rules text start xs

-- no piece is a fault where cutting ends at one
abbrev pub NoFaultYet : Form → List Piece → Type 0
NoFaultYet form xs = goes_on form ≡ false → first_fault xs ≡ None

-- these bytes were written, but for those that wait
pub record IsSent (bytes waiting : List ℕ) (old new : Console) : Type 0 where
  pub sent : List ℕ
  pub writes : Writes old sent new
  pub all : sent ++ waiting ≡ bytes

-- these pieces of a text were given, and are written
pub record IsGiven (form : Form) (rules : ModeRules) (text : List ℕ) (xs : List Piece) (c : Cutter) (waiting : List ℕ) (old new : Console) : Type 0 where
  pub cut : IsCutInto rules text xs c
  pub no_fault : NoFaultYet form xs
  pub written : IsSent (shown form rules text xs) waiting old new

-- the same before an error, where only a prefix was written of what is written for them
pub record IsGivenInPart (form : Form) (rules : ModeRules) (text : List ℕ) (xs : List Piece) (c : Chunked) (old : Console) (error : RunError) (new : Console) : Type 0 where
  pub came : Came rules text xs c
  pub no_fault : NoFaultYet form xs
  pub part : WritesPart old (shown form rules text xs) error new

-- a fault begins after them, where cutting ends
pub record EndsAtFault (form : Form) (rules : ModeRules) (text : List ℕ) (xs : List Piece) (c : Chunked) (ended : CutEnd) : Type 0 where
  pub came : Came rules text xs c
  pub no_fault : first_fault xs ≡ None
  pub ends : goes_on form ≡ false
  pub fault : BeginsFault c
  pub found : Found
  pub ended_is : ended ≡ Stopped (byte_place_of text c.at) found
  pub shows : IsFoundNext c found

-- nothing has changed of what comes
pub record IsAsBefore (old new : Cutter) : Type 0 where
  pub lexer : new.lexer ≡ old.lexer
  pub front : new.incoming.front ≡ old.incoming.front
  pub begun : new.incoming.has_begun ≡ old.incoming.has_begun
  pub ended : new.incoming.chunks.is_ended ≡ old.incoming.chunks.is_ended

-- no piece can be given any more, before more comes
pub record IsWaiting (form : Form) (c : Chunked) : Type 0 where
  pub held : IsHeldBack c
  pub may : goes_on form ≡ false → IsBegun c.rest ⊎ MayMatch c

-- all pieces were given that can be; or cutting ends at a fault after those that were given
abbrev pub GivesAll : Form → ModeRules → List ℕ → Cutter → Cutter → List ℕ → Console → Console → Option CutEnd → Type 0
GivesAll form rules text old new waiting begun now None =
    (ys : List Piece) × (IsGiven form rules text ys new waiting begun now × (IsWaiting form new.incoming.chunks × IsAsBefore old new))
GivesAll form rules text old new waiting begun now (Some ended) =
    (ys : List Piece) × ((c : Chunked) × (EndsAtFault form rules text ys c ended
    × (IsSent (shown form rules text ys) waiting begun now × (c.is_ended ≡ old.incoming.chunks.is_ended))))
