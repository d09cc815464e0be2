-- A text that is cut in one mode at a time, and what cuts it in each mode.
use Rattle.std.specs.Prelude.{◌≡◌, ◌≢◌, ℕ, ◌+◌, ◌*◌, ◌<◌, ◌≤◌, List, [], length, take, drop, slice_get, Option, Some, None, sum_by}
use Rattle.std.specs.Str.{chars, IsUtf8, IsCharBoundary}
use Rattle.lalrpop_lexer.specs.Matching.{open_states}
use Rattle.lalrpop_rules.specs.Internal.CutToEnd.{CutToEnd, Memo, IsPaid}
use Rattle.lalrpop_rules.specs.Pieces.{IsPiece, slice_of}
use Rattle.lalrpop_rules.specs.declared.piece.Piece.{Piece}
use Rattle.lalrpop_rules.specs.declared.piece.Piece.TheVariants.{Token, Skipped, Fault}
use Rattle.bajofeki_rules.specs.declared.action.Action.{Action}
use Rattle.bajofeki_rules.specs.Stack.{Stack, actions_of}
use Rattle.lalrpop_rules.specs.Modes.{ModeRules, trees_in, EachMode, after}

-- a text that is cut, and the mode in which the next piece is cut
pub record Cutting : Type 0 where
  pub rules : ModeRules
  pub text : List ℕ
  pub at : ℕ
  pub mode : ℕ
  pub memo : Memo
  pub steps : ℕ

-- ---- what cuts it in each mode

abbrev pub spare_of : CutToEnd → ℕ
spare_of c = c.memo.spare

abbrev pub unsought_in : Option CutToEnd → ℕ
unsought_in None = 0
unsought_in (Some c) = c.memo.unsought

-- the memo that they have together: the mode's memo says how much of the text it has not sought
abbrev pub memo_in : ℕ → List CutToEnd → Memo
memo_in mode cs = record { unsought = unsought_in (slice_get cs mode); spare = sum_by spare_of cs }

abbrev pub steps_in : List CutToEnd → ℕ
steps_in cs = sum_by (λ c. c.steps) cs

-- this cuts the text in the mode m, and has come no further than the place
pub record IsCutIn (r : ModeRules) (text : List ℕ) (at m : ℕ) (c : CutToEnd) : Type 0 where
  pub trees : c.rules.trees ≡ trees_in r m
  pub precedences : c.rules.precedences ≡ r.precedences
  pub skips : c.skips ≡ r.skips
  pub same_text : c.text ≡ text
  pub behind : c.at ≤ at

-- it has found no match that ends after the place
abbrev pub HasSoughtUpTo : ℕ → CutToEnd → Type 0
HasSoughtUpTo at c = length (chars (drop at c.text)) ≤ c.memo.unsought

-- there is one for each mode; the one of the mode in which the text is cut goes along
pub record AreCuts (r : ModeRules) (text : List ℕ) (at mode : ℕ) (cs : List CutToEnd) : Type 0 where
  pub all : length cs ≡ r.modes
  pub each : (m : ℕ) (c : CutToEnd) → slice_get cs m ≡ Some c → IsCutIn r text at m c
  pub here : (c : CutToEnd) → slice_get cs mode ≡ Some c → c.at ≡ at
  pub others : (m : ℕ) (c : CutToEnd) → slice_get cs m ≡ Some c → m ≢ mode → HasSoughtUpTo at c

-- what cuts the text in each of the first modes, which has cut nothing yet
pub record AreUncut (r : ModeRules) (text : List ℕ) (count : ℕ) (cs : List CutToEnd) : Type 0 where
  pub many : length cs ≡ count
  pub each : (m : ℕ) (c : CutToEnd) → slice_get cs m ≡ Some c
      → IsCutIn r text 0 m c × (c.at ≡ 0) × (c.memo.unsought ≡ length (chars text))
  pub unread : steps_in cs ≡ 0
  pub spare : sum_by spare_of cs ≤ count * (length (chars text) + length text) + sum_by open_states (take count r.automata) * (length text + 64)

-- between two calls
pub record IsCutting (r : ModeRules) (text : List ℕ) (at mode : ℕ) (cs : List CutToEnd) : Type 0 where
  pub utf8 : IsUtf8 text
  pub boundary : IsCharBoundary text at
  pub there : mode < r.modes
  pub cuts : AreCuts r text at mode cs

-- ---- what the calls do

-- the piece at the front of the rest, which is paid for; the new rest begins after it
pub record CutsPiece (old : Cutting) (item : Piece) (new : Cutting) : Type 0 where
  pub piece : IsPiece (trees_in old.rules old.mode) old.rules.precedences old.rules.skips old.text old.at item
  pub goes_on : new ≡ record old { at = old.at + length (slice_of item); memo = new.memo; steps = new.steps }
  pub paid : IsPaid old.steps old.memo new.steps new.memo

-- or nothing, and nothing changes, if no rest is left
abbrev pub CutsNext : Cutting → Option Piece → Cutting → Type 0
CutsNext old None new = (new ≡ old) × (drop old.at old.text ≡ [])
CutsNext old (Some item) new = CutsPiece old item new

-- no match after the beginning of the rest is found yet
abbrev pub IsSoughtHere : Cutting → Type 0
IsSoughtHere s = s.memo.unsought ≡ length (chars (drop s.at s.text))

-- so it is after a token that was cut
abbrev pub IsSoughtAfter : Piece → Cutting → Type 0
IsSoughtAfter (Token token) s = IsSoughtHere s
IsSoughtAfter (Skipped token) s = IsSoughtHere s
IsSoughtAfter (Fault start slice) s = Unit {0}

abbrev pub IsSoughtNext : Option Piece → Cutting → Type 0
IsSoughtNext None s = Unit {0}
IsSoughtNext (Some item) s = IsSoughtAfter item s

-- the text is cut in this mode from now on
pub record Follows (old : Cutting) (mode : ℕ) (new : Cutting) : Type 0 where
  pub enters : new ≡ record old { mode = mode; memo = new.memo; steps = new.steps }
  pub paid : IsPaid old.steps old.memo new.steps new.memo

-- ---- the actions of a piece

-- those of a token's rule; a fault has none
abbrev pub actions_after : List (List Action) → Piece → List Action
actions_after actions (Token token) = actions_of actions token.index
actions_after actions (Skipped token) = actions_of actions token.index
actions_after actions (Fault start slice) = []

-- the stack after the next piece, if there is one
abbrev pub after_next : List (List Action) → Option Piece → Stack → Stack
after_next actions None s = s
after_next actions (Some item) s = after actions item s

-- no rule has more actions
abbrev pub HasAtMost : ℕ → List (List Action) → Type 0
HasAtMost most actions = (i : ℕ) → length (actions_of actions i) ≤ most

-- the text is cut in the mode on top, and each mode of the stack is there
pub record IsGoing (c : Cutting) (s : Stack) (most : ℕ) : Type 0 where
  pub on_top : c.mode ≡ s.mode
  pub there : EachMode (λ m. m < c.rules.modes) s
  pub few : HasAtMost most c.rules.actions
