-- cases: proofs/Cases/Lexed.antt
-- A text with its pieces, and what an edit changes of it.
use Rattle.std.specs.Prelude.{◌≡◌, ◌≢◌, ℕ, ◌+◌, ◌-◌, ◌≤◌, ◌⊎◌, Bool, nat_lt, max, min, List, [], ◌∷◌, ◌++◌, length, take, drop, filter, Some, slice_get}
use Rattle.std.specs.Str.{chars, IsCharBoundary}
use Rattle.lalrpop_hir.specs.Tree.{Tree}
use Rattle.lalrpop_hir.specs.Winners.{Matched}
use Rattle.bajofeki_rules.specs.declared.action.Action.{Action}
use Rattle.bajofeki_rules.specs.Stack.{Stack, start}
use Rattle.lalrpop_rules.specs.Modes.{ModeRules, ArePiecesFrom, after_all, trees_in}
use Rattle.lalrpop_rules.specs.Pieces.{AreSame, joined, slice_of, start_of}
use Rattle.lalrpop_rules.specs.declared.piece.Piece.{Piece}
use Rattle.lalrpop_rules.specs.declared.piece.Piece.TheVariants.{Token, Skipped, Fault}
use Rattle.bajofeki.specs.declared.change.Change.{Change}
use Rattle.bajofeki.specs.declared.error.EditError.{EditError}
use Rattle.bajofeki.specs.declared.error.EditError.TheVariants.{NoBoundary, TooLarge, OutOfMemory}

-- a text, and the rules that cut it. So its pieces are told too: all there are, from the beginning, in the first mode
pub record Lexed : Type 0 where
  pub rules : ModeRules
  pub text : List ℕ

-- these are its pieces
abbrev pub ArePiecesOf : Lexed → List Piece → Type 0
ArePiecesOf l xs = (end : Stack) × ArePiecesFrom l.rules l.text 0 start xs end

-- the text with the bytes from `from` to `to` replaced
abbrev pub replaced : List ℕ → ℕ → ℕ → List ℕ → List ℕ
replaced text from to new = take from text ++ (new ++ drop to text)

-- the bytes from `from` to `to` are whole characters of the text
pub record IsRange (text : List ℕ) (from to : ℕ) : Type 0 where
  pub order : from ≤ to
  pub begins : IsCharBoundary text from
  pub ends : IsCharBoundary text to

-- the error is right: the range isn't one of whole characters; else the new text has 4,294,967,295 bytes or more, or there are as many
-- rules; or memory was refused
abbrev pub IsEditError : Lexed → ℕ → ℕ → List ℕ → EditError → Type 0
IsEditError l from to new NoBoundary = ¬ IsRange l.text from to
IsEditError l from to new TooLarge = IsRange l.text from to × ((4294967295 ≤ length (replaced l.text from to new)) ⊎ (4294967295 ≤ length l.rules.trees))
IsEditError l from to new OutOfMemory = IsRange l.text from to

-- the same piece, beginning at this place
abbrev pub placed : ℕ → Piece → Piece
placed at (Token token) = Token (record token { start = at })
placed at (Skipped token) = Skipped (record token { start = at })
placed at (Fault begins slice) = Fault at slice

-- the same pieces, one after another from this place on
abbrev pub placed_from : ℕ → List Piece → List Piece
placed_from at [] = []
placed_from at (x ∷ xs) = placed at x ∷ placed_from (at + length (slice_of x)) xs

-- the pieces xs of a text became the pieces ys of another: the first ones stay, then some went and others came in their place, and the
-- rest are the same, shifted
pub record IsChangeOf (xs ys : List Piece) (c : Change) : Type 0 where
  pub removed : c.first + c.removed ≤ length xs
  pub inserted : c.first + c.inserted ≤ length ys
  pub front : AreSame (take c.first xs) (take c.first ys)
  pub behind : AreSame (placed_from c.new_end (drop (c.first + c.removed) xs)) (drop (c.first + c.inserted) ys)
  pub start_is : c.start ≡ length (joined (take c.first xs))
  pub old_end_is : c.old_end ≡ length (joined (take (c.first + c.removed) xs))
  pub new_end_is : c.new_end ≡ length (joined (take (c.first + c.inserted) ys))

-- so the pieces of the one text became those of the other
abbrev pub IsChange : Lexed → Lexed → Change → Type 0
IsChange old new c = (xs ys : List Piece) → ArePiecesOf old xs → ArePiecesOf new ys → IsChangeOf xs ys c

-- where the first n pieces end
abbrev pub end_of : ℕ → List Piece → ℕ
end_of n xs = length (joined (take n xs))

-- the first i old pieces and the first j new ones end at one place after what was replaced, in the same modes
pub record MeetAt (actions : List (List Action)) (from to size : ℕ) (xs ys : List Piece) (i j : ℕ) : Type 0 where
  pub behind : to ≤ end_of i xs
  pub same : from + size + (end_of i xs - to) ≡ end_of j ys
  pub stack : after_all actions (take i xs) start ≡ after_all actions (take j ys) start

-- of the pieces that went and came none meet before the last: the text was cut anew no further than needed
abbrev pub IsEarliest : Lexed → Lexed → ℕ → ℕ → ℕ → Change → Type 0
IsEarliest old new from to size c = (xs ys : List Piece) → ArePiecesOf old xs → ArePiecesOf new ys → (i j : ℕ) → c.first ≤ i → i ≤ c.first + c.removed
    → c.first ≤ j → j ≤ c.first + c.inserted → MeetAt old.rules.actions from to size xs ys i j → (i ≡ c.first + c.removed) × (j ≡ c.first + c.inserted)

-- some tree matches a longer word, which the text begins
abbrev pub BeginsLonger : List Tree → List ℕ → Type 0
BeginsLonger ts text = (v : List ℕ) × ((v ≢ []) × Matched ts (chars text ++ v))

-- from the one place of the text on, all up to the other begins a word that some tree matches
abbrev pub ReadsTo : List Tree → List ℕ → ℕ → ℕ → Type 0
ReadsTo ts text at to = (at ≤ to) × ((v : List ℕ) × Matched ts (chars (take (to - at) (drop at text)) ++ v))

-- what is at the place may change the piece: it ends there or after; or all up to there begins a word that some tree matches, from where a token begins on,
-- or from a place in a fault or right after it
abbrev pub Reaches : List Tree → List ℕ → ℕ → Piece → Type 0
Reaches ts text place (Token token) = (place ≤ token.start + length token.slice.now) ⊎ ReadsTo ts text token.start place
Reaches ts text place (Skipped token) = (place ≤ token.start + length token.slice.now) ⊎ ReadsTo ts text token.start place
Reaches ts text place (Fault at slice) =
    (place ≤ at + length slice.now) ⊎ ((k : ℕ) × ((at ≤ k) × (k ≤ at + length slice.now) × IsCharBoundary text k × ReadsTo ts text k place))

-- the first piece after those that stay reaches what was replaced: in front of it no piece is cut anew that needn't be
abbrev pub FirstReaches : Lexed → ℕ → Change → Type 0
FirstReaches old from c = (xs : List Piece) → ArePiecesOf old xs → (x : Piece) → slice_get xs c.first ≡ Some x
    → Reaches (trees_in old.rules (after_all old.rules.actions (take c.first xs) start).mode) old.text from x

-- whether the piece holds a byte of the text from `from` up to `to`: what begins later begins before either ends
abbrev pub holds_byte : ℕ → ℕ → Piece → Bool
holds_byte from to x = nat_lt (max from (start_of x)) (min to (start_of x + length (slice_of x)))

-- those that do
abbrev pub holding : ℕ → ℕ → List Piece → List Piece
holding from to xs = filter (holds_byte from to) xs

-- these are the pieces of the text that hold such a byte, each whole: what is left of all its pieces without the others
abbrev pub ArePiecesIn : Lexed → ℕ → ℕ → List Piece → Type 0
ArePiecesIn l from to ys = (xs : List Piece) × (ArePiecesOf l xs × (ys ≡ holding from to xs))
