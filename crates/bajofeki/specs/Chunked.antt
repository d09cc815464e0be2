-- cases: proofs/Cases/Chunked.antt
-- A text that comes in chunks, and the pieces that are given as soon as no later chunk can change them.
use Rattle.std.specs.Prelude.{◌≡◌, ◌≢◌, ℕ, ◌+◌, ◌^◌, ◌≤◌, ◌⊎◌, Bool, true, false, List, [], ◌∷◌, ◌++◌, length, drop, Option, Some, None, Result, Ok, Err}
use Rattle.std.specs.Borrow.{Bor}
use Rattle.std.specs.Str.{IsUtf8}
use Rattle.lalrpop_hir.specs.Tree.{Tree}
use Rattle.lalrpop_rules.specs.Found.{MatchesAt, NoMatchBefore}
use Rattle.lalrpop_rules.specs.Pieces.{IsPiece, slice_of, start_of}
use Rattle.lalrpop_rules.specs.declared.piece.Piece.{Piece}
use Rattle.bajofeki_rules.specs.Stack.{Stack, start}
use Rattle.lalrpop_rules.specs.Modes.{ModeRules, trees_in, after}
use Rattle.bajofeki.specs.Lexed.{BeginsLonger, placed}
use Rattle.bajofeki.specs.Begun.{IsBegun}
use Rattle.bajofeki.specs.Given.{piece_of}
use Rattle.bajofeki.specs.declared.given_piece.GivenPiece.{GivenPiece}
use Rattle.bajofeki.specs.declared.error.EditError.{EditError}
use Rattle.bajofeki.specs.declared.error.EditError.TheVariants.{NoBoundary, TooLarge, OutOfMemory}

-- by which rules the text is cut; the piece that was given last, unless more has come since; what has come and is in no piece that was given;
-- how many bytes were given, and the stack of modes after them; and whether no more comes
pub record Chunked : Type 0 where
  pub rules : ModeRules
  pub last : List ℕ
  pub rest : List ℕ
  pub at : ℕ
  pub stack : Stack
  pub is_ended : Bool

-- nothing has come
abbrev pub nothing_come : ModeRules → Chunked
nothing_come r = record { rules = r; last = []; rest = []; at = 0; stack = start; is_ended = false }

-- whatever comes, if anything may, this is the piece at the front of the rest
abbrev pub IsFinal : Chunked → Piece → Type 0
IsFinal c x = (more : List ℕ) → (c.is_ended ≡ true → more ≡ [])
    → IsPiece (trees_in c.rules c.stack.mode) c.rules.precedences c.rules.skips (c.rest ++ more) 0 (placed 0 x)

-- what comes may still change the piece at the front of the bytes: no tree matches anywhere in them; or they are text from their beginning on, or
-- from a later place on up to which none matches, and some tree matches a longer word than that text
abbrev pub IsOpen : List Tree → List ℕ → Type 0
IsOpen ts bytes = NoMatchBefore ts bytes (length bytes)
    ⊎ ((k : ℕ) × (IsUtf8 (drop k bytes) × ((k ≡ 0) ⊎ NoMatchBefore ts bytes (k + 1)) × BeginsLonger ts (drop k bytes)))

-- the same where a character may have begun after them
abbrev pub IsOpenIn : List Tree → List ℕ → Type 0
IsOpenIn ts bytes = (come : List ℕ) × ((left : List ℕ) × ((bytes ≡ come ++ left) × (IsBegun left × IsOpen ts come)))

-- so no piece is given: all was given, or more may come that changes the next one
abbrev pub IsHeldBack : Chunked → Type 0
IsHeldBack c = (c.is_ended ≡ true → c.rest ≡ []) × (c.is_ended ≡ false → IsOpenIn (trees_in c.rules c.stack.mode) c.rest)

-- one call gives the next piece, which is final; or none, and nothing changes, where it must be held back
abbrev pub GivesFinal : Chunked → Option Piece → Chunked → Type 0
GivesFinal old None new = (new ≡ old) × IsHeldBack old
GivesFinal old (Some x) new =
    IsFinal old x × (start_of x ≡ old.at)
    × (new ≡ record old { last = slice_of x; rest = drop (length (slice_of x)) old.rest; at = old.at + length (slice_of x); stack = after old.rules.actions x old.stack })

-- the error is right: more bytes have come than can be counted; or memory was refused
abbrev pub IsChunkError : Chunked → EditError → Type 0
IsChunkError c NoBoundary = ⊥
IsChunkError c TooLarge = 2 ^ 64 ≤ c.at + length c.rest
IsChunkError c OutOfMemory = Unit {0}

-- what one call of `next_piece` does: it gives the next piece or none, or an error, where nothing changes
abbrev pub GivesOrRefuses : Chunked → Result (Option GivenPiece) EditError → Chunked → Type 0
GivesOrRefuses old (Ok None) new = GivesFinal old None new
GivesOrRefuses old (Ok (Some piece)) new = (slice : Bor (List ℕ)) → slice.now ≡ new.last → GivesFinal old (Some (piece_of piece slice)) new
GivesOrRefuses old (Err error) new = (new ≡ old) × IsChunkError old error

-- whatever comes, if anything may, nothing matches at the front of the rest: a fault begins there
abbrev pub BeginsFault : Chunked → Type 0
BeginsFault c = (c.rest ≢ []) × ((more : List ℕ) → (c.is_ended ≡ true → more ≡ []) → NoMatchBefore (trees_in c.rules c.stack.mode) (c.rest ++ more) 1)

-- the bytes are a text, after which a character may have begun, and some tree matches a longer word than the text
abbrev pub MayBegin : List Tree → List ℕ → Type 0
MayBegin ts bytes = (text : List ℕ) × ((left : List ℕ) × ((bytes ≡ text ++ left) × (IsUtf8 text × (IsBegun left × BeginsLonger ts text))))

-- some tree matches a word that the rest begins with; or may match one that begins with the rest, if more may come
abbrev pub MayMatch : Chunked → Type 0
MayMatch c = MatchesAt (trees_in c.rules c.stack.mode) c.rest 0 ⊎ ((c.is_ended ≡ false) × MayBegin (trees_in c.rules c.stack.mode) c.rest)

-- this text has come, in any chunks, and these pieces were given
pub data Came (r : ModeRules) : List ℕ → List Piece → Chunked → Type 0 where
  nothing : Came r [] [] (nothing_come r)
  fed : {text : List ℕ} {xs : List Piece} {c : Chunked} (chunk : List ℕ) → c.is_ended ≡ false → Came r text xs c
      → Came r (text ++ chunk) xs (record c { last = []; rest = c.rest ++ chunk })
  given : {text : List ℕ} {xs : List Piece} {c d : Chunked} (x : Piece) → GivesFinal c (Some x) d → Came r text xs c → Came r text (xs ++ x ∷ []) d
  ended : {text : List ℕ} {xs : List Piece} {c : Chunked} → Came r text xs c → Came r text xs (record c { is_ended = true })
