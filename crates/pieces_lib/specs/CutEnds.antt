-- cases: proofs/Cases/CutEnds.antt
-- How cutting a text ends that is read as it comes.
use Rattle.std.specs.Prelude.{◌≡◌, ℕ, ◌⊎◌, Bool, true, false, List, [], ◌∷◌, ◌++◌, Option, Some, None, is_some}
use Rattle.std.specs.Str.{chars}
use Rattle.lalrpop_hir.specs.Prefix.{IsPrefix}
use Rattle.bajofeki.specs.Chunked.{Chunked, Came, IsHeldBack, BeginsFault, MayMatch}
use Rattle.bajofeki.specs.Begun.{IsBegun, NoCharacter}
use Rattle.bajofeki_rules.specs.Position.{byte_place_of}
use Rattle.lalrpop_rules.specs.Modes.{ModeRules, ArePiecesFrom}
use Rattle.bajofeki_rules.specs.Stack.{Stack, start}
use Rattle.lalrpop_rules.specs.declared.piece.Piece.{Piece}
use Rattle.lalrpop_rules.specs.declared.piece.Piece.TheVariants.{Fault}
use Rattle.lexdfa_lib.specs.Streams.{Reading, AtEnd, Failed}
use Rattle.pieces_lib.specs.OpenModes.{open_behind, open_mode}
use Rattle.pieces_lib.specs.declared.cut_end.CutEnd.{CutEnd}
use Rattle.pieces_lib.specs.declared.cut_end.CutEnd.TheVariants.{Whole, Stopped, Unread}
use Rattle.pieces_lib.specs.declared.cut_end.Found.{Found}
use Rattle.pieces_lib.specs.declared.cut_end.Found.TheVariants.{Character, Byte}

-- where the first fault begins
abbrev pub first_fault : List Piece → Option ℕ
first_fault [] = None
first_fault (Fault begin slice ∷ xs) = Some begin
first_fault (x ∷ xs) = first_fault xs

-- these pieces were given of the text that has come, and nothing that comes can change them; none of them is a fault, if cutting ends at one
pub record AreGiven (rules : ModeRules) (recovers : Bool) (reading : Reading) (text : List ℕ) (xs : List Piece) (c : Chunked) : Type 0 where
  pub came : Came rules text xs c
  pub ended : c.is_ended ≡ true → reading.end ≡ AtEnd
  pub no_fault : recovers ≡ false → first_fault xs ≡ None

-- what is at the front of some bytes: a character, or a byte where none is
abbrev pub IsFound : List ℕ → Found → Type 0
IsFound bytes (Character c) = (p : List ℕ) × (IsPrefix p bytes × (chars p ≡ c ∷ []))
IsFound bytes (Byte b) = NoCharacter bytes × ((rest : List ℕ) × (bytes ≡ b ∷ rest))

-- the same of the rest of a text, whatever comes, if anything may
abbrev pub IsFoundNext : Chunked → Found → Type 0
IsFoundNext c found = (more : List ℕ) → (c.is_ended ≡ true → more ≡ []) → IsFound (c.rest ++ more) found

-- the pieces that were cut of the text, and how cutting ended: at the end of the text, with all its pieces; at a fault, which nothing that comes
-- can change; or where a read failed, with all pieces that nothing that comes could change. Then something may match next, if cutting ends at
-- a fault, or nothing is left but a character that has begun
abbrev pub IsCutTo : ModeRules → Bool → Reading → List ℕ → List Piece → CutEnd → Type 0
IsCutTo rules recovers reading text xs (Whole has_fault inside) =
    (reading.end ≡ AtEnd) × ((end : Stack) × (ArePiecesFrom rules text 0 start xs end
    × ((has_fault ≡ is_some (first_fault xs)) × ((recovers ≡ false → has_fault ≡ false) × (inside ≡ open_mode text end.mode (open_behind rules.actions xs []))))))
IsCutTo rules recovers reading text xs (Stopped place found) =
    (recovers ≡ false) × ((c : Chunked) × (AreGiven rules recovers reading text xs c × (BeginsFault c × ((place ≡ byte_place_of text c.at) × IsFoundNext c found))))
IsCutTo rules recovers reading text xs Unread =
    (reading.end ≡ Failed)
    × ((c : Chunked) × (AreGiven rules recovers reading text xs c × ((c.is_ended ≡ false) × (IsHeldBack c × (recovers ≡ false → IsBegun c.rest ⊎ MayMatch c)))))
