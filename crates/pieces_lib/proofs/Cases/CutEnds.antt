-- Cases of specs/CutEnds.antt.
use Rattle.std.proofs.Common.{◌≡◌, ◌≤◌, ℕ, zero, suc, Bool, true, false, List, [], ◌∷◌, ◌++◌, take, codes, refl, sym, ap, ◌∙◌, arith}
use Rattle.std.specs.Prelude.{Option, Some, None}
use Rattle.std.specs.Borrow.{Bor}
use Rattle.std.specs.Str.{chars}
use Rattle.std.proofs.lemmas.Str.{chars-nil}
use Rattle.std.specs.Io.KnownBytes.{Appends}
use Rattle.lalrpop_hir.specs.declared.token.Token.{Token as Cut}
use Rattle.bajofeki.specs.Chunked.{Chunked, nothing_come, nothing}
use Rattle.bajofeki.proofs.ChunkLaws.{came_to}
use Rattle.bajofeki_rules.specs.declared.position.Position.{Position}
use Rattle.lalrpop_rules.specs.Modes.{ModeRules}
use Rattle.bajofeki_rules.specs.Stack.{start}
use Rattle.lalrpop_rules.proofs.UniquePieces.{no_piece_left}
use Rattle.lalrpop_rules.specs.declared.piece.Piece.{Piece}
use Rattle.lalrpop_rules.specs.declared.piece.Piece.TheVariants.{Token, Skipped, Fault}
use Rattle.lexdfa_lib.specs.Streams.{Reading, AtEnd, Failed, LeftOff}
use Rattle.pieces_lib.specs.CutEnds.{AreGiven, IsCutTo, IsFound, first_fault}
use Rattle.pieces_lib.specs.declared.cut_end.CutEnd.TheVariants.{Whole, Stopped, Unread}
use Rattle.pieces_lib.specs.declared.cut_end.Found.{Found}
use Rattle.pieces_lib.specs.declared.cut_end.Found.TheVariants.{Character, Byte}
use Rattle.pieces_lib.specs.declared.cut_end.OpenMode.{OpenMode}

-- ---- the first fault

fault_behind_others : (token skipped : Cut) (slice other : Bor (List ℕ))
    → first_fault (Token token ∷ Skipped skipped ∷ Fault 7 slice ∷ Fault 9 other ∷ []) ≡ Some 7
fault_behind_others token skipped slice other = refl

no_fault : (token : Cut) → first_fault (Token token ∷ []) ≡ None
no_fault token = refl

-- ---- what is found

-- a character, whatever comes after it
found_letter : (more : List ℕ) → IsFound (97 ∷ more) (Character 97)
unfolding chars lib.Utf8.encode
found_letter more = (97 ∷ [], ((more, (refl, (97 ∷ [], (refl, refl)))), refl))

-- it isn't told as a byte
letter_is_no_byte : (more : List ℕ) → ¬ IsFound (97 ∷ more) (Byte 97)
unfolding lib.Utf8.encode
letter_is_no_byte more found = found.0 1 (omega arith) (omega arith) (97 ∷ [], (refl, refl))

-- and nothing is found in nothing
found_in_nothing : (found : Found) → ¬ IsFound [] found
found_in_nothing (Byte b) is = absurd (cc (is.1.1))
found_in_nothing (Character c) (p, ((rest, (all, utf8)), first)) = no_character p rest all first
  where
    no_character : (p rest : List ℕ) → [] ≡ p ++ rest → chars p ≡ c ∷ [] → ⊥
    no_character [] rest all first = absurd (cc (sym chars-nil ∙ first))
    no_character (x ∷ p) rest all first = absurd (cc (all))

-- ---- how cutting ends

-- nothing was there
abbrev pub all_of_nothing : Reading
all_of_nothing = record { bytes = []; end = AtEnd }

pub empty_text : (rules : ModeRules) (recovers : Bool) → IsCutTo rules recovers all_of_nothing [] [] (Whole false None)
empty_text rules recovers = (refl, (start, ((refl, refl), (refl, ((λ _. refl), refl)))))

-- a fault where cutting ends isn't cut past
fault_stops : (rules : ModeRules) (reading : Reading) (text : List ℕ) (xs : List Piece) (inside : Option OpenMode)
    → ¬ IsCutTo rules false reading text xs (Whole true inside)
fault_stops rules reading text xs inside cut = absurd (cc (cut.1.1.1.1.0 refl))

-- where cutting goes on, it doesn't stop
never_stops : (rules : ModeRules) (reading : Reading) (text : List ℕ) (xs : List Piece) (place : Position) (found : Found)
    → ¬ IsCutTo rules true reading text xs (Stopped place found)
never_stops rules reading text xs place found cut = absurd (cc (cut.0))

-- what was left off isn't whole
left_off : (rules : ModeRules) (recovers : Bool) (bytes text : List ℕ) (xs : List Piece) (has_fault : Bool) (inside : Option OpenMode)
    → ¬ IsCutTo rules recovers (record { bytes = bytes; end = LeftOff }) text xs (Whole has_fault inside)
left_off rules recovers bytes text xs has_fault inside cut = absurd (cc (cut.0))

-- and a text that was read to its end isn't unread
read_to_its_end : (rules : ModeRules) (recovers : Bool) (bytes text : List ℕ) (xs : List Piece)
    → ¬ IsCutTo rules recovers (record { bytes = bytes; end = AtEnd }) text xs Unread
read_to_its_end rules recovers bytes text xs cut = absurd (cc (cut.0))

-- ---- nothing was read, since a read failed

abbrev pub nothing_read : Reading
nothing_read = record { bytes = []; end = Failed }

pub none_given : (rules : ModeRules) (recovers : Bool) → AreGiven rules recovers nothing_read [] [] (nothing_come rules)
none_given rules recovers = record { came = nothing; ended = λ over. absurd (cc (over)); no_fault = λ _. refl }

front_of_nothing : (front back : List ℕ) → [] ≡ front ++ back → front ≡ []
front_of_nothing [] back e = refl
front_of_nothing (x ∷ front) back e = absurd (cc (e))

-- so nothing is given
pub nothing_given : (rules : ModeRules) (text left : List ℕ) (xs : List Piece) (c : Chunked) (recovers : Bool) → [] ≡ text ++ left
    → AreGiven rules recovers nothing_read text xs c → xs ≡ []
nothing_given rules text left [] c recovers is are = refl
nothing_given rules text left (x ∷ xs) c recovers is are =
    let to = came_to rules text (x ∷ xs) c are.came [] (λ _. refl) in
    absurd (no_piece_left _ _ _ (text ++ []) 0 x to.0 (ap (λ (t : List ℕ). t ++ []) (front_of_nothing text left is)))

-- and a byte isn't one of none
pub no_byte : (n : ℕ) → n ≤ 0 → ¬ Appends (Some []) (Some (codes "x")) (take n [])
no_byte zero le e = absurd (cc (e))
no_byte (suc n) le e = absurd (omega (arith, le))
