-- cases: proofs/Cases/Written.antt
-- What is written for a text that is cut by rules.
use Rattle.std.specs.Prelude.{◌≡◌, ℕ, Bool, List, ◌++◌}
use Rattle.bajofeki.specs.Chunked.{Chunked}
use Rattle.lalrpop_rules.specs.Modes.{ModeRules}
use Rattle.lalrpop_rule_file.specs.RuleFile.{without_mark}
use Rattle.lalrpop_rules.specs.declared.piece.Piece.{Piece}
use Rattle.lexdfa_lib.specs.declared.error.RunError.{RunError}
use Rattle.lexdfa_lib.specs.Streams.{Reading}
use Rattle.pieces_lib.specs.Console.{Console, Writes, WritesPart}
use Rattle.pieces_lib.specs.CutEnds.{AreGiven, IsCutTo}
use Rattle.pieces_lib.specs.declared.cut_end.CutEnd.{CutEnd}

-- exactly this was written for the pieces that are cut of what was read, and cutting ended so
abbrev pub WritesCut : ModeRules → Bool → (List ℕ → List Piece → List ℕ) → Reading → Console → Console → CutEnd → Type 0
WritesCut rules recovers out reading old new ended =
    (xs : List Piece) × (IsCutTo rules recovers reading (without_mark reading.bytes) xs ended × Writes old (out (without_mark reading.bytes) xs) new)

-- a prefix was written of what is written for pieces that were given
abbrev pub WritesCutPart : ModeRules → Bool → (List ℕ → List Piece → List ℕ) → Reading → Console → RunError → Console → Type 0
WritesCutPart rules recovers out reading old error new =
    (text : List ℕ) × ((left : List ℕ) × ((xs : List Piece) × ((c : Chunked) × ((without_mark reading.bytes ≡ text ++ left)
    × (AreGiven rules recovers reading text xs c × WritesPart old (out text xs) error new)))))
