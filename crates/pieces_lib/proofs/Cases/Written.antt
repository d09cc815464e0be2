-- Cases of specs/Written.antt.
use Rattle.std.proofs.Common.{◌≡◌, ◌≤◌, ℕ, true, false, List, [], ◌∷◌, length, take, codes, refl, subst, arith}
use Rattle.std.specs.Prelude.{Bool, Option, Some, None, is_some}
use Rattle.std.specs.Io.KnownBytes.{Appends}
use Rattle.bajofeki.specs.Chunked.{nothing_come}
use Rattle.lalrpop_rules.specs.Modes.{ModeRules, ArePiecesFrom}
use Rattle.bajofeki_rules.specs.Stack.{Stack, start as first_stack}
use Rattle.lalrpop_rules.proofs.UniquePieces.{no_piece_left}
use Rattle.lalrpop_rules.specs.declared.piece.Piece.{Piece}
use Rattle.lexdfa_lib.specs.declared.error.RunError.TheVariants.{Write}
use Rattle.lexdfa_lib.specs.Streams.{opened}
use Rattle.pieces_lib.specs.Console.{Console}
use Rattle.pieces_lib.specs.CutEnds.{first_fault}
use Rattle.pieces_lib.specs.TextAnswer.{page_of}
use Rattle.pieces_lib.specs.Written.{WritesCut, WritesCutPart}
use Rattle.lexdfa_lib.specs.declared.command.Markup.TheVariants.{Html}
use Rattle.pieces_lib.specs.declared.cut_end.CutEnd.TheVariants.{Whole}
use Rattle.pieces_lib.specs.declared.cut_end.OpenMode.{OpenMode}
use Rattle.pieces_lib.proofs.Cases.CutEnds.{all_of_nothing, empty_text, no_byte, none_given, nothing_given, nothing_read}

abbrev page : ModeRules → List ℕ → List Piece → List ℕ
page rules text xs = page_of Html rules.names xs

-- standard output takes these bytes, and is broken or not
abbrev screen : List ℕ → Bool → Console
screen bytes is_broken = record { out = record { bytes = Some bytes; may_fail = true; is_broken = is_broken; late = 0 }; err = opened (Some []) true }

-- of an empty text nothing is written, and it has no fault
nothing_is_written : (rules : ModeRules) → WritesCut rules true (page rules) all_of_nothing (screen [] false) (screen [] false) (Whole false None)
nothing_is_written rules = ([], (empty_text rules true, ((refl, refl), refl)))

nothing_has_no_fault : (rules : ModeRules) (xs : List Piece) (end : Stack) → ArePiecesFrom rules [] 0 first_stack xs end → true ≡ is_some (first_fault xs) → ⊥
nothing_has_no_fault rules [] end are first = absurd (cc (first))
nothing_has_no_fault rules (x ∷ xs) end are first = no_piece_left _ _ _ [] 0 x are.0 refl

fault_of_nothing : (rules : ModeRules) (inside : Option OpenMode) → ¬ WritesCut rules true (page rules) all_of_nothing (screen [] false) (screen [] false) (Whole true inside)
fault_of_nothing rules inside (xs, (cut, sent)) = nothing_has_no_fault rules xs cut.1.0 cut.1.1.0 cut.1.1.1.0

-- a failed write took nothing of an empty page, and no byte more
nothing_of_it : (rules : ModeRules) → WritesCutPart rules true (page rules) nothing_read (screen [] false) Write (screen [] true)
nothing_of_it rules = ([], ([], ([], (nothing_come rules, (refl, (none_given rules true, (((refl, refl), (0, omega arith, refl)), refl)))))))

no_byte_of_it : (rules : ModeRules) → ¬ WritesCutPart rules true (page rules) nothing_read (screen [] false) Write (screen (codes "x") true)
no_byte_of_it rules (text, (left, (xs, (c, (begins, (are, ((breaks, (n, le, e)), same))))))) =
    let none = nothing_given rules text left xs c true begins are in
    no_byte n (subst (λ (ys : List Piece). n ≤ length (page_of Html rules.names ys)) none le)
    (subst (λ (ys : List Piece). Appends (Some []) (Some (codes "x")) (take n (page_of Html rules.names ys))) none e)
