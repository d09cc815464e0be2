-- The lines of the pieces of a text are safe to show: those of JSON always, and plain ones if the names of its file and of the rules are.
use Rattle.std.proofs.Common.{ℕ, Bool, true, false, List, [], ◌∷◌}
use Rattle.std.specs.Prelude.{All, Option, Some, None}
use Rattle.json.specs.Print.{print}
use Rattle.bajofeki_rules.specs.Position.{byte_place_of}
use Rattle.bajofeki_rules.specs.declared.position.Position.{Position}
use Rattle.bajofeki_rules.specs.Stack.{Stack}
use Rattle.lalrpop_rules.specs.Modes.{ModeRules, after}
use Rattle.lalrpop_rules.specs.declared.piece.Piece.{Piece}
use Rattle.lalrpop_rules.specs.declared.piece.Piece.TheVariants.{Token, Skipped, Fault}
use Rattle.reports_lib.specs.PieceLines.{line_in, mode_named, object_of, piece_line, piece_lines}
use Rattle.reports_lib.specs.Safe.{IsSafe}
use Rattle.lexdfa_lib.specs.declared.layout.LineForm.{LineForm}
use Rattle.lexdfa_lib.specs.declared.layout.LineForm.TheVariants.{Plain, Json}
use Rattle.reports_lib.proofs.SafeJson.{printed_line_is_safe}
use Rattle.reports_lib.proofs.SafeLaws.{safe_append, safe_nil}
use Rattle.reports_lib.proofs.SafeMessages.{IsSafeIfSome, line_is_safe, name_is_safe}

line_in_is_safe : (form : LineForm) (file : Option (List ℕ)) (p : Position) (start : ℕ) (name mode : Option (List ℕ)) (slice : List ℕ) → IsSafeIfSome file → IsSafeIfSome name
    → IsSafe (line_in form file p start name mode slice)
line_in_is_safe Plain file p start name mode slice file_safe name_safe = line_is_safe file name p slice file_safe name_safe
line_in_is_safe Json file p start name mode slice file_safe name_safe = printed_line_is_safe (print (object_of file p start name mode slice))

piece_is_safe : (form : LineForm) (recovers : Bool) (file : Option (List ℕ)) (names : List (List ℕ)) (mode : Option (List ℕ)) (text : List ℕ) (x : Piece) → IsSafeIfSome file
    → All IsSafe names → IsSafe (piece_line form recovers file names mode text x)
piece_is_safe form recovers file names mode text (Token token) file_safe safe =
    line_in_is_safe form file (byte_place_of text token.start) token.start (Some _) mode token.slice.now file_safe (name_is_safe names token.index safe)
piece_is_safe form recovers file names mode text (Skipped token) file_safe safe = safe_nil
piece_is_safe form true file names mode text (Fault start slice) file_safe safe = line_in_is_safe form file (byte_place_of text start) start None mode slice.now file_safe tt
piece_is_safe form false file names mode text (Fault start slice) file_safe safe = safe_nil

pub pieces_are_safe : (form : LineForm) (recovers : Bool) (file : Option (List ℕ)) (modes : List (List ℕ)) (rules : ModeRules) (text : List ℕ) (s : Stack) (xs : List Piece)
    → IsSafeIfSome file → All IsSafe rules.names → IsSafe (piece_lines form recovers file modes rules text s xs)
pieces_are_safe form recovers file modes rules text s [] file_safe safe = safe_nil
pieces_are_safe form recovers file modes rules text s (x ∷ xs) file_safe safe =
    safe_append (piece_is_safe form recovers file rules.names (mode_named modes s.mode) text x file_safe safe)
    (pieces_are_safe form recovers file modes rules text (after rules.actions x s) xs file_safe safe)
