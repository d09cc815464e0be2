-- What is said of the end of a text is safe to show, if the names of its file and of its modes are.
use Rattle.std.proofs.Common.{◌<◌, ℕ, List, codes, refl}
use Rattle.std.specs.Char.{IsScalar}
use Rattle.bajofeki_rules.specs.declared.position.Position.{Position}
use Rattle.reports_lib.specs.Safe.{IsSafe}
use Rattle.reports_lib.proofs.SafeLaws.{byte_is_safe, decimal_is_safe, plain_is_safe, safe_append, said, told_is_safe}
use Rattle.pieces_lib.specs.TextAnswer.{fault_text, found_told, open_text, place_in}
use Rattle.pieces_lib.specs.declared.cut_end.Found.{Found}
use Rattle.pieces_lib.specs.declared.cut_end.Found.TheVariants.{Character, Byte}

place_is_safe : {file : List ℕ} (p : Position) → IsSafe file → IsSafe (place_in file p)
place_is_safe p file =
    safe_append file (said (codes ":") refl (safe_append (decimal_is_safe p.line) (said (codes ":") refl
    (safe_append (decimal_is_safe p.column) (plain_is_safe (codes ": ") refl)))))

-- a character, or a byte
abbrev pub FitsFound : Found → Type 0
FitsFound (Character c) = IsScalar c
FitsFound (Byte b) = b < 256

found_is_safe : (found : Found) → FitsFound found → IsSafe (found_told found)
found_is_safe (Character c) scalar = told_is_safe c scalar
found_is_safe (Byte b) fits = byte_is_safe b

-- no rule matches what was found
pub fault_is_safe : {file : List ℕ} (p : Position) (found : Found) → IsSafe file → FitsFound found → IsSafe (fault_text file p (found_told found))
fault_is_safe p found file fits =
    said (codes "tokens: ") refl (safe_append (place_is_safe p file) (said (codes "no rule matches \"") refl
    (safe_append (found_is_safe found fits) (plain_is_safe (codes "\"\n") refl))))

-- the text ends in this mode
pub open_is_safe : {mode file : List ℕ} (p : Position) → IsSafe mode → IsSafe file → IsSafe (open_text mode file p)
open_is_safe p mode file =
    said (codes "tokens: ") refl (safe_append (place_is_safe p file) (said (codes "the text ends in mode ") refl
    (safe_append mode (plain_is_safe (codes ", which was entered here\n") refl))))
