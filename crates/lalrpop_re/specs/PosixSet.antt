-- cases: proofs/Cases/PosixSet.antt
-- The POSIX classes, by name.
use Rattle.std.specs.Prelude.{ℕ, ◌||◌, List, Option, Some, None, if◌then◌else◌, codes, bytes_eq}
use Rattle.std.specs.Char.{is_ascii, is_ascii_alphanumeric, is_ascii_alphabetic, is_ascii_control, is_ascii_digit, is_ascii_graphic, is_ascii_lowercase, is_ascii_punctuation, is_ascii_uppercase, is_ascii_hexdigit}
use Rattle.std.specs.Int.{is_in_range}
use Rattle.lalrpop_re.specs.CharacterSet.{Set, is_one_of}

abbrev pub posix_set : List ℕ → Option Set
posix_set name =
    if bytes_eq name (codes "alnum") then Some is_ascii_alphanumeric
    else if bytes_eq name (codes "alpha") then Some is_ascii_alphabetic
    else if bytes_eq name (codes "ascii") then Some is_ascii
    else if bytes_eq name (codes "blank") then Some (is_one_of "\t ")
    else if bytes_eq name (codes "cntrl") then Some is_ascii_control
    else if bytes_eq name (codes "digit") then Some is_ascii_digit
    else if bytes_eq name (codes "graph") then Some is_ascii_graphic
    else if bytes_eq name (codes "lower") then Some is_ascii_lowercase
    else if bytes_eq name (codes "print") then Some (is_in_range 0x20 0x7E)
    else if bytes_eq name (codes "punct") then Some is_ascii_punctuation
    else if bytes_eq name (codes "space") then Some (λ c. is_in_range 9 13 c || is_one_of " " c)
    else if bytes_eq name (codes "upper") then Some is_ascii_uppercase
    else if bytes_eq name (codes "word") then Some (λ c. is_ascii_alphanumeric c || is_one_of "_" c)
    else if bytes_eq name (codes "xdigit") then Some is_ascii_hexdigit
    else None
