-- cases: proofs/Cases/Word.antt
-- How the values of a word are written.
use Rattle.std.specs.Prelude.{ℕ, false, List, ◌++◌, codes}
use Rattle.std.specs.Fmt.{digits}

-- a space, and the value in lower-case hexadecimal without leading zeros
abbrev pub value_text : ℕ → List ℕ
value_text value = codes " " ++ digits 16 false value
