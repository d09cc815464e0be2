-- cases: proofs/Cases/Text.antt
-- The characters of a pattern, and notation for them.
use Rattle.std.specs.Prelude.{ℕ, Bool, nat_eq, List, ◌++◌, codes}
use Rattle.std.specs.List.{starts_with}
use Prim.Native.String.{String}

-- A place of a pattern, as the characters from there to the end: place a of s is `drop a s`.
abbrev pub Text : Type 0
Text = List ℕ

-- a word, and what follows it
infixr 10 ◌▸◌
abbrev pub ◌▸◌ : List ℕ → Text → Text
w ▸ t = w ++ t

-- the text begins with this word
abbrev pub begins : String → Text → Bool
begins s t = starts_with nat_eq t (codes s)
