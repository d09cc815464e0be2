-- cases: proofs/Cases/Refusal.antt
-- What a refusal of a pattern says.
use Rattle.std.specs.Prelude.{ℕ, List, []}
use Rattle.std.specs.Str.{IsCharBoundary}
use Rattle.lalrpop_hir.specs.Tree.{Tree}
use Rattle.lalrpop_re.specs.NamedPart.{NamedPart}
use Rattle.lalrpop_re.specs.Pattern.{PatternWith, IsPart}
use Rattle.lalrpop_re.specs.Unescaped.{Unescapes}
use Rattle.lalrpop_re.specs.declared.error.RegexError.{RegexError}
use Rattle.lalrpop_re.specs.declared.error.RegexError.TheVariants.{Syntax, OutOfMemory}

-- a syntax error means that the text does not parse, with these parts
abbrev pub HasNoTreeWith : List NamedPart → List ℕ → RegexError → Type 0
HasNoTreeWith parts s (Syntax position kind) = (t : Tree) → PatternWith parts s t → ⊥
HasNoTreeWith parts s OutOfMemory = Unit {0}

-- without parts
abbrev pub HasNoTree : List ℕ → RegexError → Type 0
HasNoTree s e = HasNoTreeWith [] s e

-- a syntax error means that the name and the text make no part
abbrev pub MakesNoPart : List NamedPart → List ℕ → List ℕ → RegexError → Type 0
MakesNoPart before name s (Syntax position kind) = (p : NamedPart) → IsPart before name s p → ⊥
MakesNoPart before name s OutOfMemory = Unit {0}

-- a syntax error means that the text with escapes says no text
abbrev pub SaysNoText : List ℕ → RegexError → Type 0
SaysNoText s (Syntax position kind) = (cs : List ℕ) → ¬ Unescapes s cs
SaysNoText s OutOfMemory = Unit {0}

-- the position counts bytes, is at most the length of the text, and lies at the beginning of a character or at the end
abbrev pub PointsInto : List ℕ → RegexError → Type 0
PointsInto text (Syntax position kind) = IsCharBoundary text position
PointsInto text OutOfMemory = Unit {0}
