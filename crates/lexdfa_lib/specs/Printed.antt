-- cases: proofs/Cases/Printed.antt
-- The line of an outcome.
use Rattle.std.specs.Prelude.{ℕ, List, [], ◌++◌, codes, decimal, flat_map}
use Rattle.lalrpop_hir.specs.declared.error.NfaConstructionError.{NfaConstructionError}
use Rattle.lalrpop_hir.specs.declared.error.NfaConstructionError.TheVariants.{NamedCaptures, NonGreedy, LookAround, ByteRegex, OutOfMemory}
use Rattle.lexdfa_lib.specs.Word.{value_text}
use Rattle.lexdfa_lib.specs.declared.outcome.Outcome.{Outcome}
use Rattle.lexdfa_lib.specs.declared.outcome.Outcome.TheVariants.{Match, NoMatch, All, Stopped, Refused, Ambiguous, Syntax, Line}

-- the name of a refusal
abbrev pub name_of : NfaConstructionError → List ℕ
name_of NamedCaptures = codes "NamedCaptures"
name_of NonGreedy = codes "NonGreedy"
name_of LookAround = codes "LookAround"
name_of ByteRegex = codes "ByteRegex"
name_of OutOfMemory = codes "OutOfMemory"

-- the line, with its line feed; empty if all of a text was cut, since each token has its own
abbrev pub line_of : Outcome → List ℕ
line_of (Match terminal bytes) = codes "match " ++ decimal terminal ++ (codes " " ++ decimal bytes ++ codes "\n")
line_of NoMatch = codes "none\n"
line_of (All tokens) = []
line_of (Stopped tokens at) = codes "stop " ++ decimal at ++ codes "\n"
line_of (Refused terminal error) = codes "refused " ++ decimal terminal ++ (codes " " ++ name_of error ++ codes "\n")
line_of (Ambiguous match0 match1 word) =
    codes "ambiguous " ++ decimal match0 ++ (codes " " ++ decimal match1 ++ (flat_map value_text word ++ codes "\n"))
line_of (Syntax terminal) = codes "syntax " ++ decimal terminal ++ codes "\n"
line_of (Line line) = codes "line " ++ decimal line ++ codes "\n"
