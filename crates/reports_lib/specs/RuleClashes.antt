-- cases: proofs/Cases/RuleClashes.antt
-- What is written for all clashes of rules.
use Rattle.std.specs.Prelude.{ℕ, ◌+◌, List, [], ◌∷◌, ◌++◌, Option, Some, None, codes, flat_map}
use Rattle.lalrpop_hir.specs.Clashes.{Entry}
use Rattle.bajofeki_rules.specs.Quoted.{quoted_word}
use Rattle.reports_lib.specs.PieceLines.{mode_named, name_at}

-- the mode, if it is named
abbrev pub mode_text : Option (List ℕ) → List ℕ
mode_text None = []
mode_text (Some mode) = mode ++ codes " "

-- the line of a clash: the name of the mode, if there are several, the name of the rule that is first in the file, the name of the other
-- rule, and the word
abbrev pub named_line : List (List ℕ) → Option (List ℕ) → Entry → List ℕ
named_line names mode c =
    mode_text mode ++ (name_at names c.match1 ++ (codes " " ++ (name_at names c.match0 ++ (codes " " ++ (quoted_word c.word ++ codes "\n")))))

-- the lines of the clashes of each mode, from the mode with this number on
abbrev pub clash_lines : List (List ℕ) → List (List ℕ) → ℕ → List (List Entry) → List ℕ
clash_lines modes names m [] = []
clash_lines modes names m (cs ∷ css) = flat_map (named_line names (mode_named modes m)) cs ++ clash_lines modes names (m + 1) css
