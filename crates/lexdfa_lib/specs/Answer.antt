-- cases: proofs/Cases/Answer.antt
-- The outcome for bytes and a text.
use Rattle.std.specs.Prelude.{◌≡◌, ℕ, ◌⊎◌, List, length, Some, None}
use Rattle.lalrpop_hir.specs.Tree.{Tree}
use Rattle.lalrpop_lexer.specs.Clash.{IsClash, NoClash}
use Rattle.lalrpop_lexer.specs.Longest.{IsLongest}
use Rattle.lalrpop_lexer.specs.Report.{NoFault, FirstFault}
use Rattle.bajofeki_rules.specs.Lines.{lines}
use Rattle.lalrpop_lexer.specs.Terminals.{AreTerminals, FirstSays}
use Rattle.lalrpop_lexer.specs.declared.terminal_line.TerminalLine.TheVariants.{Bad, NoTree}
use Rattle.lexdfa_lib.specs.declared.outcome.Outcome.{Outcome}
use Rattle.lexdfa_lib.specs.declared.outcome.Outcome.TheVariants.{Match, NoMatch, Refused, Ambiguous, Syntax, Line}

-- the lines of the bytes are terminals with these trees and precedences, which have an automaton: no fault and no clash
pub record HaveAutomaton (bytes : List ℕ) (ts : List Tree) (ps : List ℕ) : Type 0 where
  pub terminals : AreTerminals (lines bytes) ts ps
  pub no_fault : NoFault ts
  pub no_clash : NoClash ts ps

-- what trees with these precedences report if they have no automaton: the first fault, otherwise the clash
abbrev pub Reports : List Tree → List ℕ → Outcome → Type 0
Reports ts ps (Refused i e) = FirstFault ts i e
Reports ts ps (Ambiguous i j word) = NoFault ts × IsClash ts ps word i j
Reports ts ps _ = ⊥

-- what the bytes report if there is no automaton: the first line that is bad or whose pattern doesn't parse, otherwise what the
-- terminals of the lines report
abbrev pub IsReported : List ℕ → Outcome → Type 0
IsReported bytes (Line i) = FirstSays (lines bytes) i Bad
IsReported bytes (Syntax i) = FirstSays (lines bytes) i NoTree
IsReported bytes outcome = (ts : List Tree) × ((ps : List ℕ) × (AreTerminals (lines bytes) ts ps × Reports ts ps outcome))

-- what trees with these precedences find in the text if they have an automaton: the longest match, if any
abbrev pub Finds : List Tree → List ℕ → List ℕ → Outcome → Type 0
Finds ts ps text (Match i n) = (p : List ℕ) × (IsLongest ts ps text (Some (i, p)) × (n ≡ length p))
Finds ts ps text NoMatch = IsLongest ts ps text None
Finds ts ps text _ = ⊥

-- the outcome for the bytes and the text: what the bytes report, otherwise what the terminals find
abbrev pub IsOutcome : List ℕ → List ℕ → Outcome → Type 0
IsOutcome bytes text outcome =
    IsReported bytes outcome ⊎ ((ts : List Tree) × ((ps : List ℕ) × (HaveAutomaton bytes ts ps × Finds ts ps text outcome)))
