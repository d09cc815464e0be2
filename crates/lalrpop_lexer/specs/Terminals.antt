-- cases: proofs/Cases/Terminals.antt
-- What the lines of a list say.
use Rattle.std.specs.Prelude.{ℕ, zero, suc, List, [], ◌∷◌, map}
use Rattle.lalrpop_hir.specs.Tree.{Tree}
use Rattle.bajofeki_rules.specs.Lines.{lines}
use Rattle.lalrpop_lexer.specs.Line.{LineSays}
use Rattle.lalrpop_lexer.specs.declared.terminal_line.TerminalLine.{TerminalLine}
use Rattle.lalrpop_lexer.specs.declared.terminal_line.TerminalLine.TheVariants as meaning
use Rattle.lalrpop_lexer.specs.declared.terminals.Terminals.{Terminals}
use Rattle.lalrpop_lexer.specs.declared.terminals.Terminals.TheVariants.{All, Bad, NoTree}

-- each line is a terminal, and these are their trees and precedences
abbrev pub AreTerminals : List (List ℕ) → List Tree → List ℕ → Type 0
AreTerminals [] [] [] = Unit {0}
AreTerminals (line ∷ rest) (t ∷ ts) (p ∷ ps) = LineSays line (meaning.Terminal p t) × AreTerminals rest ts ps
AreTerminals _ _ _ = ⊥

-- the line with this number says this, and each earlier line is a terminal
abbrev pub FirstSays : List (List ℕ) → ℕ → TerminalLine → Type 0
FirstSays [] i said = ⊥
FirstSays (line ∷ rest) zero said = LineSays line said
FirstSays (line ∷ rest) (suc i) said = ((p : ℕ) × ((t : Tree) × LineSays line (meaning.Terminal p t))) × FirstSays rest i said

-- this is what the lines of the bytes say
abbrev pub AreSaid : List ℕ → Terminals → Type 0
AreSaid bytes (All regexs precedences) = AreTerminals (lines bytes) regexs.items (map (λ p. p.0) precedences.items)
AreSaid bytes (Bad line) = FirstSays (lines bytes) line meaning.Bad
AreSaid bytes (NoTree line) = FirstSays (lines bytes) line meaning.NoTree
