-- cases: proofs/Cases/Line.antt
-- What one line says.
use Rattle.std.specs.Prelude.{◌≡◌, ℕ, List, ◌++◌, codes}
use Rattle.std.specs.Str.{IsUtf8, chars}
use Rattle.lalrpop_hir.specs.Tree.{Tree}
use Rattle.lalrpop_re.specs.Pattern.{Pattern}
use Rattle.bajofeki_rules.specs.Precedence.{IsPrecedence}
use Rattle.lalrpop_lexer.specs.Spelled.{Spells}
use Rattle.lalrpop_lexer.specs.declared.form.Form.{Form}
use Rattle.lalrpop_lexer.specs.declared.form.Form.TheVariants as forms
use Rattle.lalrpop_lexer.specs.declared.terminal_line.TerminalLine.{TerminalLine}
use Rattle.lalrpop_lexer.specs.declared.terminal_line.TerminalLine.TheVariants.{Bad, NoTree, Terminal}

-- the letter of a form
abbrev pub letter : Form → List ℕ
letter forms.Literal = codes "l"
letter forms.Pattern = codes "r"

-- `P l TEXT` or `P r PATTERN`: the digits of the precedence n, a space, the letter of the form, a space and the text, all in
-- UTF-8
pub record IsLine (line : List ℕ) (n : ℕ) (form : Form) (text : List ℕ) : Type 0 where
  pub digits : List ℕ
  pub parts : line ≡ digits ++ (codes " " ++ (letter form ++ (codes " " ++ text)))
  pub precedence : IsPrecedence digits n
  pub utf8 : IsUtf8 line

-- the line says this: it is bad, or its pattern doesn't parse, or it is a terminal with this precedence and this tree
abbrev pub LineSays : List ℕ → TerminalLine → Type 0
LineSays line Bad = (n : ℕ) (form : Form) (text : List ℕ) → ¬ IsLine line n form text
LineSays line NoTree = (n : ℕ) × ((text : List ℕ) × (IsLine line n forms.Pattern text × ((t : Tree) → ¬ Pattern (chars text) t)))
LineSays line (Terminal n t) = (form : Form) × ((text : List ℕ) × (IsLine line n form text × Spells form text t))
