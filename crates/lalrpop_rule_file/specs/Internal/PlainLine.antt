-- The lines of a file of rules without sections, actions, `anycase` and `from`: `NAME [skip] = [PRECEDENCE] TEXT`, where the text is
-- `'LITERAL'`, `"LITERAL"` or `/PATTERN/`, read from left to right.
use Rattle.std.specs.Prelude.{◌≡◌, ℕ, Bool, true, false, Option, Some, None, List, [], ◌∷◌, ◌++◌, codes}
use Rattle.std.specs.Char.{is_ascii_digit}
use Rattle.bajofeki_rules.specs.Precedence.{IsPrecedence}
use Rattle.lalrpop_rule_file.specs.Words.{IsSpan, Lacks, begins, begins_name, is_blank, is_of_name}
use Rattle.lalrpop_rule_file.specs.LineText.{Form, Literal, Escaped, Pattern, Quoted, delimiter}
use Rattle.lalrpop_rule_file.specs.RuleLine.{Head, WrittenRule}

-- how far a line is read, and what it has said
pub data PlainPart : Type 0 where
  PlainStart : PlainPart
  PlainNamed : (name : List ℕ) (skipped : Bool) → PlainPart
  PlainEquals : (name : List ℕ) (skipped : Bool) (written : Option ℕ) → PlainPart
  PlainClosed : (name : List ℕ) (skipped : Bool) (precedence : ℕ) (form : Form) (text : List ℕ) → PlainPart

-- the precedence is the one that is written, or else 1 for literals and 0 for a pattern
abbrev pub plain_precedence : Form → Option ℕ → ℕ
plain_precedence form (Some n) = n
plain_precedence Literal None = 1
plain_precedence Escaped None = 1
plain_precedence Pattern None = 0

pub data PlainLexeme : PlainPart → List ℕ → PlainPart → List ℕ → Type 0 where
  plain_blank : {p : PlainPart} {b : ℕ} {rest : List ℕ} → is_blank b ≡ true → PlainLexeme p (b ∷ rest) p rest
  plain_name : {text name rest : List ℕ} → begins begins_name text ≡ true → IsSpan is_of_name text name rest →
      PlainLexeme PlainStart text (PlainNamed name false) rest
  plain_skip : {text name rest : List ℕ} → IsSpan is_of_name text (codes "skip") rest → PlainLexeme (PlainNamed name false) text (PlainNamed name true) rest
  plain_equals : {name rest : List ℕ} {skipped : Bool} → PlainLexeme (PlainNamed name skipped) (codes "=" ++ rest) (PlainEquals name skipped None) rest
  plain_number : {text name digits rest : List ℕ} {skipped : Bool} {n : ℕ} → IsSpan is_ascii_digit text digits rest → IsPrecedence digits n →
      PlainLexeme (PlainEquals name skipped None) text (PlainEquals name skipped (Some n)) rest
  plain_text : {name inner rest : List ℕ} {skipped : Bool} {written : Option ℕ} (form : Form) → Lacks (delimiter form) rest →
      PlainLexeme (PlainEquals name skipped written) (delimiter form ∷ (inner ++ (delimiter form ∷ rest)))
      (PlainClosed name skipped (plain_precedence form written) form inner) rest

pub data PlainReads : PlainPart → List ℕ → PlainPart → List ℕ → Type 0 where
  plain_nothing : {p : PlainPart} {text : List ℕ} → PlainReads p text p text
  plain_then : {p q r : PlainPart} {text mid rest : List ℕ} → PlainLexeme p text q mid → PlainReads q mid r rest → PlainReads p text r rest

-- the line is this rule by these lexemes, a literal or a pattern without actions
abbrev pub IsPlainRule : List ℕ → List ℕ → Bool → ℕ → Form → List ℕ → Type 0
IsPlainRule line name skipped precedence form text = PlainReads PlainStart line (PlainClosed name skipped precedence form text) []

abbrev pub plain_head : List ℕ → Bool → Head
plain_head name skipped = record { name = name; skipped = skipped; actions = [] }

-- the same rule, as it is written
abbrev pub plain_rule : List ℕ → Bool → ℕ → Form → List ℕ → WrittenRule
plain_rule name skipped precedence form text = record { head = plain_head name skipped; precedence = precedence; text = Quoted form text }
