-- cases: proofs/Cases/RuleFault.antt
-- Where a line that isn't a rule, part or section stops being one, and what is wrong there.
use Rattle.std.specs.Prelude.{◌≡◌, if◌then◌else◌, Option, Some, None, List, [], ◌∷◌, ℕ, codes}
use Rattle.std.specs.Char.{is_ascii_digit}
use Rattle.lalrpop_rule_file.specs.Words.{begins}
use Rattle.lalrpop_rule_file.specs.RuleLine.{Part, Start, Listing, Starred, Headed, Named, Entering, Equals, InAnyCase, From, Unjoined, Defining, Defines, Defined, Open, Closed, Lexeme, Reads}
use Rattle.lalrpop_rule_file.specs.declared.error.LineFault.{LineFault}
use Rattle.lalrpop_rule_file.specs.declared.error.LineFault.TheVariants.{NotUtf8, CarriageReturn, NoName, NoMode, NoBracket, AfterSection, NoEquals, PrecedenceTooLarge, NoText, NoPattern, NoLiteral, NoFrom, NoTo, NotClosed}

-- what is wrong if no lexeme follows this part, before this rest; nothing at the end of a section, a part or a rule
abbrev pub fault_at : Part → List ℕ → Option LineFault
fault_at Start rest = Some NoName
fault_at (Listing []) rest = Some NoMode
fault_at (Listing (mode ∷ modes)) rest = Some NoBracket
fault_at Starred rest = Some NoBracket
fault_at (Headed section) [] = None
fault_at (Headed section) (b ∷ rest) = Some AfterSection
fault_at (Named head) rest = Some NoEquals
fault_at (Entering head entry) rest = Some NoMode
fault_at (Equals head None) rest = Some (if begins is_ascii_digit rest then PrecedenceTooLarge else NoText)
fault_at (Equals head (Some n)) rest = Some NoText
fault_at (InAnyCase head written) rest = Some NoLiteral
fault_at (From head written) rest = Some NoFrom
fault_at Unjoined rest = Some NoTo
fault_at (Defining name) rest = Some NoEquals
fault_at (Defines name) rest = Some NoPattern
fault_at (Defined part) [] = None
fault_at (Defined part) (b ∷ rest) = Some NotClosed
fault_at Open rest = Some NotClosed
fault_at (Closed rule) [] = None
fault_at (Closed rule) (b ∷ rest) = Some NotClosed

-- from this part on the text is read up to the rest, no lexeme follows there, and this is wrong
pub record StopsBefore (from : Part) (text rest : List ℕ) (fault : LineFault) : Type 0 where
  pub part : Part
  pub reads : Reads from text part rest
  pub stuck : (further : Part) (behind : List ℕ) → ¬ Lexeme part rest further behind
  pub is_fault : fault_at part rest ≡ Some fault

-- ---- in words

abbrev pub reason_of : LineFault → List ℕ
reason_of NotUtf8 = codes "this isn't UTF-8"
reason_of CarriageReturn = codes "this carriage return ends no line: a line ends with a line feed, or with a carriage return and a line feed"
reason_of NoName =
    codes "a line is a rule, as NAME = 'TEXT' or NAME = /PATTERN/, a section, as [A], or a comment, as # TEXT; a name has ASCII letters, digits and `_`, and doesn't begin with a digit"
reason_of NoMode = codes "the name of a mode is missing: ASCII letters, digits and `_`, not a digit first; in a section `[*]` is every mode"
reason_of NoBracket = codes "`]` is missing: a section is `[A B]`, names of modes with blanks between them, or `[*]`"
reason_of AfterSection = codes "nothing may stand after the `]` of a section: a rule or a comment is a line of its own"
reason_of NoEquals = codes "`=` is missing: a name has only ASCII letters, digits and `_`, and only `part`, or `skip`, then `mode M`, `push M` and `pop` may follow it"
reason_of PrecedenceTooLarge = codes "the precedence is too large: at most 20 digits, and below 2^64"
reason_of NoText = codes "a text is missing: 'LITERAL', \"LITERAL\", anycase 'LITERAL', /PATTERN/ or from 'A' to 'B'; before it only the digits of a precedence may stand"
reason_of NoPattern = codes "a part is a pattern in slashes"
reason_of NoLiteral = codes "an apostrophe is missing after `anycase`: write anycase 'TEXT'"
reason_of NoFrom = codes "an apostrophe is missing after `from`: write from 'A' to 'B'"
reason_of NoTo = codes "`to` is missing after the apostrophe that ends A: write from 'A' to 'B'"
reason_of NotClosed =
    codes "the line must end with the apostrophe, quote or slash of its text: a comment is a line of its own, and flags stand in the pattern, as in /(?i)a/"
