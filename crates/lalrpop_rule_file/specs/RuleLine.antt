-- cases: proofs/Cases/RuleLine.antt
-- How a line is read, from left to right. A section is `[A B]` or `[*]`; a rule is
-- `NAME [skip] {mode M | push M | pop} = [PRECEDENCE] TEXT`, where the text is `'LITERAL'`, `"LITERAL"`, `/PATTERN/`,
-- `anycase 'LITERAL'` or `from 'A' to 'B'`; a part is `NAME part = /PATTERN/`.
use Rattle.std.specs.Prelude.{◌≡◌, ℕ, Bool, true, false, Option, Some, None, List, [], ◌∷◌, ◌++◌, length, codes}
use Rattle.std.specs.Char.{is_ascii_digit}
use Rattle.bajofeki_rules.specs.Precedence.{IsPrecedence}
use Rattle.lalrpop_rule_file.specs.Words.{IsSpan, Lacks, begins, begins_name, is_blank, is_no_apostrophe, is_of_name}
use Rattle.lalrpop_rule_file.specs.LineText.{Form, Text, Quoted, AnyCase, FromTo, IsUpToTo, NoToBefore, delimiter, precedence_or}

-- the words that the name of a mode follows
pub data Entry : Type 0 where
  Mode : Entry
  Push : Entry

abbrev pub word_of : Entry → List ℕ
word_of Mode = codes "mode"
word_of Push = codes "push"

-- an action as it is written
pub data Written : Type 0 where
  Enters : (entry : Entry) (mode : List ℕ) → Written
  Pops : Written

-- what stands left of the `=`
pub record Head : Type 0 where
  pub name : List ℕ
  pub skipped : Bool
  pub actions : List Written

-- a name alone
abbrev pub bare : List ℕ → Head
bare name = record { name = name; skipped = false; actions = [] }

-- marked `skip`
abbrev pub marked : List ℕ → Head
marked name = record { name = name; skipped = true; actions = [] }

-- with one action more
abbrev pub acting : Head → Written → Head
acting head action = record head { actions = head.actions ++ (action ∷ []) }

-- a rule as it is written
pub record WrittenRule : Type 0 where
  pub head : Head
  pub precedence : ℕ
  pub text : Text

abbrev pub rule_of : Head → Option ℕ → Text → WrittenRule
rule_of head written text = record { head = head; precedence = precedence_or text written; text = text }

-- a part as it is written
pub record WrittenPart : Type 0 where
  pub name : List ℕ
  pub pattern : List ℕ

abbrev pub part_of : List ℕ → List ℕ → WrittenPart
part_of name pattern = record { name = name; pattern = pattern }

-- the modes of a section
pub data Section : Type 0 where
  These : List (List ℕ) → Section
  Every : Section

-- ---- from left to right

-- how far a line is read, and what it has said
pub data Part : Type 0 where
  Start : Part
  -- the `[` of a section, and names of modes
  Listing : (modes : List (List ℕ)) → Part
  -- its `[*`
  Starred : Part
  -- all of a section
  Headed : (section : Section) → Part
  -- a rule's name, and words after it
  Named : (head : Head) → Part
  -- the word `mode` or `push` too
  Entering : (head : Head) (entry : Entry) → Part
  -- the `=` too, and the precedence if one is written
  Equals : (head : Head) (written : Option ℕ) → Part
  -- the word `anycase` too
  InAnyCase : (head : Head) (written : Option ℕ) → Part
  -- the word `from` too
  From : (head : Head) (written : Option ℕ) → Part
  -- the A of a text without a `' to '`
  Unjoined : Part
  -- a name and the word `part`
  Defining : (name : List ℕ) → Part
  -- the `=` too
  Defines : (name : List ℕ) → Part
  -- all of a part
  Defined : (part : WrittenPart) → Part
  -- a text or a pattern that has no last delimiter
  Open : Part
  -- all of a rule
  Closed : (rule : WrittenRule) → Part

-- `Lexeme p text q rest`: where a line is read as far as p, the text begins with a blank, or with what makes q of p; the rest is
-- after it
pub data Lexeme : Part → List ℕ → Part → List ℕ → Type 0 where
  a_blank : {p : Part} {b : ℕ} {rest : List ℕ} → is_blank b ≡ true → Lexeme p (b ∷ rest) p rest
  -- a section
  a_bracket : {rest : List ℕ} → Lexeme Start (codes "[" ++ rest) (Listing []) rest
  a_mode : {modes : List (List ℕ)} {text mode rest : List ℕ} → begins begins_name text ≡ true → IsSpan is_of_name text mode rest →
      Lexeme (Listing modes) text (Listing (modes ++ (mode ∷ []))) rest
  a_star : {rest : List ℕ} → Lexeme (Listing []) (codes "*" ++ rest) Starred rest
  an_end : {mode : List ℕ} {modes : List (List ℕ)} {rest : List ℕ} →
      Lexeme (Listing (mode ∷ modes)) (codes "]" ++ rest) (Headed (These (mode ∷ modes))) rest
  a_star_end : {rest : List ℕ} → Lexeme Starred (codes "]" ++ rest) (Headed Every) rest
  -- a rule up to its `=`
  a_name : {text name rest : List ℕ} → begins begins_name text ≡ true → IsSpan is_of_name text name rest →
      Lexeme Start text (Named (bare name)) rest
  a_skip : {text name rest : List ℕ} → IsSpan is_of_name text (codes "skip") rest → Lexeme (Named (bare name)) text (Named (marked name)) rest
  a_pop : {head : Head} {text rest : List ℕ} → IsSpan is_of_name text (codes "pop") rest → Lexeme (Named head) text (Named (acting head Pops)) rest
  an_entry : {head : Head} {text rest : List ℕ} (entry : Entry) → IsSpan is_of_name text (word_of entry) rest →
      Lexeme (Named head) text (Entering head entry) rest
  its_mode : {head : Head} {entry : Entry} {text mode rest : List ℕ} → begins begins_name text ≡ true → IsSpan is_of_name text mode rest →
      Lexeme (Entering head entry) text (Named (acting head (Enters entry mode))) rest
  an_equals : {head : Head} {rest : List ℕ} → Lexeme (Named head) (codes "=" ++ rest) (Equals head None) rest
  -- a part
  a_part : {text name rest : List ℕ} → IsSpan is_of_name text (codes "part") rest → Lexeme (Named (bare name)) text (Defining name) rest
  its_equals : {name rest : List ℕ} → Lexeme (Defining name) (codes "=" ++ rest) (Defines name) rest
  its_pattern : {name inner rest : List ℕ} → Lacks 47 rest → Lexeme (Defines name) (codes "/" ++ (inner ++ (codes "/" ++ rest))) (Defined (part_of name inner)) rest
  an_open_pattern : {name inner : List ℕ} → Lacks 47 inner → Lexeme (Defines name) (codes "/" ++ inner) Open []
  -- after the `=` of a rule
  a_precedence : {head : Head} {text digits rest : List ℕ} {n : ℕ} → IsSpan is_ascii_digit text digits rest → IsPrecedence digits n →
      Lexeme (Equals head None) text (Equals head (Some n)) rest
  -- a text ends at the last delimiter of the line; without a second one it is open, up to the end
  a_text : {head : Head} {inner rest : List ℕ} {written : Option ℕ} (form : Form) → Lacks (delimiter form) rest →
      Lexeme (Equals head written) (delimiter form ∷ (inner ++ (delimiter form ∷ rest))) (Closed (rule_of head written (Quoted form inner))) rest
  an_open_text : {head : Head} {inner : List ℕ} {written : Option ℕ} (form : Form) → Lacks (delimiter form) inner →
      Lexeme (Equals head written) (delimiter form ∷ inner) Open []
  -- so does a literal in any case
  an_any_case : {head : Head} {text rest : List ℕ} {written : Option ℕ} → IsSpan is_of_name text (codes "anycase") rest →
      Lexeme (Equals head written) text (InAnyCase head written) rest
  its_literal : {head : Head} {inner rest : List ℕ} {written : Option ℕ} → Lacks 39 rest →
      Lexeme (InAnyCase head written) (codes "'" ++ (inner ++ (codes "'" ++ rest))) (Closed (rule_of head written (AnyCase inner))) rest
  an_open_literal : {head : Head} {inner : List ℕ} {written : Option ℕ} → Lacks 39 inner →
      Lexeme (InAnyCase head written) (codes "'" ++ inner) Open []
  a_from : {head : Head} {text rest : List ℕ} {written : Option ℕ} → IsSpan is_of_name text (codes "from") rest →
      Lexeme (Equals head written) text (From head written) rest
  -- A ends at the first `' to '`, and B at the last apostrophe of the line
  from_to : {head : Head} {inner a b rest : List ℕ} {written : Option ℕ} → IsUpToTo inner a (b ++ (codes "'" ++ rest)) → Lacks 39 rest →
      Lexeme (From head written) (codes "'" ++ inner) (Closed (rule_of head written (FromTo a b))) rest
  an_open_to : {head : Head} {inner a b : List ℕ} {written : Option ℕ} → IsUpToTo inner a b → Lacks 39 b →
      Lexeme (From head written) (codes "'" ++ inner) Open []
  -- without a `' to '` it is read up to the apostrophe that could begin one, or else to the end
  no_to : {head : Head} {inner front rest : List ℕ} {written : Option ℕ} → NoToBefore inner (length inner) → IsSpan is_no_apostrophe inner front rest →
      Lexeme (From head written) (codes "'" ++ inner) Unjoined rest

-- one after another
pub data Reads : Part → List ℕ → Part → List ℕ → Type 0 where
  nothing : {p : Part} {text : List ℕ} → Reads p text p text
  lexeme_then : {p q r : Part} {text mid rest : List ℕ} → Lexeme p text q mid → Reads q mid r rest → Reads p text r rest

-- the line is this section: as that it is read to its end
abbrev pub IsSection : List ℕ → Section → Type 0
IsSection line section = Reads Start line (Headed section) []

-- the line is this part
abbrev pub IsPartLine : List ℕ → WrittenPart → Type 0
IsPartLine line part = Reads Start line (Defined part) []

-- the line is this rule
abbrev pub IsRule : List ℕ → WrittenRule → Type 0
IsRule line rule = Reads Start line (Closed rule) []
