-- cases: proofs/Cases/LineText.antt
-- The text of a rule: `'LITERAL'`; `"LITERAL"`, in which escapes stand for characters; `/PATTERN/`; `anycase 'LITERAL'`, the literal in
-- any case; or `from 'A' to 'B'`, which are the words from A up to the first B after it.
use Rattle.std.specs.Prelude.{◌≡◌, ℕ, ◌<◌, Option, Some, None, List, ◌∷◌, ◌++◌, length, drop, codes}
use Rattle.lalrpop_rule_file.specs.Words.{IsSpan, AreBlanks, is_blank}

-- what stands between delimiters: a literal, a literal with escapes, or a pattern
pub data Form : Type 0 where
  Literal : Form
  Escaped : Form
  Pattern : Form

-- what a text is, without its delimiters
pub data Text : Type 0 where
  Quoted : (form : Form) (inner : List ℕ) → Text
  AnyCase : (inner : List ℕ) → Text
  FromTo : (a b : List ℕ) → Text

-- a literal is between apostrophes, one with escapes between quotes, a pattern between slashes
abbrev pub delimiter : Form → ℕ
delimiter Literal = 39
delimiter Escaped = 34
delimiter Pattern = 47

-- the precedence is the one that is written, or else 1 for literals and 0 for all others
abbrev pub precedence_or : Text → Option ℕ → ℕ
precedence_or text (Some n) = n
precedence_or (Quoted Literal inner) None = 1
precedence_or (Quoted Escaped inner) None = 1
precedence_or (Quoted Pattern inner) None = 0
precedence_or (AnyCase inner) None = 1
precedence_or (FromTo a b) None = 0

-- at the front stands `' to '`: the apostrophe that ends A, one blank or more, `to`, blanks, and the apostrophe that begins B
pub record IsTo (text rest : List ℕ) : Type 0 where
  pub gap : List ℕ
  pub gap2 : List ℕ
  pub first : List ℕ
  pub second : List ℕ
  pub quote : text ≡ codes "'" ++ first
  pub blanks : IsSpan is_blank first gap (codes "to" ++ second)
  pub some : 0 < length gap
  pub blanks2 : IsSpan is_blank second gap2 (codes "'" ++ rest)

-- none stands before this place of the text
abbrev pub NoToBefore : List ℕ → ℕ → Type 0
NoToBefore text n = (k : ℕ) → k < n → (rest : List ℕ) → ¬ IsTo (drop k text) rest

-- the text is A, the first `' to '`, and the rest
pub record IsUpToTo (text a rest : List ℕ) : Type 0 where
  pub mark : List ℕ
  pub parts : text ≡ a ++ mark
  pub is_to : IsTo mark rest
  pub first : NoToBefore text (length a)

-- the line from where a text begins, after the first delimiter: the text, its last delimiter, and blanks
abbrev pub BeginsText : Text → List ℕ → Type 0
BeginsText (Quoted form inner) here = (trail : List ℕ) × ((here ≡ inner ++ (delimiter form ∷ trail)) × AreBlanks trail)
BeginsText (AnyCase inner) here = (trail : List ℕ) × ((here ≡ inner ++ (codes "'" ++ trail)) × AreBlanks trail)
BeginsText (FromTo a b) here = (trail : List ℕ) × (IsUpToTo here a (b ++ (codes "'" ++ trail)) × AreBlanks trail)
