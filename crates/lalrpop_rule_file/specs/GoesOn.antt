-- cases: proofs/Cases/GoesOn.antt
-- Texts that go on after they seem to end: a text ends at the last delimiter of its line, so what stands before that is the text's, also
-- what looks like a comment or a second rule.
use Rattle.std.specs.Prelude.{◌≡◌, ℕ, ◌<◌, ◌⊎◌, true, List, ◌∷◌, ◌++◌, codes, length}
use Rattle.bajofeki_rules.specs.declared.rule_text.RuleText.{RuleText}
use Rattle.bajofeki_rules.specs.declared.rule_text.RuleText.TheVariants.{Literal, Escaped, AnyCase, Pattern, PatternWith, FromTo}
use Rattle.lalrpop_rule_file.specs.Words.{IsSpan, begins, begins_name, is_blank, is_of_name}

-- a comment: `#`
abbrev pub LooksLikeComment : List ℕ → Type 0
LooksLikeComment text = (rest : List ℕ) × (text ≡ codes "#" ++ rest)

-- a rule: a name, blanks and `=`
pub record LooksLikeRule (text : List ℕ) : Type 0 where
  pub name : List ℕ
  pub after : List ℕ
  pub gap : List ℕ
  pub rest : List ℕ
  pub is_name : begins begins_name text ≡ true
  pub named : IsSpan is_of_name text name after
  pub equals : IsSpan is_blank after gap (codes "=" ++ rest)

-- one blank or more, and then a comment or a rule
pub record LooksLikeMore (text : List ℕ) : Type 0 where
  pub gap : List ℕ
  pub here : List ℕ
  pub blanks : IsSpan is_blank text gap here
  pub some : 0 < length gap
  pub more : LooksLikeComment here ⊎ LooksLikeRule here

-- the last byte is a backslash
abbrev pub EndsInBackslash : List ℕ → Type 0
EndsInBackslash text = (before : List ℕ) × (text ≡ before ++ codes "\\")

-- between the two stands the delimiter, which no backslash escapes, and more seems to follow it
abbrev pub SeemsToEnd : ℕ → List ℕ → List ℕ → Type 0
SeemsToEnd mark front here = (rest : List ℕ) × ((here ≡ mark ∷ rest) × ((¬ EndsInBackslash front) × LooksLikeMore rest))

-- this is so somewhere in the text
abbrev pub GoesOn : ℕ → List ℕ → Type 0
GoesOn mark text = (front here : List ℕ) × ((text ≡ front ++ here) × SeemsToEnd mark front here)

-- in the text of a rule, between its delimiters: apostrophes, quotes or slashes. Of two texts it is the second
abbrev pub IsGoingOn : RuleText → Type 0
IsGoingOn (Literal inner) = GoesOn 39 inner.now
IsGoingOn (Escaped inner) = GoesOn 34 inner.now
IsGoingOn (AnyCase inner) = GoesOn 39 inner.now
IsGoingOn (Pattern inner) = GoesOn 47 inner.now
IsGoingOn (PatternWith inner parts) = GoesOn 47 inner.now
IsGoingOn (FromTo from to) = GoesOn 39 to.now
