-- cases: proofs/Cases/FileParts.antt
-- The parts of a file of rules, by what its lines say.
use Rattle.std.specs.Prelude.{◌≡◌, ℕ, ◌+◌, List, [], ◌∷◌, ◌++◌, length, map, chars, Contains}
use Rattle.std.specs.Str.{IsCharBoundary}
use Rattle.lalrpop_re.specs.NamedPart.{NamedPart}
use Rattle.lalrpop_re.specs.Pattern.{IsPart}
use Rattle.bajofeki_rules.specs.Position.{position_of}
use Rattle.lalrpop_rule_file.specs.Words.{IsSpan, is_blank, is_of_name}
use Rattle.lalrpop_rule_file.specs.LineText.{Pattern, Quoted, BeginsText}
use Rattle.lalrpop_rule_file.specs.RuleLine.{WrittenPart}
use Rattle.lalrpop_rule_file.specs.FileModes.{Said, Nothing, Heading, Define, Rule}

-- the parts that lines define, in the order of the lines
abbrev pub parts_in : List Said → List WrittenPart
parts_in [] = []
parts_in (Nothing ∷ said) = parts_in said
parts_in (Heading section ∷ said) = parts_in said
parts_in (Define part ∷ said) = part ∷ parts_in said
parts_in (Rule rule ∷ said) = parts_in said

-- parts that are written so: each is read by those before it, and has a name that none of those has
pub data AreParts : List WrittenPart → List NamedPart → Type 0 where
  no_parts : AreParts [] []
  one_more : {ws : List WrittenPart} {ps : List NamedPart} (w : WrittenPart) (p : NamedPart) → AreParts ws ps → ¬ Contains (map (λ v. v.name) ws) w.name
      → IsPart ps (chars w.name) (chars w.pattern) p → AreParts (ws ++ (w ∷ [])) (ps ++ (p ∷ []))

-- how many parts stand above each rule, where n of them stand above all these lines
abbrev pub parts_above : ℕ → List Said → List ℕ
parts_above n [] = []
parts_above n (Nothing ∷ said) = parts_above n said
parts_above n (Heading section ∷ said) = parts_above n said
parts_above n (Define part ∷ said) = parts_above (n + 1) said
parts_above n (Rule rule ∷ said) = n ∷ parts_above n said

-- ---- places in the line of a part

-- a name stands in this column, after blanks at most
pub record IsNameColumn (line name : List ℕ) (column : ℕ) : Type 0 where
  pub lead : List ℕ
  pub here : List ℕ
  pub behind : List ℕ
  pub blanks : IsSpan is_blank line lead here
  pub is_name : IsSpan is_of_name here name behind
  pub counted : column ≡ (position_of line (length lead)).column

-- a place in the pattern with which the line ends, between two characters, stands in this column
pub record IsPatternColumn (line pattern : List ℕ) (column : ℕ) : Type 0 where
  pub front : List ℕ
  pub here : List ℕ
  pub position : ℕ
  pub parts : line ≡ front ++ here
  pub begins : BeginsText (Quoted Pattern pattern) here
  pub between : IsCharBoundary pattern position
  pub counted : column ≡ (position_of line (length front + position)).column
