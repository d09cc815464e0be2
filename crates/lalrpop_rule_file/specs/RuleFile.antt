-- cases: proofs/Cases/RuleFile.antt
-- What the lines of a file of rules say.
use Rattle.std.specs.Prelude.{◌≡◌, ◌⊎◌, ℕ, zero, suc, ◌+◌, ◌-◌, ◌==◌, if◌then◌else◌, Bool, true, not, Some, List, [], ◌∷◌, ◌++◌, length, take, drop, map, chars, codes, slice_get, Contains}
use Rattle.std.specs.Str.{IsUtf8, bytes_eq}
use Rattle.std.specs.Str.Lossy.{utf8_valid_len}
use Rattle.bajofeki_rules.specs.Lines.{lines}
use Rattle.bajofeki_rules.specs.Position.{position_of}
use Rattle.bajofeki_rules.specs.declared.position.Position.{Position}
use Rattle.lalrpop_rule_file.specs.Words.{AreBlanks, EachByte, IsSpan, begins, begins_name, is_of_name}
use Rattle.lalrpop_rule_file.specs.LineText.{Literal, Escaped, Pattern, Text, Quoted, AnyCase, FromTo, BeginsText}
use Rattle.lalrpop_rule_file.specs.RuleLine.{Entry, Head, WrittenPart, WrittenRule, Section, Start, Entering, Reads, IsPartLine, IsRule, IsSection}
use Rattle.lalrpop_rule_file.specs.RuleFault.{StopsBefore}
use Rattle.lalrpop_rule_file.specs.FileModes.{Said, Nothing, Heading, Define, Rule, AreActions, AreModes, AllLeadWithin, initial, modes_of}
use Rattle.lalrpop_rule_file.specs.FileParts.{AreParts, IsNameColumn, IsPatternColumn, parts_above, parts_in}
use Rattle.bajofeki_rules.specs.EnteredModes.{OneLeadsInto}
use Rattle.lalrpop_re.specs.NamedPart.{NamedPart}
use Rattle.lalrpop_re.specs.Pattern.{IsPart}
use Rattle.bajofeki_rules.specs.declared.mode_rule.ModeRule.{ModeRule}
use Rattle.bajofeki_rules.specs.RuleText.{IsPatternWith}
use Rattle.bajofeki_rules.specs.declared.rule_text.RuleText.{RuleText}
use Rattle.bajofeki_rules.specs.declared.rule_text.RuleText.TheVariants as text
use Rattle.lalrpop_rule_file.specs.declared.file_rule.FileRule.{FileRule}
use Rattle.lalrpop_rule_file.specs.declared.error.LineFault.{LineFault}
use Rattle.lalrpop_rule_file.specs.declared.error.LineFault.TheVariants.{NotUtf8, CarriageReturn}
use Rattle.lalrpop_rule_file.specs.declared.error.RuleFileError.{RuleFileError}
use Rattle.lalrpop_rule_file.specs.declared.error.RuleFileError.TheVariants.{BadLine, BadPart, RepeatedPart, NoSuchMode, OutOfMemory}

-- the bytes without the byte order mark of UTF-8, 239 187 191, at their beginning
abbrev pub without_mark : List ℕ → List ℕ
without_mark bytes = if bytes_eq (take 3 bytes) (239 ∷ 187 ∷ 191 ∷ []) then drop 3 bytes else bytes

-- the line without the carriage return, 13, at its end
abbrev pub without_return : List ℕ → List ℕ
without_return [] = []
without_return (b ∷ []) = if b == 13 then [] else b ∷ []
without_return (b ∷ c ∷ bs) = b ∷ without_return (c ∷ bs)

-- only blanks, or a comment: blanks, a `#` and anything
abbrev pub IsBlankOrComment : List ℕ → Type 0
IsBlankOrComment line = AreBlanks line ⊎ ((lead : List ℕ) × ((comment : List ℕ) × ((line ≡ lead ++ (codes "#" ++ comment)) × AreBlanks lead)))

-- the line, without its carriage return, says nothing, or is a section, a part or a rule
abbrev pub Says : List ℕ → Said → Type 0
Says line Nothing = IsBlankOrComment line
Says line (Heading section) = IsSection line section
Says line (Define part) = IsPartLine line part
Says line (Rule rule) = IsRule line rule

-- the line is UTF-8, and a carriage return stands only at its end
abbrev pub is_no_return : ℕ → Bool
is_no_return b = not (b == 13)

abbrev pub IsTextLine : List ℕ → Type 0
IsTextLine line = IsUtf8 line × EachByte is_no_return (without_return line)

abbrev pub LineSays : List ℕ → Said → Type 0
LineSays line said = IsTextLine line × Says (without_return line) said

abbrev pub LinesSay : List (List ℕ) → List Said → Type 0
LinesSay [] [] = Unit {0}
LinesSay (line ∷ ls) (s ∷ said) = LineSays line s × LinesSay ls said
LinesSay _ _ = ⊥

-- ---- the parts

-- these are the parts that the lines define
abbrev pub AreFileParts : List (List ℕ) → List NamedPart → Type 0
AreFileParts ls ps = (said : List Said) × (LinesSay ls said × AreParts (parts_in said) ps)

-- the line with this number, counted from 1, defines this part; the lines above it say this, and these are the parts in them
pub record IsPartBelow (ls : List (List ℕ)) (n : ℕ) (line : List ℕ) (w : WrittenPart) (said : List Said) (ps : List NamedPart) : Type 0 where
  pub above : List (List ℕ)
  pub below : List (List ℕ)
  pub all : ls ≡ above ++ (line ∷ below)
  pub number : n ≡ length above + 1
  pub say : LinesSay above said
  pub are_parts : AreParts (parts_in said) ps
  pub says : LineSays line (Define w)

abbrev pub HasName : List Said → List ℕ → Type 0
HasName said name = Contains (map (λ w. w.name) (parts_in said)) name

-- the pattern of this line's part, which has a new name, isn't one by the parts above it
pub record IsFirstBadPart (ls : List (List ℕ)) (n column : ℕ) : Type 0 where
  pub line : List ℕ
  pub w : WrittenPart
  pub said : List Said
  pub ps : List NamedPart
  pub stands : IsPartBelow ls n line w said ps
  pub is_new : ¬ HasName said w.name
  pub bad : (p : NamedPart) → ¬ IsPart ps (chars w.name) (chars w.pattern) p
  pub place : IsPatternColumn (without_return line) w.pattern column

-- a part above this line's part has its name
pub record IsFirstRepeatedPart (ls : List (List ℕ)) (n column : ℕ) : Type 0 where
  pub line : List ℕ
  pub w : WrittenPart
  pub said : List Said
  pub ps : List NamedPart
  pub stands : IsPartBelow ls n line w said ps
  pub is_there : HasName said w.name
  pub place : IsNameColumn (without_return line) w.name column

-- ---- the rules

-- the text is the one that is written
abbrev pub IsText : RuleText → Text → Type 0
IsText (text.Literal inner) t = t ≡ Quoted Literal inner.now
IsText (text.Pattern inner) t = t ≡ Quoted Pattern inner.now
IsText (text.Escaped inner) t = t ≡ Quoted Escaped inner.now
IsText (text.AnyCase inner) t = t ≡ AnyCase inner.now
IsText (text.FromTo a b) t = t ≡ FromTo a.now b.now
IsText (text.PatternWith inner parts) t = ⊥

-- the rule is the one that is written, in this section, with numbers for the names of modes
pub record IsFileRule (modes : List (List ℕ)) (section : Section) (w : WrittenRule) (r : FileRule) : Type 0 where
  pub name : r.rule.name.now ≡ w.head.name
  pub skipped : r.rule.is_skipped ≡ w.head.skipped
  pub precedence : r.rule.precedence.0 ≡ w.precedence
  pub text : IsText r.rule.text w.text
  pub in_modes : AreModes modes section r.modes.items
  pub acts : AreActions modes w.head.actions r.actions.items

-- what lines say are these rules, where the first of the lines stand in this section
abbrev pub AreRulesBelow : List (List ℕ) → Section → List Said → List FileRule → Type 0
AreRulesBelow modes section [] [] = Unit {0}
AreRulesBelow modes section (Nothing ∷ said) rs = AreRulesBelow modes section said rs
AreRulesBelow modes section (Heading next ∷ said) rs = AreRulesBelow modes next said rs
AreRulesBelow modes section (Define part ∷ said) rs = AreRulesBelow modes section said rs
AreRulesBelow modes section (Rule w ∷ said) (r ∷ rs) = IsFileRule modes section w r × AreRulesBelow modes section said rs
AreRulesBelow modes section _ _ = ⊥

-- the lines of a file are these modes and rules
pub record AreRules (ls : List (List ℕ)) (modes : List (List ℕ)) (rs : List FileRule) : Type 0 where
  pub said : List Said
  pub lines_say : LinesSay ls said
  pub are_modes : modes ≡ modes_of said
  pub are_rules : AreRulesBelow modes initial said rs
  -- each knows the parts above it
  pub are_known : map (λ r. r.known) rs ≡ parts_above 0 said

-- the rule belongs to the mode with this number, or leads into it
abbrev pub NamesMode : FileRule → ℕ → Type 0
NamesMode r m = Contains r.modes.items m ⊎ OneLeadsInto r.actions.items m

-- ---- the rules with their parts

-- the text of a rule that knows these parts: a pattern has them, also if there are none
abbrev pub HasParts : List NamedPart → RuleText → RuleText → Type 0
HasParts ps (text.Pattern inner) given = IsPatternWith given inner.now ps
HasParts ps written given = given ≡ written

-- the same rule, with as many of these parts as it knows
pub record IsModeRule (ps : List NamedPart) (r : FileRule) (m : ModeRule) : Type 0 where
  pub rule : m.rule ≡ record r.rule { text = m.rule.text }
  pub text : HasParts (take r.known ps) r.rule.text m.rule.text

abbrev pub AreModeRules : List NamedPart → List FileRule → List ModeRule → Type 0
AreModeRules ps [] [] = Unit {0}
AreModeRules ps (r ∷ rs) (m ∷ ms) = IsModeRule ps r m × AreModeRules ps rs ms
AreModeRules ps _ _ = ⊥

-- ---- their places

-- the text of a line's rule begins in this column
pub record IsTextColumn (line : List ℕ) (text : Text) (column : ℕ) : Type 0 where
  pub front : List ℕ
  pub here : List ℕ
  pub parts : line ≡ front ++ here
  pub begins : BeginsText text here
  pub counted : column ≡ (position_of line (length front)).column

-- the texts of the rules in lines begin at these places; the first line has this number
abbrev pub ArePlacesFrom : ℕ → List (List ℕ) → List Said → List Position → Type 0
ArePlacesFrom n [] [] [] = Unit {0}
ArePlacesFrom n (line ∷ ls) (Nothing ∷ said) ps = ArePlacesFrom (n + 1) ls said ps
ArePlacesFrom n (line ∷ ls) (Heading section ∷ said) ps = ArePlacesFrom (n + 1) ls said ps
ArePlacesFrom n (line ∷ ls) (Define part ∷ said) ps = ArePlacesFrom (n + 1) ls said ps
ArePlacesFrom n (line ∷ ls) (Rule w ∷ said) (p ∷ ps) =
    ((p.line ≡ n) × IsTextColumn (without_return line) w.text p.column) × ArePlacesFrom (n + 1) ls said ps
ArePlacesFrom n _ _ _ = ⊥

-- each rule stands at its place; lines count from 1
abbrev pub ArePlaces : List (List ℕ) → List FileRule → Type 0
ArePlaces ls rs = (said : List Said) × (LinesSay ls said × ArePlacesFrom 1 ls said (map (λ r. r.place) rs))

-- ---- errors

-- the line with this number, counted from 1, is the first that says nothing that a line may say
abbrev pub IsFirstBad : List (List ℕ) → ℕ → Type 0
IsFirstBad [] n = ⊥
IsFirstBad (line ∷ rest) zero = ⊥
IsFirstBad (line ∷ rest) (suc zero) = (said : Said) → ¬ LineSays line said
IsFirstBad (line ∷ rest) (suc (suc n)) = ((said : Said) × LineSays line said) × IsFirstBad rest (suc n)

-- what is wrong with a line, and the column: where its bytes stop being UTF-8, where a carriage return stands before its end, or where it stops
-- being a rule, a part or a section
abbrev pub IsLineFault : List ℕ → ℕ → LineFault → Type 0
IsLineFault line column NotUtf8 = ¬ IsUtf8 line × (column ≡ (position_of line (utf8_valid_len line)).column)
IsLineFault line column CarriageReturn =
    IsUtf8 line × ((front : List ℕ) × ((rest : List ℕ) × (IsSpan is_no_return (without_return line) front (13 ∷ rest)
    × (column ≡ (position_of (without_return line) (length front)).column))))
IsLineFault line column fault =
    IsTextLine line × ((front : List ℕ) × ((rest : List ℕ) × ((without_return line ≡ front ++ rest)
    × ((column ≡ (position_of (without_return line) (length front)).column) × StopsBefore Start (without_return line) rest fault))))

-- the name of a mode stands in this column of the line, after `mode` or `push`; the actions before it lead into modes of the file, and it doesn't
pub record IsNoMode (modes : List (List ℕ)) (line : List ℕ) (column : ℕ) : Type 0 where
  pub front : List ℕ
  pub here : List ℕ
  pub mode : List ℕ
  pub rest : List ℕ
  pub head : Head
  pub entry : Entry
  pub parts : line ≡ front ++ here
  pub reads : Reads Start line (Entering head entry) here
  pub named : (begins begins_name here ≡ true) × IsSpan is_of_name here mode rest
  pub within : AllLeadWithin modes head.actions
  pub missing : ¬ Contains modes mode
  pub counted : column ≡ (position_of line (length front)).column

-- the line with this number has the first action whose mode isn't one of the file's; its name stands in this column
abbrev pub IsFirstNoMode : List (List ℕ) → List (List ℕ) → List Said → ℕ → ℕ → Type 0
IsFirstNoMode modes (line ∷ ls) (s ∷ said) (suc zero) column = IsNoMode modes (without_return line) column
IsFirstNoMode modes (line ∷ ls) (Rule w ∷ said) (suc (suc n)) column = AllLeadWithin modes w.head.actions × IsFirstNoMode modes ls said (suc n) column
IsFirstNoMode modes (line ∷ ls) (Nothing ∷ said) (suc (suc n)) column = IsFirstNoMode modes ls said (suc n) column
IsFirstNoMode modes (line ∷ ls) (Define part ∷ said) (suc (suc n)) column = IsFirstNoMode modes ls said (suc n) column
IsFirstNoMode modes (line ∷ ls) (Heading section ∷ said) (suc (suc n)) column = IsFirstNoMode modes ls said (suc n) column
IsFirstNoMode modes _ _ n column = ⊥

-- the error is right: it names the first bad line, and where and why it is bad; or, if there is none, the first part whose pattern is none or whose
-- name another part has; or, if there is none of these either, the place of the first mode in an action that isn't one of the file's; or memory was
-- refused
abbrev pub IsRuleFileError : List ℕ → RuleFileError → Type 0
IsRuleFileError bytes (BadLine n column fault) =
    IsFirstBad (lines bytes) n × ((line : List ℕ) × ((slice_get (lines bytes) (n - 1) ≡ Some line) × IsLineFault line column fault))
IsRuleFileError bytes (BadPart n column kind) = IsFirstBadPart (lines bytes) n column × ((said : List Said) × LinesSay (lines bytes) said)
IsRuleFileError bytes (RepeatedPart n column) = IsFirstRepeatedPart (lines bytes) n column × ((said : List Said) × LinesSay (lines bytes) said)
IsRuleFileError bytes (NoSuchMode n column) =
    ((said : List Said) × (LinesSay (lines bytes) said × IsFirstNoMode (modes_of said) (lines bytes) said n column))
    × ((ps : List NamedPart) × AreFileParts (lines bytes) ps)
IsRuleFileError bytes OutOfMemory = Unit {0}
