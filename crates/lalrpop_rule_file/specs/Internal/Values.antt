-- What the values of the code say.
use Rattle.std.specs.Prelude.{◌≡◌, ℕ, Bool, true, Some, List, map, take, slice_get, ◌++◌}
use Rattle.lalrpop_rule_file.specs.Words.{IsSpan, begins, begins_name, is_blank, is_of_name}
use Rattle.lalrpop_rule_file.specs.LineText as text
use Rattle.lalrpop_rule_file.specs.LineText.{BeginsText}
use Rattle.lalrpop_rule_file.specs.RuleLine as line
use Rattle.lalrpop_rule_file.specs.RuleLine.{Written, Enters, Pops, Head, WrittenPart, WrittenRule, Part, Start, Entering, Reads}
use Rattle.lalrpop_rule_file.specs.FileModes as file
use Rattle.lalrpop_rule_file.specs.declared.written.Entry.{Entry}
use Rattle.lalrpop_rule_file.specs.declared.written.Entry.TheVariants.{Mode, Push}
use Rattle.lalrpop_rule_file.specs.declared.written.WrittenAction.{WrittenAction}
use Rattle.lalrpop_rule_file.specs.declared.written.WrittenAction.TheVariants.{Enter, Pop}
use Rattle.lalrpop_rule_file.specs.declared.written.Form.{Form}
use Rattle.lalrpop_rule_file.specs.declared.written.Form.TheVariants.{Literal, Escaped, Pattern}
use Rattle.lalrpop_rule_file.specs.declared.written.LineHead.{LineHead}
use Rattle.lalrpop_rule_file.specs.declared.written.LineName.{LineName}
use Rattle.lalrpop_rule_file.specs.declared.written.LinePart.{LinePart}
use Rattle.lalrpop_rule_file.specs.declared.written.LineRule.{LineRule}
use Rattle.lalrpop_rule_file.specs.declared.written.WrittenText.{WrittenText}
use Rattle.lalrpop_rule_file.specs.declared.written.WrittenText.TheVariants.{Quoted, AnyCase, FromTo}
use Rattle.lalrpop_rule_file.specs.declared.written.Section.{Section}
use Rattle.lalrpop_rule_file.specs.declared.written.Section.TheVariants.{These, Every}
use Rattle.lalrpop_rule_file.specs.declared.written.Said.{Said}
use Rattle.lalrpop_rule_file.specs.declared.written.Said.TheVariants.{Nothing, Heading, Define, Rule}

abbrev pub entry_of : Entry → line.Entry
entry_of Mode = line.Mode
entry_of Push = line.Push

abbrev pub written_of : WrittenAction → Written
written_of (Enter entry mode here) = Enters (entry_of entry) mode.now
written_of Pop = Pops

-- a name, whether `skip` follows it, and actions
abbrev pub head_with : List ℕ → Bool → List WrittenAction → Head
head_with name skipped actions = record { name = name; skipped = skipped; actions = map written_of actions }

abbrev pub head_of : LineHead → Head
head_of h = head_with h.name.now h.is_skipped h.actions.items

abbrev pub form_of : Form → text.Form
form_of Literal = text.Literal
form_of Escaped = text.Escaped
form_of Pattern = text.Pattern

abbrev pub text_of : WrittenText → text.Text
text_of (Quoted form inner) = text.Quoted (form_of form) inner.now
text_of (AnyCase inner) = text.AnyCase inner.now
text_of (FromTo a b) = text.FromTo a.now b.now

abbrev pub part_of : LinePart → WrittenPart
part_of p = line.part_of p.name.name.now p.pattern.now

abbrev pub rule_of : LineRule → WrittenRule
rule_of r = record { head = head_of r.head; precedence = r.precedence; text = text_of r.text.text }

abbrev pub section_of : Section → line.Section
section_of (These modes) = line.These (map (λ m. m.now) modes.items)
section_of Every = line.Every

abbrev pub said_of : Said → file.Said
said_of Nothing = file.Nothing
said_of (Heading section) = file.Heading (section_of section)
said_of (Define part) = file.Define (part_of part)
said_of (Rule rule) = file.Rule (rule_of rule)

-- the name of its mode stands there, where from this part on the text is read up to it
abbrev pub IsPlaced : Part → List ℕ → Head → WrittenAction → Type 0
IsPlaced from text head (Enter entry mode here) =
    Reads from text (Entering head (entry_of entry)) here.now × (begins begins_name here.now ≡ true) × ((behind : List ℕ) × IsSpan is_of_name here.now mode.now behind)
IsPlaced from text head Pop = Unit {0}

-- so is each of these, after those before it
abbrev pub ArePlaced : Part → List ℕ → List ℕ → Bool → List WrittenAction → Type 0
ArePlaced from text name skipped actions =
    (i : ℕ) (a : WrittenAction) → slice_get actions i ≡ Some a → IsPlaced from text (head_with name skipped (take i actions)) a

-- the modes of its actions stand where it is said, and its text too
abbrev pub ArePlacedIn : List ℕ → LineRule → Type 0
ArePlacedIn line rule = ArePlaced Start line rule.head.name.now rule.head.is_skipped rule.head.actions.items

abbrev pub HasText : List ℕ → LineRule → Type 0
HasText line rule = (front : List ℕ) × ((line ≡ front ++ rule.text.here.now) × BeginsText (text_of rule.text.text) rule.text.here.now)

-- the line begins with the name, after blanks
abbrev pub IsNameIn : List ℕ → LineName → Type 0
IsNameIn line n = (lead : List ℕ) × ((behind : List ℕ) × (IsSpan is_blank line lead n.here.now × IsSpan is_of_name n.here.now n.name.now behind))

-- it ends with the pattern, from after its first slash on
abbrev pub HasPattern : List ℕ → LinePart → Type 0
HasPattern line p = (front : List ℕ) × ((line ≡ front ++ p.here.now) × BeginsText (text.Quoted text.Pattern p.pattern.now) p.here.now)

abbrev pub KeepsPlaces : List ℕ → Said → Type 0
KeepsPlaces line (Rule rule) = ArePlacedIn line rule × HasText line rule
KeepsPlaces line (Define part) = IsNameIn line part.name × HasPattern line part
KeepsPlaces line _ = Unit {0}
