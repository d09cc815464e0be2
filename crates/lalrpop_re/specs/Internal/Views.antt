-- How the parser's values relate to those of the grammar.
use Rattle.std.specs.Prelude.{◌≡◌, ◌↔◌, ℕ, List, length, drop, slice_get, unwrap_or, Option, Some, None, Result, Ok, Err, string_bytes}
use Rattle.lalrpop_hir.specs.Range.{Range, Covered}
use Rattle.lalrpop_hir.specs.Runs.{IsScalar}
use Rattle.lalrpop_re.specs.declared.error.RegexError.{RegexError}
use Rattle.lalrpop_re.specs.declared.error.RegexError.TheVariants.{Syntax, OutOfMemory}
use Rattle.lalrpop_re.specs.declared.cursor.Cursor.{Cursor}
use Rattle.lalrpop_re.specs.declared.escape_sequence.EscapedPart.{EscapedPart}
use Rattle.lalrpop_re.specs.declared.escape_sequence.EscapedPart.TheVariants as code
use Rattle.lalrpop_re.specs.declared.opening.GroupOpening.{GroupOpening}
use Rattle.lalrpop_re.specs.declared.opening.GroupOpening.TheVariants.{Plain, Named, Flagged, Directive}
use Rattle.lalrpop_re.specs.declared.bracket.BracketOperator.{BracketOperator}
use Rattle.lalrpop_re.specs.declared.bracket.BracketOperator.TheVariants as operator
use Rattle.lalrpop_re.specs.declared.error.SyntaxKind.TheVariants.{GroupName}
use Rattle.lalrpop_re.specs.GroupName.{IsFirstRepeated}
use Rattle.lalrpop_re.specs.Text.{Text}
use Rattle.lalrpop_hir.specs.Tree.{Tree}
use Rattle.lalrpop_re.specs.NamedPart.{NamedPart}
use Rattle.lalrpop_re.specs.Pattern.{PatternWith}
use Rattle.lalrpop_re.specs.CharacterSet.{Set, Members, HasRuns}
use Rattle.lalrpop_re.specs.Escape.{Escaped, character, set, assertion}
use Rattle.lalrpop_re.specs.Bracket.{SetOperator, Intersection, Difference, SymmetricDifference}
use Rattle.lalrpop_re.specs.Internal.Reading.{Opened, a_plain_group, a_named_group, a_flagged_group, a_directive_to}

unfoldable pub text_from : ℕ → Text → Text
text_from = drop

-- the characters that are still to be read
abbrev pub text : Cursor → Text
text c = text_from c.position c.chars.items

abbrev pub unread : Cursor → ℕ
unread c = length (text c)

-- where the named group of this number opened
abbrev pub place_of : Cursor → ℕ → ℕ
place_of c number = unwrap_or (slice_get c.named.items number) c.position

-- ---- sets

-- the ranges cover exactly the scalar values of the set, in any order
abbrev pub HasMembers : List Range → Set → Type 0
HasMembers rs s = (c : ℕ) → IsScalar c → Members s c ↔ Covered rs c

-- ---- whole texts

-- the text spells the tree with the parts, and no other, and its syntax is nested so deep
abbrev pub HasLevels : List NamedPart → Text → Tree → ℕ → Type 0
HasLevels parts s t levels = (p : PatternWith parts s t) × (p.levels ≡ levels) × ((other : Tree) → PatternWith parts s other → other ≡ t)

-- ---- parts

-- what an escape stands for
abbrev pub StandsForEscaped : EscapedPart → Escaped → Type 0
StandsForEscaped (code.Character c) (character d) = c ≡ d
StandsForEscaped (code.Set class negated) (set s complemented) = HasRuns class s × (negated ≡ complemented)
StandsForEscaped (code.Assertion l) (assertion m) = l ≡ m
StandsForEscaped _ _ = ⊥

abbrev pub opened_view : GroupOpening → Opened
opened_view Plain = a_plain_group
opened_view (Named name) = a_named_group (string_bytes name)
opened_view (Flagged flags) = a_flagged_group flags
opened_view (Directive flags) = a_directive_to flags

abbrev pub operator_view : BracketOperator → SetOperator
operator_view operator.Intersection = Intersection
operator_view operator.Difference = Difference
operator_view operator.SymmetricDifference = SymmetricDifference

-- ---- answers

-- a refusal: memory was refused, or the text does not parse
abbrev pub Refuses : {B : Type 0} → RegexError → Option B → Type 0
Refuses (Syntax position kind) reading = reading ≡ None
Refuses OutOfMemory reading = Unit {0}

-- the refusal points at the group with the first name that repeats an earlier one
abbrev pub PointsAtRepeated : List (List ℕ) → Cursor → RegexError → Type 0
PointsAtRepeated ns c (Syntax position kind) = (number : ℕ) × IsFirstRepeated ns number × (position ≡ place_of c number) × (kind ≡ GroupName)
PointsAtRepeated ns c OutOfMemory = Unit {0}

-- what a function returned, seen by view, is the reading, memory aside
abbrev pub Gives : {A B : Type 0} → (A → B) → Result A RegexError → Option B → Type 0
Gives view (Ok a) reading = reading ≡ Some (view a)
Gives view (Err e) reading = Refuses e reading

-- what a function returned stands for the reading, memory aside
abbrev pub Finds : {A B : Type 0} → (A → B → Type 0) → Result A RegexError → Option B → Type 0
Finds {A = A} {B = B} StandsFor (Ok a) reading = (b : B) × (reading ≡ Some b) × StandsFor a b
Finds StandsFor (Err e) reading = Refuses e reading
