-- cases: proofs/Cases/Warnings.antt
-- What a file of rules may say, but surely doesn't mean.
use Rattle.std.specs.Prelude.{◌≡◌, ℕ, ◌<◌, ◌⊎◌, List, [], ◌++◌, Some, codes, length, map, slice_get}
use Rattle.std.specs.Str.Iter.{HasSubslice}
use Rattle.bajofeki_rules.specs.declared.rule_text.RuleText.{RuleText}
use Rattle.bajofeki_rules.specs.declared.rule_text.RuleText.TheVariants.{Pattern, PatternWith}
use Rattle.bajofeki_rules.specs.EnteredModes.{CanBeEntered}
use Rattle.lalrpop_rule_file.specs.declared.file_rule.FileRule.{FileRule}
use Rattle.lalrpop_rule_file.specs.declared.part_line.PartLine.{PartLine}
use Rattle.lalrpop_rule_file.specs.declared.file.RuleFile.{RuleFile}
use Rattle.lalrpop_rule_file.specs.declared.warning.Warning.{Warning}
use Rattle.lalrpop_rule_file.specs.declared.warning.Warning.TheVariants.{NoRules, PartUnused, ModeNotEntered, ModeNotLeft, TextGoesOn, ClassOutside, EndPassed}
use Rattle.lalrpop_rule_file.specs.LeftModes.{CanBeLeft}
use Rattle.lalrpop_rule_file.specs.GoesOn.{IsGoingOn}
use Rattle.lalrpop_rule_file.specs.OutsideClass.{HasOutsideClass}
use Rattle.lalrpop_rule_file.specs.PassedEnd.{HasPassedEnd}

-- ---- parts

-- a pattern says so where it means the part with this name
abbrev pub reference : List ℕ → List ℕ
reference name = codes "{" ++ (name ++ codes "}")

-- these bytes stand in the pattern of the text
abbrev pub StandsIn : List ℕ → RuleText → Type 0
StandsIn bytes (Pattern inner) = HasSubslice inner.now bytes
StandsIn bytes (PatternWith inner parts) = HasSubslice inner.now bytes
StandsIn bytes text = ⊥

-- they stand in the pattern of a part after the one with this index
abbrev pub StandsInPart : List ℕ → ℕ → List PartLine → Type 0
StandsInPart bytes i ps = (j : ℕ) × ((p : PartLine) × ((i < j) × (slice_get ps j ≡ Some p) × HasSubslice p.pattern.now bytes))

-- they stand in the pattern of a rule that knows the part with this index
abbrev pub StandsInRule : List ℕ → ℕ → List FileRule → Type 0
StandsInRule bytes i rs = (j : ℕ) × ((r : FileRule) × ((i < r.known) × (slice_get rs j ≡ Some r) × StandsIn bytes r.rule.text))

-- the part with this index is there, and nothing that may have it says so
abbrev pub IsUnused : RuleFile → ℕ → Type 0
IsUnused file i =
    (p : PartLine) × ((slice_get file.part_lines.items i ≡ Some p)
    × (¬ StandsInPart (reference p.name.now) i file.part_lines.items) × ¬ StandsInRule (reference p.name.now) i file.rules.items)

-- ---- modes and texts

-- the mode with this number can be entered
abbrev pub IsEnteredMode : RuleFile → ℕ → Type 0
IsEnteredMode file m = CanBeEntered (map (λ r. r.modes.items) file.rules.items) (map (λ r. r.actions.items) file.rules.items) (length file.modes.items) m

-- a mode that is entered and never left. In the first one every text begins
abbrev pub IsNeverLeft : RuleFile → ℕ → Type 0
IsNeverLeft file m = (0 < m) × ((m < length file.modes.items) × (IsEnteredMode file m × ¬ CanBeLeft file.rules.items m))

-- the rule with this index has such a text
abbrev pub HasText : (RuleText → Type 0) → RuleFile → ℕ → Type 0
HasText is file i = (r : FileRule) × ((slice_get file.rules.items i ≡ Some r) × is r.rule.text)

-- ---- warnings

-- what the warning says is so
abbrev pub IsWarning : RuleFile → Warning → Type 0
IsWarning file NoRules = file.rules.items ≡ []
IsWarning file (PartUnused i) = IsUnused file i
IsWarning file (ModeNotEntered m) = (m < length file.modes.items) × ¬ IsEnteredMode file m
IsWarning file (ModeNotLeft m) = IsNeverLeft file m
IsWarning file (TextGoesOn i) = HasText IsGoingOn file i
IsWarning file (ClassOutside i) = HasText HasOutsideClass file i
IsWarning file (EndPassed i) = HasText HasPassedEnd file i

-- the order of warnings: by their kinds, and then by their numbers
abbrev pub kind_of : Warning → ℕ
kind_of NoRules = 0
kind_of (PartUnused i) = 1
kind_of (ModeNotEntered m) = 2
kind_of (ModeNotLeft m) = 3
kind_of (TextGoesOn i) = 4
kind_of (ClassOutside i) = 5
kind_of (EndPassed i) = 6

abbrev pub number_of : Warning → ℕ
number_of NoRules = 0
number_of (PartUnused i) = i
number_of (ModeNotEntered m) = m
number_of (ModeNotLeft m) = m
number_of (TextGoesOn i) = i
number_of (ClassOutside i) = i
number_of (EndPassed i) = i

abbrev pub ComesBefore : Warning → Warning → Type 0
ComesBefore v w = (kind_of v < kind_of w) ⊎ ((kind_of v ≡ kind_of w) × (number_of v < number_of w))

-- each comes before those after it: so no two are alike
abbrev pub AreInOrder : List Warning → Type 0
AreInOrder ws = (i j : ℕ) (v w : Warning) → i < j → slice_get ws i ≡ Some v → slice_get ws j ≡ Some w → ComesBefore v w
