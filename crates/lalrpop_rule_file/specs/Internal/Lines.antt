-- The lines of a file, while they are read.
use Rattle.std.specs.Prelude.{◌≡◌, ℕ, ◌⊎◌, Bool, true, false, if◌then◌else◌, List, [], ◌∷◌, ◌++◌, map, chars, Contains}
use Rattle.std.specs.Borrow.{Bor}
use Rattle.std.specs.Str.{bytes_eq}
use Rattle.lalrpop_re.specs.NamedPart.{NamedPart}
use Rattle.lalrpop_re.specs.Pattern.{IsPart}
use Rattle.lalrpop_rule_file.specs.RuleLine.{Section, WrittenPart}
use Rattle.lalrpop_rule_file.specs.FileModes.{Said, Nothing, Heading, Define, Rule, modes_of, named_by}
use Rattle.lalrpop_rule_file.specs.FileParts.{IsNameColumn, IsPatternColumn}
use Rattle.lalrpop_rule_file.specs.RuleFile.{LineSays, LinesSay, IsLineFault, IsNoMode}
use Rattle.lalrpop_rule_file.specs.declared.written.WrittenAction.{WrittenAction}
use Rattle.lalrpop_rule_file.specs.declared.written.WrittenAction.TheVariants.{Enter, Pop}
use Rattle.lalrpop_rule_file.specs.declared.error.RuleFileError.{RuleFileError}
use Rattle.lalrpop_rule_file.specs.declared.error.RuleFileError.TheVariants.{BadLine, BadPart, RepeatedPart, NoSuchMode, OutOfMemory}

abbrev pub names_in : List (Bor (List ℕ)) → List (List ℕ)
names_in modes = map (λ m. m.now) modes

-- each of these is a mode
abbrev pub AllIn : List (List ℕ) → List (List ℕ) → Type 0
AllIn modes [] = Unit {0}
AllIn modes (name ∷ names) = Contains modes name × AllIn modes names

-- the section in which the next line stands, and the modes that a line names
abbrev pub section_after : Section → Said → Section
section_after section Nothing = section
section_after section (Heading next) = next
section_after section (Define part) = section
section_after section (Rule rule) = section

abbrev pub named_at : Section → Said → List (List ℕ)
named_at section Nothing = []
named_at section (Heading next) = named_by next
named_at section (Define part) = []
named_at section (Rule rule) = named_by section

-- the names and one more, where it isn't there yet
abbrev pub has : List (List ℕ) → List ℕ → Bool
has [] name = false
has (other ∷ names) name = if bytes_eq other name then true else has names name

abbrev pub add_name : List (List ℕ) → List ℕ → List (List ℕ)
add_name names name = if has names name then names else names ++ (name ∷ [])

abbrev pub add_names : List (List ℕ) → List (List ℕ) → List (List ℕ)
add_names names [] = names
add_names names (name ∷ more) = add_names (add_name names name) more

-- the modes are those of what the lines say
abbrev pub HasModes : List (List ℕ) → List (List ℕ) → Type 0
HasModes ls modes = (said : List Said) × (LinesSay ls said × (modes ≡ modes_of said))

-- it is the error of the line with this number
abbrev pub IsErrorOfLine : ℕ → List ℕ → RuleFileError → Type 0
IsErrorOfLine number line (BadLine n column fault) = (n ≡ number) × ((said : Said) → ¬ LineSays line said) × IsLineFault line column fault
IsErrorOfLine number line (BadPart n column kind) = ⊥
IsErrorOfLine number line (RepeatedPart n column) = ⊥
IsErrorOfLine number line (NoSuchMode n column) = ⊥
IsErrorOfLine number line OutOfMemory = Unit {0}

-- the error of a part in the line with this number, below parts with these names: the name is one of them, or the pattern is none
abbrev pub IsErrorOfPart : List (List ℕ) → List NamedPart → ℕ → List ℕ → WrittenPart → RuleFileError → Type 0
IsErrorOfPart names ps number line w (BadLine n column fault) = ⊥
IsErrorOfPart names ps number line w (BadPart n column kind) =
    (n ≡ number) × (¬ Contains names w.name) × ((p : NamedPart) → ¬ IsPart ps (chars w.name) (chars w.pattern) p) × IsPatternColumn line w.pattern column
IsErrorOfPart names ps number line w (RepeatedPart n column) = (n ≡ number) × Contains names w.name × IsNameColumn line w.name column
IsErrorOfPart names ps number line w (NoSuchMode n column) = ⊥
IsErrorOfPart names ps number line w OutOfMemory = Unit {0}

-- the rest of the line begins with the first mode that isn't there
abbrev pub IsFirstMissing : List (List ℕ) → List WrittenAction → List ℕ → Type 0
IsFirstMissing modes [] rest = ⊥
IsFirstMissing modes (Enter entry mode here ∷ actions) rest = ((¬ Contains modes mode.now) × (here.now ≡ rest)) ⊎ (Contains modes mode.now × IsFirstMissing modes actions rest)
IsFirstMissing modes (Pop ∷ actions) rest = IsFirstMissing modes actions rest

-- the error of a rule in the line with this number: a mode in its actions that isn't there
abbrev pub IsErrorOfRule : List (List ℕ) → ℕ → List ℕ → RuleFileError → Type 0
IsErrorOfRule modes number line (BadLine n column fault) = ⊥
IsErrorOfRule modes number line (BadPart n column kind) = ⊥
IsErrorOfRule modes number line (RepeatedPart n column) = ⊥
IsErrorOfRule modes number line (NoSuchMode n column) = (n ≡ number) × IsNoMode modes line column
IsErrorOfRule modes number line OutOfMemory = Unit {0}
