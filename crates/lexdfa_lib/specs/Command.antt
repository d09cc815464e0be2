-- cases: proofs/Cases/Command.antt
-- What the arguments ask for.
use Rattle.std.specs.Prelude.{◌≡◌, ◌≢◌, ℕ, ◌≤◌, ◌==◌, Bool, true, false, not, ◌&&◌, ◌||◌, List, [], ◌∷◌, ◌++◌, Option, Some, None, IfSome, codes, map, filter, find, length, slice_get, if◌then◌else◌}
use Rattle.std.specs.List.{list_any, starts_with}
use Rattle.std.specs.Str.{bytes_eq}
use Rattle.lexdfa_lib.specs.declared.layout.LineForm.TheVariants.{Plain, Json}
use Rattle.lexdfa_lib.specs.declared.command.Action.{Action}
use Rattle.lexdfa_lib.specs.declared.command.Action.TheVariants.{Cut, Show, Clashes, Emit, Picture, Check, Difference}
use Rattle.lexdfa_lib.specs.declared.command.ArgumentsError.{ArgumentsError}
use Rattle.lexdfa_lib.specs.declared.command.ArgumentsError.TheVariants.{Unknown, NoRules, Apart, NoFiles, NoOther}
use Rattle.lexdfa_lib.specs.declared.command.Command.{Command}
use Rattle.lexdfa_lib.specs.declared.command.Command.TheVariants.{Help, Version, Run}
use Rattle.lexdfa_lib.specs.declared.command.Language.TheVariants.{C, Rust}
use Rattle.lexdfa_lib.specs.declared.command.Markup.TheVariants.{Html, Ansi}
use Rattle.lexdfa_lib.specs.declared.command.Verbosity.{Verbosity}
use Rattle.lexdfa_lib.specs.declared.command.Verbosity.TheVariants.{Quiet, Warnings, Progress}

-- the options of each action, in the order of this table
abbrev pub options_of : Action → List (List ℕ)
options_of (Cut Plain false) = []
options_of (Cut Plain true) = codes "--recover" ∷ []
options_of (Cut Json false) = codes "--json" ∷ []
options_of (Cut Json true) = codes "--recover" ∷ codes "--json" ∷ []
options_of (Show Html) = codes "--html" ∷ []
options_of (Show Ansi) = codes "--color=always" ∷ []
options_of Clashes = codes "--clashes" ∷ []
options_of (Emit (C None)) = codes "--emit=c" ∷ []
options_of (Emit (C (Some prefix))) = codes "--emit=c" ∷ (codes "--prefix=" ++ prefix.now) ∷ []
options_of (Emit Rust) = codes "--emit=rust" ∷ []
options_of Picture = codes "--dot" ∷ []
options_of (Check Plain) = codes "--check" ∷ []
options_of (Check Json) = codes "--json" ∷ codes "--check" ∷ []
options_of Difference = codes "--diff" ∷ []

-- how many names at most stand after RULES where no FILE is read: a rule for --dot, the other rules for --diff, none for others
abbrev pub most_names : Action → Option ℕ
most_names Clashes = Some 0
most_names (Emit language) = Some 0
most_names Picture = Some 1
most_names (Check form) = Some 0
most_names Difference = Some 1
most_names action = None

-- these names may stand after RULES: not more than there may be, and for --diff the other rules
abbrev pub TakesNames : Action → List (List ℕ) → Type 0
TakesNames action named = IfSome (most_names action) (λ most. length named ≤ most) × (action ≡ Difference → length named ≡ 1)

-- whether a word is among others
abbrev pub has : List (List ℕ) → List ℕ → Bool
has words word = list_any (λ other. bytes_eq other word) words

-- the options of actions, in the order of the table
abbrev pub action_options : List (List ℕ)
action_options = codes "--recover" ∷ codes "--json" ∷ codes "--html" ∷ codes "--clashes" ∷ codes "--emit=c" ∷ codes "--emit=rust" ∷ codes "--dot" ∷ codes "--check" ∷ codes "--diff" ∷ []

-- the option says a prefix
abbrev pub is_prefix_option : List ℕ → Bool
is_prefix_option option = starts_with ◌==◌ option (codes "--prefix=")

-- those that are given, and then all prefixes
abbrev pub said : List (List ℕ) → List (List ℕ)
said options = filter (has options) action_options ++ filter is_prefix_option options

-- the options that go with all others
abbrev pub common_options : List (List ℕ)
common_options =
    codes "--quiet" ∷ codes "--progress" ∷ codes "--ansi" ∷ codes "--color=auto" ∷ codes "--color=always" ∷ codes "--color=never" ∷ []

-- colours are asked for; --color=never wins
abbrev pub asks_colours : List (List ℕ) → Bool
asks_colours options = (has options (codes "--color=always") || has options (codes "--ansi")) && not (has options (codes "--color=never"))

-- what is asked for: those, or colours if there are none
abbrev pub or_colours : Bool → List (List ℕ) → List (List ℕ)
or_colours true [] = codes "--color=always" ∷ []
or_colours asked options = options

abbrev pub given : List (List ℕ) → List (List ℕ)
given options = or_colours (asks_colours options) (said options)

-- how much is said; --quiet wins
abbrev pub verbosity_of : List (List ℕ) → Verbosity
verbosity_of options = if has options (codes "--quiet") then Quiet else if has options (codes "--progress") then Progress else Warnings

-- the first option that is none of them
abbrev pub is_known : List ℕ → Bool
is_known option = has action_options option || (has common_options option || is_prefix_option option)

abbrev pub unknown : List (List ℕ) → Option (List ℕ)
unknown options = find (λ option. not (is_known option)) options

-- an action by a file of rules on the names after it
abbrev pub IsFilesRun : Action → Verbosity → List ℕ → List (List ℕ) → Command → Type 0
IsFilesRun action verbosity rules named (Run its_action its_verbosity its_rules files) =
    (its_action ≡ action) × ((its_verbosity ≡ verbosity) × ((its_rules.now ≡ rules) × (TakesNames action named × (map (λ file. file.now) files.items ≡ named))))
IsFilesRun action verbosity rules named command = ⊥

-- the action with just these options, by the first name on the others
abbrev pub IsRun : List (List ℕ) → List (List ℕ) → Command → Type 0
IsRun options names command =
    (action : Action) × ((given options ≡ options_of action) × ((rules : List ℕ) × ((named : List (List ℕ)) × ((names ≡ rules ∷ named) × IsFilesRun action (verbosity_of options) rules named command))))

-- the first name too many, or the other rules are missing
abbrev pub IsFilesError : Action → List (List ℕ) → ArgumentsError → Type 0
IsFilesError action named (NoFiles file) = (most : ℕ) × ((most_names action ≡ Some most) × (slice_get named most ≡ Some file.now))
IsFilesError Difference named NoOther = named ≡ []
IsFilesError action named error = ⊥

-- RULES is missing, or the options don't go together, or the names after RULES don't fit
abbrev pub IsRunError : List (List ℕ) → List (List ℕ) → ArgumentsError → Type 0
IsRunError options names NoRules = names ≡ []
IsRunError options names (Apart apart) = (names ≢ []) × ((given options ≡ map (λ option. option.now) apart.items) × ((action : Action) → given options ≢ options_of action))
IsRunError options names error =
    (action : Action) × ((given options ≡ options_of action) × ((rules : List ℕ) × ((named : List (List ℕ)) × ((names ≡ rules ∷ named) × IsFilesError action named error))))

-- the help is asked for
abbrev pub asks_help : List (List ℕ) → Bool
asks_help options = has options (codes "--help") || has options (codes "-h")

-- the version is
abbrev pub asks_version : List (List ℕ) → Bool
asks_version options = has options (codes "--version") || has options (codes "-V")

-- neither is asked for
abbrev pub AsksNoHelp : List (List ℕ) → Type 0
AsksNoHelp options = (asks_help options ≡ false) × (asks_version options ≡ false)

-- the options and the names ask for the command
abbrev pub IsCommand : List (List ℕ) → List (List ℕ) → Command → Type 0
IsCommand options names Help = asks_help options ≡ true
IsCommand options names Version = (asks_help options ≡ false) × (asks_version options ≡ true)
IsCommand options names command = AsksNoHelp options × ((unknown options ≡ None) × IsRun options names command)

-- they ask for none
abbrev pub IsArgumentsError : List (List ℕ) → List (List ℕ) → ArgumentsError → Type 0
IsArgumentsError options names (Unknown option) = AsksNoHelp options × (unknown options ≡ Some option.now)
IsArgumentsError options names error = AsksNoHelp options × ((unknown options ≡ None) × IsRunError options names error)
