-- One lexer for each mode.
use Rattle.std.specs.Prelude.{◌≡◌, ℕ, ◌<◌, List, [], length, slice_get, Some}
use Rattle.lalrpop_hir.specs.Tree.{Tree}
use Rattle.lalrpop_hir.specs.declared.error.DfaConstructionError.{DfaConstructionError}
use Rattle.lalrpop_hir.specs.declared.error.DfaConstructionError.TheVariants as report
use Rattle.lalrpop_lexer.specs.Rules.{Rules}
use Rattle.bajofeki_rules.specs.Stack.{actions_of}
use Rattle.lalrpop_rules.specs.Modes.{ModeRules, trees_in, NoModeClash, IsModeClash}
use Rattle.bajofeki_rules.specs.EnteredModes.{OneLeadsInto}
use Rattle.lalrpop_rules.specs.ModeSet.{NamesMode}
use Rattle.bajofeki_rules.specs.declared.mode_rule.ModeRule.{ModeRule}
use Rattle.lalrpop_rules.specs.declared.error.RulesError.{RulesError}
use Rattle.lalrpop_rules.specs.declared.error.RulesError.TheVariants.{NoSuchMode, NotParsed, BadEnd, NotCompiled, Clash, OutOfMemory}

-- each of these recognizes the trees of its mode
abbrev pub AreLexers : ModeRules → List Rules → Type 0
AreLexers r ls = (m : ℕ) (l : Rules) → slice_get ls m ≡ Some l → (l.trees ≡ trees_in r m) × (l.precedences ≡ r.precedences)

-- the rules lead only into modes that are there
abbrev pub LeadWithin : ModeRules → Type 0
LeadWithin r = (i m : ℕ) → OneLeadsInto (actions_of r.actions i) m → m < r.modes

-- there is a mode, in which and in any other no word is ambiguous, each mode that an action names is there, and each rule and each mode has a name
pub record IsWhole (r : ModeRules) (ls : List Rules) : Type 0 where
  pub lexers : AreLexers r ls
  pub clear : NoModeClash r
  pub within : LeadWithin r
  pub some : 0 < r.modes
  pub named : length r.names ≡ length r.trees
  pub modes_named : length r.mode_names ≡ r.modes

-- all rules name only modes that are there
abbrev pub AllNameWithin : List ModeRule → ℕ → Type 0
AllNameWithin rs modes = (i m : ℕ) (q : ModeRule) → slice_get rs i ≡ Some q → NamesMode q m → m < modes

-- what is seen of rules while their lexers are built
abbrev pub seen : List Tree → List ℕ → List (List ℕ) → List ℕ → ℕ → ModeRules
seen ts ps members kinds modes =
    record { names = []; trees = ts; precedences = ps; skips = []; actions = []; members = members; kinds = kinds; modes = modes; mode_names = []; automata = [] }

-- the error for the report of a mode
abbrev pub in_mode : ℕ → DfaConstructionError → RulesError
in_mode m (report.NfaConstructionError i e) = NotCompiled i e
in_mode m (report.Ambiguity i j w) = Clash m i j w
in_mode m report.OutOfMemory = OutOfMemory

-- the error is the clash of the first mode that has one, or memory was refused
abbrev pub IsModeFault : ModeRules → RulesError → Type 0
IsModeFault r (NoSuchMode i m) = ⊥
IsModeFault r (NotParsed i position kind) = ⊥
IsModeFault r (BadEnd i e) = ⊥
IsModeFault r (NotCompiled i e) = ⊥
IsModeFault r (Clash m i j w) = IsModeClash r m w.items i j
IsModeFault r OutOfMemory = Unit {0}

-- only memory is refused, since no tree has a fault
abbrev pub IsClashesFault : RulesError → Type 0
IsClashesFault OutOfMemory = Unit {0}
IsClashesFault error = ⊥
