-- cases: proofs/Cases/ModeSet.antt
-- What rules with modes say, as a user gives them.
use Rattle.std.specs.Prelude.{◌≡◌, ℕ, ◌<◌, ◌≤◌, ◌⊎◌, List, [], ◌∷◌, length, map, slice_get, Some, Contains}
use Rattle.lalrpop_hir.specs.Tree.{Tree}
use Rattle.lalrpop_hir.specs.Report.{NoFault, FirstFault}
use Rattle.lalrpop_rules.specs.Kinds.{AreKinds, AreOneKind}
use Rattle.lalrpop_rules.specs.RuleSet.{AreTrees, IsNotParsed, HasBadEnd, names_of, precedences_of, skips_of}
use Rattle.bajofeki_rules.specs.declared.rule.Rule.{Rule}
use Rattle.lalrpop_rules.specs.Modes.{ModeRules, IsModeClash}
use Rattle.bajofeki_rules.specs.EnteredModes.{OneLeadsInto}
use Rattle.bajofeki_rules.specs.declared.mode_rule.ModeRule.{ModeRule}
use Rattle.lalrpop_rules.specs.declared.error.RulesError.{RulesError}
use Rattle.lalrpop_rules.specs.declared.error.RulesError.TheVariants.{NoSuchMode, NotParsed, BadEnd, NotCompiled, Clash, OutOfMemory}

-- the rules without their modes and actions
abbrev pub rules_of : List ModeRule → List Rule
rules_of rs = map (λ r. r.rule) rs

-- rules of one kind have the same actions too
pub record AreOneModeKind (p q : ModeRule) : Type 0 where
  pub kind : AreOneKind p.rule q.rule
  pub actions : p.actions.now ≡ q.actions.now

-- what the rules say, with this many modes; their trees can be compiled
pub record AreModeRules (rs : List ModeRule) (modes : ℕ) (r : ModeRules) : Type 0 where
  pub names : r.names ≡ names_of (rules_of rs)
  pub trees : AreTrees (rules_of rs) r.trees
  pub no_fault : NoFault r.trees
  pub precedences : r.precedences ≡ precedences_of (rules_of rs)
  pub skips : r.skips ≡ skips_of (rules_of rs)
  pub actions : r.actions ≡ map (λ q. q.actions.now) rs
  pub members : r.members ≡ map (λ q. q.modes.now) rs
  pub kinds : AreKinds AreOneModeKind rs r.kinds
  pub count : r.modes ≡ modes

-- these are the rules, all of them in mode 0 and without actions
pub record AreInOneMode (rs : List Rule) (qs : List ModeRule) : Type 0 where
  pub rules : rules_of qs ≡ rs
  pub modes : map (λ q. q.modes.now) qs ≡ map (λ _. 0 ∷ []) rs
  pub actions : map (λ q. q.actions.now) qs ≡ map (λ _. []) rs

-- the rule belongs to the mode, or leads into it
abbrev pub NamesMode : ModeRule → ℕ → Type 0
NamesMode q m = Contains q.modes.now m ⊎ OneLeadsInto q.actions.now m

-- the rules before this one name only modes that are there
abbrev pub NameWithin : List ModeRule → ℕ → ℕ → Type 0
NameWithin rs modes i = (j m : ℕ) (q : ModeRule) → j < i → slice_get rs j ≡ Some q → NamesMode q m → m < modes

-- all rules do
abbrev pub AllThere : List ModeRule → ℕ → Type 0
AllThere rs modes = NameWithin rs modes (length rs)

-- the error is right: the first rule that names a mode that isn't there; else the first rule whose text has no tree; else the first rule that can't be
-- compiled; else the clash of the first mode that has one; or memory was refused
abbrev pub IsRulesError : List ModeRule → ℕ → RulesError → Type 0
IsRulesError rs modes (NoSuchMode i m) = (modes ≤ m) × ((q : ModeRule) × ((slice_get rs i ≡ Some q) × NamesMode q m)) × NameWithin rs modes i
IsRulesError rs modes (NotParsed i position kind) = AllThere rs modes × IsNotParsed (rules_of rs) i position
IsRulesError rs modes (BadEnd i e) = AllThere rs modes × HasBadEnd (rules_of rs) i e
IsRulesError rs modes (NotCompiled i e) = AllThere rs modes × ((ts : List Tree) × (AreTrees (rules_of rs) ts × FirstFault ts i e))
IsRulesError rs modes (Clash m i j w) = AllThere rs modes × ((r : ModeRules) × (AreModeRules rs modes r × IsModeClash r m w.items i j))
IsRulesError rs modes OutOfMemory = Unit {0}
