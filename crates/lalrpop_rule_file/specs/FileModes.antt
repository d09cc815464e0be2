-- cases: proofs/Cases/FileModes.antt
-- The modes of a file of rules, by what its lines say.
use Rattle.std.specs.Prelude.{◌≡◌, ℕ, if◌then◌else◌, Some, List, [], ◌∷◌, ◌++◌, length, codes, slice_get, Contains}
use Rattle.std.specs.List.{range_with_len}
use Rattle.std.specs.Str.{bytes_eq}
use Rattle.lalrpop_rule_file.specs.RuleLine.{Mode, Push, Written, Enters, Pops, WrittenPart, WrittenRule, Section, These, Every}
use Rattle.bajofeki_rules.specs.declared.action.Action.{Action}
use Rattle.bajofeki_rules.specs.declared.action.Action.TheVariants as action

-- what a line says: nothing, where a section begins, a part, or a rule
pub data Said : Type 0 where
  Nothing : Said
  Heading : (section : Section) → Said
  Define : (part : WrittenPart) → Said
  Rule : (rule : WrittenRule) → Said

-- rules above the first section belong to this mode
abbrev pub initial : Section
initial = These (codes "INITIAL" ∷ [])

-- the modes that a section names
abbrev pub named_by : Section → List (List ℕ)
named_by (These modes) = modes
named_by Every = []

-- the modes that lines name, where the first of them stand in this section: a section names its modes, and so does each rule in it
abbrev pub named_below : Section → List Said → List (List ℕ)
named_below section [] = []
named_below section (Nothing ∷ said) = named_below section said
named_below section (Heading next ∷ said) = named_by next ++ named_below next said
named_below section (Define part ∷ said) = named_below section said
named_below section (Rule rule ∷ said) = named_by section ++ named_below section said

-- without this name
abbrev pub without : List ℕ → List (List ℕ) → List (List ℕ)
without name [] = []
without name (other ∷ names) = if bytes_eq other name then without name names else other ∷ without name names

-- each name once, where it stands first
abbrev pub firsts : List (List ℕ) → List (List ℕ)
firsts [] = []
firsts (name ∷ names) = name ∷ without name (firsts names)

-- these, or INITIAL if there are none
abbrev pub or_initial : List (List ℕ) → List (List ℕ)
or_initial [] = codes "INITIAL" ∷ []
or_initial (mode ∷ modes) = mode ∷ modes

-- the modes of a file, in the order in which they first appear
abbrev pub modes_of : List Said → List (List ℕ)
modes_of said = or_initial (firsts (named_below initial said))

-- ---- numbers for names

-- the mode with this name has this number
abbrev pub IsNumber : List (List ℕ) → List ℕ → ℕ → Type 0
IsNumber modes name n = slice_get modes n ≡ Some name

-- these names have these numbers
abbrev pub AreNumbers : List (List ℕ) → List (List ℕ) → List ℕ → Type 0
AreNumbers modes [] [] = Unit {0}
AreNumbers modes (name ∷ names) (n ∷ ns) = IsNumber modes name n × AreNumbers modes names ns
AreNumbers modes _ _ = ⊥

-- the modes of a section: those that it names, or all modes of the file
abbrev pub AreModes : List (List ℕ) → Section → List ℕ → Type 0
AreModes modes (These names) ns = AreNumbers modes names ns
AreModes modes Every ns = ns ≡ range_with_len 0 (length modes)

abbrev pub IsAction : List (List ℕ) → Written → Action → Type 0
IsAction modes (Enters Mode name) (action.Mode n) = IsNumber modes name n
IsAction modes (Enters Push name) (action.Push n) = IsNumber modes name n
IsAction modes Pops action.Pop = Unit {0}
IsAction modes _ _ = ⊥

abbrev pub AreActions : List (List ℕ) → List Written → List Action → Type 0
AreActions modes [] [] = Unit {0}
AreActions modes (w ∷ ws) (a ∷ acts) = IsAction modes w a × AreActions modes ws acts
AreActions modes _ _ = ⊥

-- ---- actions that lead nowhere

-- the action leads into a mode of the file, or into none
abbrev pub LeadsWithin : List (List ℕ) → Written → Type 0
LeadsWithin modes (Enters entry name) = Contains modes name
LeadsWithin modes Pops = Unit {0}

abbrev pub AllLeadWithin : List (List ℕ) → List Written → Type 0
AllLeadWithin modes [] = Unit {0}
AllLeadWithin modes (w ∷ ws) = LeadsWithin modes w × AllLeadWithin modes ws
