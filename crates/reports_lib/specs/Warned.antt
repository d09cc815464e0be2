-- cases: proofs/Cases/Warned.antt
-- What is said of what a file of rules says, but surely doesn't mean.
use Rattle.std.specs.Prelude.{◌≡◌, ◌↔◌, ℕ, List, ◌++◌, Contains, codes, decimal, flat_map, map}
use Rattle.json.specs.Token as json
use Rattle.bajofeki_rules.specs.declared.position.Position.{Position}
use Rattle.lalrpop_rule_file.specs.Warnings.{AreInOrder, IsWarning}
use Rattle.lalrpop_rule_file.specs.declared.file.RuleFile.{RuleFile}
use Rattle.lalrpop_rule_file.specs.declared.file_rule.FileRule.{FileRule}
use Rattle.lalrpop_rule_file.specs.declared.part_line.PartLine.{PartLine}
use Rattle.lalrpop_rule_file.specs.declared.warning.Warning.{Warning}
use Rattle.lalrpop_rule_file.specs.declared.warning.Warning.TheVariants.{NoRules, PartUnused, ModeNotEntered, ModeNotLeft, TextGoesOn, ClassOutside, EndPassed}
use Rattle.reports_lib.specs.Answer.{about, headed}
use Rattle.reports_lib.specs.PieceLines.{name_at, number_member, string_member, kind_member, object_line}
use Rattle.reports_lib.specs.ModePlace.{TellsSections}
use Rattle.reports_lib.specs.Reasons.{place_at}
use Rattle.lexdfa_lib.specs.declared.layout.LineForm.{LineForm}
use Rattle.lexdfa_lib.specs.declared.layout.LineForm.TheVariants.{Plain, Json}

-- ---- what a warning speaks of

-- the name of the part with this index, and where its line begins it
abbrev pub part_name : RuleFile → ℕ → List ℕ
part_name file i = name_at (map (λ (p : PartLine). p.name.now) file.part_lines.items) i

abbrev pub part_place : RuleFile → ℕ → Position
part_place file i = place_at (map (λ (p : PartLine). p.place) file.part_lines.items) i

-- the name of the mode with this number
abbrev pub mode_name : RuleFile → ℕ → List ℕ
mode_name file m = name_at (map (λ name. name.now) file.modes.items) m

-- the name of the rule with this index, and where its text begins
abbrev pub rule_name : RuleFile → ℕ → List ℕ
rule_name file i = name_at (map (λ (r : FileRule). r.rule.name.now) file.rules.items) i

abbrev pub text_place : RuleFile → ℕ → Position
text_place file i = place_at (map (λ (r : FileRule). r.place) file.rules.items) i

-- ---- lines

-- a warning about the whole file, and one about a place in it
abbrev pub warned_of : List ℕ → List ℕ → List ℕ
warned_of name words = about name (codes "warning: " ++ words)

abbrev pub warned_at : List ℕ → Position → List ℕ → List ℕ
warned_at name place words =
    headed name (decimal place.line ++ (codes ":" ++ (decimal place.column ++ (codes ": warning: " ++ (words ++ codes "\n")))))

-- the line of a warning about the file with this name; the section of each mode begins where it is told
abbrev pub warning_line : List ℕ → (List ℕ → Position) → RuleFile → Warning → List ℕ
warning_line name section file NoRules = warned_of name (codes "there is no rule in this file: a rule is a line NAME = 'TEXT' or NAME = /PATTERN/")
warning_line name section file (PartUnused i) = warned_at name (part_place file i) (codes "no pattern below uses the part {" ++ (part_name file i ++ codes "}"))
warning_line name section file (ModeNotEntered m) = warned_at name (section (mode_name file m)) (codes "no rule enters the mode " ++ mode_name file m)
warning_line name section file (ModeNotLeft m) =
    warned_at name (section (mode_name file m)) (codes "no rule leaves the mode " ++ (mode_name file m ++ codes ": none pops it or puts another mode in its place"))
warning_line name section file (TextGoesOn i) =
    warned_at name (text_place file i) (codes "this text goes on to the last delimiter of the line, past one that seems to end it")
warning_line name section file (ClassOutside i) =
    warned_at name (text_place file i) (codes "a bracket such as [:alpha:] is a set of its characters: a class stands in brackets, as [[:alpha:]]")
warning_line name section file (EndPassed i) =
    warned_at name (text_place file i) (codes "a match goes on past the first end to the last one: write from 'A' to 'B', or `[^x]*x` for `.*x`")

-- ---- objects

-- the file, a place in it, and the kind
abbrev pub warned_members : List ℕ → Position → List ℕ → List json.Token
warned_members name place kind =
    string_member (codes "file") name
    ++ (number_member (codes "line") place.line ++ (number_member (codes "column") place.column ++ kind_member kind))

abbrev pub warning_members : List ℕ → (List ℕ → Position) → RuleFile → Warning → List json.Token
warning_members name section file NoRules = string_member (codes "file") name ++ kind_member (codes "no-rules")
warning_members name section file (PartUnused i) =
    warned_members name (part_place file i) (codes "part-unused") ++ string_member (codes "part") (part_name file i)
warning_members name section file (ModeNotEntered m) =
    warned_members name (section (mode_name file m)) (codes "mode-not-entered") ++ string_member (codes "mode") (mode_name file m)
warning_members name section file (ModeNotLeft m) =
    warned_members name (section (mode_name file m)) (codes "mode-not-left") ++ string_member (codes "mode") (mode_name file m)
warning_members name section file (TextGoesOn i) =
    warned_members name (text_place file i) (codes "text-goes-on") ++ string_member (codes "rule") (rule_name file i)
warning_members name section file (ClassOutside i) =
    warned_members name (text_place file i) (codes "class-outside") ++ string_member (codes "rule") (rule_name file i)
warning_members name section file (EndPassed i) =
    warned_members name (text_place file i) (codes "end-passed") ++ string_member (codes "rule") (rule_name file i)

-- ---- what is said

-- what is said of a warning
abbrev pub warning_text : LineForm → List ℕ → (List ℕ → Position) → RuleFile → Warning → List ℕ
warning_text Plain name section file w = warning_line name section file w
warning_text Json name section file w = object_line (warning_members name section file w)

-- all warnings about the file, each once, in their order
pub record AreWarnings (file : RuleFile) (ws : List Warning) : Type 0 where
  pub all : (w : Warning) → Contains ws w ↔ IsWarning file w
  pub in_order : AreInOrder ws

-- a line for each of them, where the file has these lines
abbrev pub SaysWarnings : LineForm → List ℕ → List (List ℕ) → RuleFile → List ℕ → Type 0
SaysWarnings form name ls file said =
    (section : List ℕ → Position) × (TellsSections ls section
    × ((ws : List Warning) × (AreWarnings file ws × (said ≡ flat_map (warning_text form name section file) ws))))
