-- cases: proofs/Cases/NamedRules.antt
-- What is answered by a file of rules.
use Rattle.std.specs.Prelude.{◌≡◌, ◌<◌, ℕ, ◌⊎◌, List, [], ◌∷◌, length, map, slice_get, Some, Ok, Err}
use Rattle.lalrpop_hir.specs.Clashes.{Entry}
use Rattle.bajofeki_rules.specs.Lines.{lines}
use Rattle.bajofeki_rules.specs.declared.position.Position.{Position}
use Rattle.lalrpop_rules.specs.ModeClashes.{AreModeClashes, IsModesFault}
use Rattle.lalrpop_rules.specs.ModeSet.{AreModeRules, IsRulesError, NamesMode, rules_of}
use Rattle.lalrpop_rules.specs.Modes.{ModeRules, NoModeClash}
use Rattle.lalrpop_rules.specs.declared.error.RulesError.{RulesError}
use Rattle.lalrpop_rules.specs.declared.error.RulesError.TheVariants.{NotParsed, BadEnd}
use Rattle.bajofeki_rules.specs.declared.mode_rule.ModeRule.{ModeRule}
use Rattle.lalrpop_rules.specs.RuleSet.{names_of}
use Rattle.lalrpop_re.specs.NamedPart.{NamedPart}
use Rattle.lalrpop_rule_file.specs.RuleFile.{AreFileParts, AreRules, ArePlaces, IsRuleFileError, without_mark}
use Rattle.lalrpop_rule_file.specs.declared.file_rule.FileRule.{FileRule}
use Rattle.lalrpop_rule_file.specs.declared.error.RuleFileError.{RuleFileError}
use Rattle.lexdfa_lib.specs.Streams.{Given}
use Rattle.reports_lib.specs.Answer.{Answer, refusal, remark, followed, about, headed}
use Rattle.reports_lib.specs.Reasons.{SaysBadLine, SaysRules}
use Rattle.reports_lib.specs.RuleClashes.{clash_lines}
use Rattle.reports_lib.specs.FileRules.{AreFileRules}
use Rattle.lexdfa_lib.specs.declared.layout.LineForm.{LineForm}
use Rattle.lexdfa_lib.specs.declared.layout.LineForm.TheVariants.{Plain}
use Rattle.reports_lib.specs.WarningsSaid.{Warned}
use Rattle.lexdfa_lib.specs.declared.command.Verbosity.{Verbosity}

-- the rules name only modes that are there
abbrev pub NameOnly : List ModeRule → ℕ → Type 0
NameOnly rs modes = (i m : ℕ) (q : ModeRule) → slice_get rs i ≡ Some q → NamesMode q m → m < modes

-- the lines say these rules, of modes with these names
abbrev pub SayRules : List (List ℕ) → List (List ℕ) → List ModeRule → Type 0
SayRules ls modes rs =
    (fs : List FileRule) × ((ps : List NamedPart) × (AreRules ls modes fs × (AreFileParts ls ps × AreFileRules ps fs rs)))

-- the texts of these rules begin at these places in the lines
abbrev pub StandAt : List (List ℕ) → List ModeRule → List Position → Type 0
StandAt ls rs places =
    (fs : List FileRule) × ((ps : List NamedPart) × (AreFileRules ps fs rs × (ArePlaces ls fs × (places ≡ map (λ f. f.place) fs))))

-- what the lexer of these rules knows
pub record IsSetOf (rs : List ModeRule) (modes : List (List ℕ)) (r : ModeRules) : Type 0 where
  pub rules : AreModeRules rs (length modes) r
  pub no_clash : NoModeClash r

-- the bytes are rules of modes with these names, and this is what their lexer knows
abbrev pub AreRulesOf : List ℕ → ModeRules → List (List ℕ) → Type 0
AreRulesOf bytes r modes = (rs : List ModeRule) × (SayRules (lines (without_mark bytes)) modes rs × IsSetOf rs modes r)

-- 3 if a text has no tree, 2 if a rule can't be compiled or two clash
abbrev pub rules_status : RulesError → ℕ
rules_status (NotParsed i position kind) = 3
rules_status (BadEnd i e) = 3
rules_status error = 2

-- the lines are rules with this answer
abbrev pub LinesAnswer : (List ℕ → List (List ℕ) → List (List ℕ) → List ModeRule → Answer → Type 0) → List ℕ → List (List ℕ) → Answer → Type 0
LinesAnswer IsFor file ls answer = (modes : List (List ℕ)) × ((rs : List ModeRule) × (SayRules ls modes rs × IsFor file ls modes rs answer))

-- the warnings about the file with these lines are told in this form, which is the one answer, and then this is answered
abbrev pub WarnedAnswer : LineForm → (List ℕ → Answer) → Verbosity → (Answer → Type 0) → List ℕ → List (List ℕ) → Answer → Type 0
WarnedAnswer form told verbosity Is file ls answer =
    (said : List ℕ) × (Warned form verbosity file ls said × ((own : Answer) × (Is own × (answer ≡ followed (told said) own))))

-- the bytes have a bad line; or their lines are rules with this answer, after the answer for the warnings about them
abbrev pub RulesTold : LineForm → (List ℕ → Answer) → Verbosity → (List ℕ → List (List ℕ) → List (List ℕ) → List ModeRule → Answer → Type 0) → List ℕ → List ℕ → Answer → Type 0
RulesTold form told verbosity IsFor file bytes answer =
    ((error : RuleFileError) × (IsRuleFileError (without_mark bytes) error
    × ((said : List ℕ) × (SaysBadLine (lines (without_mark bytes)) error said × (answer ≡ refusal 3 (headed file said))))))
    ⊎ WarnedAnswer form told verbosity (LinesAnswer IsFor file (lines (without_mark bytes))) file (lines (without_mark bytes)) answer

-- where a warning is a remark: nothing is wrong
abbrev pub RulesOf : Verbosity → (List ℕ → List (List ℕ) → List (List ℕ) → List ModeRule → Answer → Type 0) → List ℕ → List ℕ → Answer → Type 0
RulesOf verbosity IsFor file bytes answer = RulesTold Plain remark verbosity IsFor file bytes answer

-- an error of the rules of these lines is said
abbrev pub ErrorAnswer : List ℕ → List (List ℕ) → List (List ℕ) → List ModeRule → RulesError → Answer → Type 0
ErrorAnswer file ls modes rs error answer =
    (places : List Position) × (StandAt ls rs places
    × ((said : List ℕ) × (SaysRules ls modes (rules_of rs) places error said × (answer ≡ refusal (rules_status error) (headed file said)))))

-- a rule has no tree or can't be compiled, which is said; no clash is meant
abbrev pub FaultAnswer : List ℕ → List (List ℕ) → List (List ℕ) → List ModeRule → Answer → Type 0
FaultAnswer file ls modes rs answer = (error : RulesError) × (IsModesFault rs (length modes) error × ErrorAnswer file ls modes rs error answer)

-- these rules make no lexer
abbrev pub RulesRefused : List ℕ → List (List ℕ) → List (List ℕ) → List ModeRule → Answer → Type 0
RulesRefused file ls modes rs answer = (error : RulesError) × (IsRulesError rs (length modes) error × ErrorAnswer file ls modes rs error answer)

-- they don't, or their lexer has this answer
abbrev pub LexerOf : (ModeRules → List (List ℕ) → Answer → Type 0) → List ℕ → List (List ℕ) → List (List ℕ) → List ModeRule → Answer → Type 0
LexerOf IsFor file ls modes rs answer = RulesRefused file ls modes rs answer ⊎ ((r : ModeRules) × (IsSetOf rs modes r × IsFor r modes answer))

-- 2 if there are clashes
abbrev pub clashes_status : List (List Entry) → ℕ
clashes_status [] = 0
clashes_status ([] ∷ css) = clashes_status css
clashes_status ((c ∷ cs) ∷ css) = 2

-- the clashes of the rules of these lines, mode by mode, with a line for each; or a rule has no tree or can't be compiled
abbrev pub ClashesAnswer : List ℕ → List (List ℕ) → List (List ℕ) → List ModeRule → Answer → Type 0
ClashesAnswer file ls modes rs answer =
    FaultAnswer file ls modes rs answer
    ⊎ ((r : ModeRules) × ((css : List (List Entry)) × (AreModeRules rs (length modes) r × (AreModeClashes r css
    × (answer ≡ record { status = clashes_status css; out = clash_lines modes (names_of (rules_of rs)) 0 css; err = [] })))))

-- a file gives no bytes, and this is said; or it gives bytes with this answer
abbrev pub BytesAnswer : (List ℕ → Given → Type 0) → (List ℕ → List ℕ → Answer → Type 0) → List ℕ → Answer → Type 0
BytesAnswer Gives IsFor file answer =
    ((reason : List ℕ) × (Gives file (Err reason) × (answer ≡ refusal 6 (about file reason))))
    ⊎ ((bytes : List ℕ) × (Gives file (Ok bytes) × IsFor file bytes answer))

-- the answer by the lexer of a file of rules, after the warnings about it
abbrev pub ByLexer : (List ℕ → Given → Type 0) → Verbosity → (ModeRules → List (List ℕ) → Answer → Type 0) → List ℕ → Answer → Type 0
ByLexer Gives verbosity IsFor rules answer = BytesAnswer Gives (RulesOf verbosity (LexerOf IsFor)) rules answer
