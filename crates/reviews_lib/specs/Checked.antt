-- cases: proofs/Cases/Checked.antt
-- What is answered by a check of rules.
use Rattle.std.specs.Prelude.{◌≡◌, ℕ, ◌⊎◌, List, [], ◌∷◌, length, if◌then◌else◌}
use Rattle.lalrpop_hir.specs.Clashes.{Entry}
use Rattle.bajofeki_rules.specs.declared.position.Position.{Position}
use Rattle.lalrpop_rules.specs.ModeClashes.{AreModeClashes}
use Rattle.lalrpop_rules.specs.ModeSet.{AreModeRules, rules_of}
use Rattle.lalrpop_rules.specs.Modes.{ModeRules, IsModeClash}
use Rattle.bajofeki_rules.specs.declared.mode_rule.ModeRule.{ModeRule}
use Rattle.lalrpop_review.specs.Review.{IsReview}
use Rattle.lalrpop_review.specs.declared.whole.Review.{Review}
use Rattle.lalrpop_rules.specs.RuleSet.{names_of}
use Rattle.reports_lib.specs.Answer.{Answer, refusal}
use Rattle.reviews_lib.specs.ReviewLines.{review_text, clash_report, has_findings}
use Rattle.lexdfa_lib.specs.declared.layout.LineForm.{LineForm}
use Rattle.lexdfa_lib.specs.declared.layout.LineForm.TheVariants.{Plain, Json}
use Rattle.reports_lib.specs.NamedRules.{StandAt, IsSetOf, FaultAnswer}

-- 1 if anything is said
abbrev pub said_status : List ℕ → ℕ
said_status [] = 0
said_status (b ∷ said) = 1

-- what is told of the file in a check is something that was found: lines are said, and objects are written
abbrev pub finding : LineForm → List ℕ → Answer
finding Plain said = refusal (said_status said) said
finding Json said = record { status = said_status said; out = said; err = [] }

-- in some mode two rules clash
abbrev pub HaveClash : List ModeRule → ℕ → Type 0
HaveClash rs modes =
    (r : ModeRules) × (AreModeRules rs modes r × ((m : ℕ) × ((word : List ℕ) × ((i : ℕ) × ((j : ℕ) × IsModeClash r m word i j)))))

-- the answer for clashes of rules with these names, whose texts begin at these places
abbrev pub clashes_answer : LineForm → List ℕ → List (List ℕ) → List (List ℕ) → List Position → List (List Entry) → Answer
clashes_answer form file modes names places css =
    record { status = 2; out = clash_report form file modes names places 0 css; err = [] }

-- the answer for a review: 1 if something was found
abbrev pub review_answer : LineForm → List ℕ → List (List ℕ) → List (List ℕ) → List Position → Review → Answer
review_answer form file modes names places review =
    record { status = if has_findings review then 1 else 0; out = review_text form file modes names places review; err = [] }

-- all clashes are told, mode by mode
abbrev pub AreToldClashes : LineForm → List ℕ → List (List ℕ) → List ModeRule → List Position → Answer → Type 0
AreToldClashes form file modes rs places answer =
    (r : ModeRules) × ((css : List (List Entry)) × (AreModeRules rs (length modes) r × (AreModeClashes r css
    × (answer ≡ clashes_answer form file modes (names_of (rules_of rs)) places css))))

-- some rules clash, and all clashes are told
abbrev pub ClashesTold : LineForm → List ℕ → List (List ℕ) → List ModeRule → List Position → Answer → Type 0
ClashesTold form file modes rs places answer = HaveClash rs (length modes) × AreToldClashes form file modes rs places answer

-- no rules clash, and they are reviewed
abbrev pub ReviewTold : LineForm → List ℕ → List (List ℕ) → List ModeRule → List Position → Answer → Type 0
ReviewTold form file modes rs places answer =
    (r : ModeRules) × ((review : Review) × (IsSetOf rs modes r × (IsReview r review
    × (answer ≡ review_answer form file modes (names_of (rules_of rs)) places review))))

abbrev pub IsTold : LineForm → List ℕ → List (List ℕ) → List ModeRule → List Position → Answer → Type 0
IsTold form file modes rs places answer = ClashesTold form file modes rs places answer ⊎ ReviewTold form file modes rs places answer

-- a rule has no tree or can't be compiled; otherwise the clashes are told, or the review
abbrev pub CheckAnswer : LineForm → List ℕ → List (List ℕ) → List (List ℕ) → List ModeRule → Answer → Type 0
CheckAnswer form file ls modes rs answer =
    FaultAnswer file ls modes rs answer
    ⊎ ((places : List Position) × (StandAt ls rs places × IsTold form file modes rs places answer))
