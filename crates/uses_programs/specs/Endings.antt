-- How `tokens [--recover] [--json] rules [text -]` ends: each way, and exactly what is then written and said, and the status.
use Rattle.std.specs.Prelude.{◌≡◌, ◌≢◌, ℕ, ◌⊎◌, Bool, true, false, List, [], ◌∷◌, ◌++◌, length, drop, None, is_some, codes}
use Rattle.std.specs.Borrow.{Bor}
use Rattle.bajofeki_rules.specs.Lines.{lines}
use Rattle.bajofeki_rules.specs.Position.{byte_place_of}
use Rattle.bajofeki_rules.specs.Stack.{Stack, start}
use Rattle.bajofeki_rules.specs.declared.mode_rule.ModeRule.{ModeRule}
use Rattle.bajofeki_rules.specs.declared.position.Position.{Position}
use Rattle.lalrpop_re.specs.declared.error.SyntaxKind.{SyntaxKind}
use Rattle.lalrpop_rule_file.specs.RuleFault.{reason_of}
use Rattle.lalrpop_rule_file.specs.RuleFile.{IsRuleFileError, without_mark}
use Rattle.lalrpop_rule_file.specs.declared.error.RuleFileError.{RuleFileError}
use Rattle.lalrpop_rule_file.specs.declared.error.RuleFileError.TheVariants.{BadLine, BadPart, RepeatedPart, NoSuchMode, OutOfMemory}
use Rattle.lalrpop_rules.specs.ModeSet.{IsRulesError, rules_of}
use Rattle.lalrpop_rules.specs.Modes.{ModeRules, ArePiecesFrom}
use Rattle.lalrpop_rules.specs.declared.error.RulesError.{RulesError}
use Rattle.lalrpop_rules.specs.declared.error.RulesError.TheVariants as errors
use Rattle.lalrpop_rules.specs.declared.piece.Piece.{Piece}
use Rattle.lalrpop_rules.specs.declared.piece.Piece.TheVariants.{Fault}
use Rattle.reports_lib.specs.Answer.{Answer, followed, headed, refusal}
use Rattle.reports_lib.specs.Reasons.{SaysRules, placed, syntax_text}
use Rattle.lexdfa_lib.specs.declared.layout.LineForm.{LineForm}
use Rattle.lexdfa_lib.specs.declared.layout.LineForm.TheVariants.{Plain}
use Rattle.pieces_lib.specs.CutEnds.{IsFound, first_fault}
use Rattle.reports_lib.specs.NamedRules.{IsSetOf, SayRules, StandAt, rules_status}
use Rattle.pieces_lib.specs.OpenModes.{open_behind, open_mode}
use Rattle.pieces_lib.specs.TextAnswer.{cut_status, cut_text, fault_text, found_told, lines_of}
use Rattle.reports_lib.specs.WarningsSaid.{Warned}
use Rattle.lexdfa_lib.specs.declared.command.Verbosity.TheVariants.{Warnings}
use Rattle.pieces_lib.specs.declared.cut_end.CutEnd.TheVariants.{Whole}
use Rattle.pieces_lib.specs.declared.cut_end.CutEnd.{CutEnd}
use Rattle.pieces_lib.specs.declared.cut_end.Found.{Found}
use Rattle.uses_programs.specs.declared.run_tokens.Given.{Given}

-- the lines of a file of rules, after a byte order mark
abbrev pub lines_in : List ℕ → List (List ℕ)
lines_in rules = lines (without_mark rules)

-- ---- the file of rules

-- nothing is written, a place in the file is said, and what is wrong there; the status is 3
abbrev pub placed_answer : List ℕ → ℕ → ℕ → List ℕ → Answer
placed_answer rules line column reason = refusal 3 (headed (codes "rules") (placed (lines_in rules) line column reason))

-- the answer to a file with this bad line. Of a part whose pattern is none, the place is one in the pattern
abbrev pub IsBadLineAnswer : List ℕ → RuleFileError → Answer → Type 0
IsBadLineAnswer rules (BadLine n column fault) answer = answer ≡ placed_answer rules n column (reason_of fault)
IsBadLineAnswer rules (RepeatedPart n column) answer = answer ≡ placed_answer rules n column (codes "a part above has this name")
IsBadLineAnswer rules (NoSuchMode n column) answer = answer ≡ placed_answer rules n column (codes "no section names this mode")
IsBadLineAnswer rules (BadPart n column kind) answer =
    (place : ℕ) × ((why : SyntaxKind) × (IsRuleFileError (without_mark rules) (BadPart n place why)
    × (answer ≡ placed_answer rules n place (syntax_text why))))
IsBadLineAnswer rules OutOfMemory answer = Unit {0}

-- the file has a bad line, and this is the answer
abbrev pub HasBadLine : List ℕ → Answer → Type 0
HasBadLine rules answer =
    (error : RuleFileError) × ((error ≢ OutOfMemory) × (IsRuleFileError (without_mark rules) error × IsBadLineAnswer rules error answer))

-- the file says these rules, of modes with these names, and of it these warnings are said
pub record Says (rules : List ℕ) (modes : List (List ℕ)) (rs : List ModeRule) (warnings : List ℕ) : Type 0 where
  pub rules_are : SayRules (lines_in rules) modes rs
  pub warned : Warned Plain Warnings (codes "rules") (lines_in rules) warnings

-- its rules make no lexer, and it is said why: a rule's text has no tree, and the status is 3; or a rule can't be compiled, or two
-- clash, and it is 2. Nothing is written
pub record IsRefused (rules : List ℕ) (answer : Answer) : Type 0 where
  pub modes : List (List ℕ)
  pub rs : List ModeRule
  pub warnings : List ℕ
  pub says : Says rules modes rs warnings
  pub error : RulesError
  pub is_error : IsRulesError rs (length modes) error
  pub places : List Position
  pub stand : StandAt (lines_in rules) rs places
  pub reason : List ℕ
  pub reason_is : SaysRules (lines_in rules) modes (rules_of rs) places error reason
  pub answer_is : answer ≡ record { status = rules_status error; out = []; err = warnings ++ headed (codes "rules") reason }

-- ---- a text, by what the lexer of the file knows

-- how a text is cut: the form of its lines, whether past faults, whether it is one of several, and its name
pub record Way : Type 0 where
  pub form : LineForm
  pub recovers : Bool
  pub several : Bool
  pub file : List ℕ

-- these are all pieces of the text
abbrev pub AreAllPieces : ModeRules → List ℕ → List Piece → Stack → Type 0
AreAllPieces r text xs end = ArePiecesFrom r (without_mark text) 0 start xs end

-- how a text ends that is cut whole: whether it has a fault, and where the mode at its end was entered, if it has one below it
abbrev pub whole_end : ModeRules → List ℕ → List Piece → Stack → CutEnd
whole_end r text xs end = Whole (is_some (first_fault xs)) (open_mode (without_mark text) end.mode (open_behind r.actions xs []))

-- the lines of pieces, and what is said of the end
abbrev pub cut_answer : ModeRules → List (List ℕ) → Way → List ℕ → List Piece → CutEnd → Answer
cut_answer r modes way text xs ended = record {
  status = cut_status ended;
  out = lines_of r modes way.form way.recovers way.several way.file text xs;
  err = cut_text modes way.file ended;
}

-- what the text is tells the answer
pub record TextEnds (r : ModeRules) (modes : List (List ℕ)) (way : Way) (text : List ℕ) (answer : Answer) : Type 0 where
  -- no fault, and no mode below the one at the end: all lines are written, and nothing is said
  pub clean : (xs : List Piece) (end : Stack) → AreAllPieces r text xs end → first_fault xs ≡ None → open_behind r.actions xs [] ≡ []
      → answer ≡ record { status = 0; out = lines_of r modes way.form way.recovers way.several way.file (without_mark text) xs; err = [] }
  -- no fault, or --recover: all lines are written, and an open mode is said; a fault or an open mode makes the status 1
  pub whole : (xs : List Piece) (end : Stack) → AreAllPieces r text xs end → (way.recovers ≡ false → first_fault xs ≡ None)
      → answer ≡ cut_answer r modes way (without_mark text) xs (whole_end r text xs end)
  -- without --recover cutting stops at the first fault: the lines before it are written, and its place is said, with what is found there
  pub faulty : (xs ys : List Piece) (at : ℕ) (slice : Bor (List ℕ)) (found : Found) (end : Stack) → AreAllPieces r text (xs ++ Fault at slice ∷ ys) end
      → first_fault xs ≡ None → IsFound (drop at (without_mark text)) found → way.recovers ≡ false → answer ≡ record {
        status = 1;
        out = lines_of r modes way.form way.recovers way.several way.file (without_mark text) xs;
        err = fault_text way.file (byte_place_of (without_mark text) at) (found_told found);
      }

-- standard input alone
abbrev pub Alone : LineForm → Bool → List ℕ → ModeRules → List (List ℕ) → Answer → Type 0
Alone form recovers text r modes answer =
    TextEnds r modes (record { form = form; recovers = recovers; several = false; file = codes "<stdin>" }) text answer

-- the file `text`, and then `-`, which is standard input: what is written and said for it follows, and the greater status counts
abbrev pub Both : LineForm → Bool → List ℕ → List ℕ → ModeRules → List (List ℕ) → Answer → Type 0
Both form recovers text input r modes answer =
    (first : Answer) × ((second : Answer)
    × (TextEnds r modes (record { form = form; recovers = recovers; several = true; file = codes "text" }) text first
    × (TextEnds r modes (record { form = form; recovers = recovers; several = true; file = codes "<stdin>" }) input second
    × (answer ≡ followed first second))))

-- ---- all

-- the rules make a lexer, by which this is the answer for the texts; the warnings about the file are said before it
pub record ByLexer (Ends : ModeRules → List (List ℕ) → Answer → Type 0) (rules : List ℕ) (answer : Answer) : Type 0 where
  pub modes : List (List ℕ)
  pub rs : List ModeRule
  pub warnings : List ℕ
  pub says : Says rules modes rs warnings
  pub r : ModeRules
  pub knows : IsSetOf rs modes r
  pub own : Answer
  pub ends : Ends r modes own
  pub answer_is : answer ≡ record own { err = warnings ++ own.err }

-- the file has no bad line
abbrev pub HasNoBadLine : List ℕ → Type 0
HasNoBadLine rules = (error : RuleFileError) → IsRuleFileError (without_mark rules) error → error ≡ OutOfMemory

-- nor is anything wrong with its rules, whatever trees they have. A tree of a rule `from` is fixed only for words of characters: two such
-- rules of one precedence may have trees that clash on others
abbrev pub AreSound : List ℕ → Type 0
AreSound rules =
    HasNoBadLine rules
    × ((modes : List (List ℕ)) (rs : List ModeRule) (error : RulesError) → SayRules (lines_in rules) modes rs
    → IsRulesError rs (length modes) error → error ≡ errors.OutOfMemory)

-- but no lexer can be made of them
abbrev pub MakeNoLexer : List ℕ → Type 0
MakeNoLexer rules =
    HasNoBadLine rules
    × ((modes : List (List ℕ)) (rs : List ModeRule) (r : ModeRules) → SayRules (lines_in rules) modes rs → ¬ IsSetOf rs modes r)

-- how a run ends, by what its lexer answers for the texts: in one of three ways, and which one the file of rules tells
pub record RunEnds (Ends : ModeRules → List (List ℕ) → Answer → Type 0) (rules : List ℕ) (answer : Answer) : Type 0 where
  pub ending : HasBadLine rules answer ⊎ (IsRefused rules answer ⊎ ByLexer Ends rules answer)
  pub bad_line : (error : RuleFileError) → IsRuleFileError (without_mark rules) error → IsBadLineAnswer rules error answer
  pub no_lexer : MakeNoLexer rules → IsRefused rules answer
  pub sound : AreSound rules → ByLexer Ends rules answer
  -- and so does the status
  pub lexer : answer.status ≢ 2 → answer.status ≢ 3 → ByLexer Ends rules answer

-- what a run gave
abbrev pub answer_of : Given → Answer
answer_of given = record { status = given.status; out = given.out.items; err = given.err.items }
