-- cases: proofs/Cases/Program.antt
-- The answer of the whole program, for its arguments, what the files give and what standard input gives.
use Rattle.std.specs.Prelude.{◌≡◌, ℕ, ◌⊎◌, nat_lt, Bool, true, false, List, [], length, map, slice_get, Result, Ok, Err, codes}
use Rattle.lexdfa_lib.specs.Ending.{ending_status}
use Rattle.lexdfa_lib.specs.declared.ending.Failure.{Failure}
use Rattle.lexdfa_lib.specs.declared.ending.Failure.TheVariants.{Usage, Run as Failing}
use Rattle.lexdfa_lib.specs.declared.error.RunError.TheVariants as run_errors
use Rattle.lexdfa_lib.specs.Streams.{Given, GivesWhole, Reading, Stream}
use Rattle.reports_lib.specs.Answer.{Answer, silence, refusal, remark, followed}
use Rattle.reviews_lib.specs.Compared.{ComparedAnswer, other_of}
use Rattle.pieces_lib.specs.Console.{Begins}
use Rattle.reports_lib.specs.NamedRules.{BytesAnswer, ByLexer, RulesTold, RulesOf, ClashesAnswer}
use Rattle.pieces_lib.specs.FileAnswers.{TextsAnswer, FirstTextsAnswer}
use Rattle.lexdfa_lib.specs.Options.{joined, options, names}
use Rattle.reviews_lib.specs.Checked.{CheckAnswer, finding}
use Rattle.lexdfa_lib.specs.Command.{IsCommand, IsArgumentsError}
use Rattle.tokens_lib.specs.Emitted.{SourceAnswer}
use Rattle.reviews_lib.specs.Pictured.{PictureAnswer}
use Rattle.pieces_lib.specs.Progress.{reading_text}
use Rattle.pieces_lib.specs.TextAnswer.{PiecesAnswer, PiecesPart, PageAnswer, PagePart}
use Rattle.lexdfa_lib.specs.Usage.{help, version, wrong_text}
use Rattle.lexdfa_lib.specs.declared.command.Action.{Action}
use Rattle.lexdfa_lib.specs.declared.command.Action.TheVariants.{Cut, Show, Clashes, Emit, Picture, Check, Difference}
use Rattle.lexdfa_lib.specs.declared.command.ArgumentsError.{ArgumentsError}
use Rattle.lexdfa_lib.specs.declared.command.Command.{Command}
use Rattle.lexdfa_lib.specs.declared.command.Command.TheVariants.{Help, Version, Run}
use Rattle.lexdfa_lib.specs.declared.command.Verbosity.{Verbosity}

-- only something that was asked for is written
abbrev pub information : List ℕ → Answer
information out = record { status = 0; out = out; err = [] }

-- the answer for an action by a file of rules that cuts no text
abbrev pub ReplyAnswer : (List ℕ → Given → Type 0) → Verbosity → Action → List ℕ → List (List ℕ) → Answer → Type 0
ReplyAnswer Gives verbosity Clashes rules files answer = BytesAnswer Gives (RulesOf verbosity ClashesAnswer) rules answer
ReplyAnswer Gives verbosity (Check form) rules files answer = BytesAnswer Gives (RulesTold form (finding form) verbosity (CheckAnswer form)) rules answer
ReplyAnswer Gives verbosity (Emit language) rules files answer = ByLexer Gives verbosity (λ r modes. SourceAnswer language rules r) rules answer
ReplyAnswer Gives verbosity Picture rules files answer = ByLexer Gives verbosity (PictureAnswer rules (slice_get files 0)) rules answer
ReplyAnswer Gives verbosity Difference rules files answer = ByLexer Gives verbosity (λ r modes. ComparedAnswer Gives verbosity rules r modes (other_of files)) rules answer
ReplyAnswer Gives verbosity (Cut form recovers) rules files answer = ⊥
ReplyAnswer Gives verbosity (Show markup) rules files answer = ⊥

-- what is answered to texts: by how much is said, by the answer for a text and for a part of one, and by the names of the FILEs
abbrev pub Texts : Type 1
Texts = Verbosity → (List ℕ → Reading → Answer → Type 0) → (List ℕ → Reading → Answer → Type 0) → List (List ℕ) → Answer → Type 0

-- the answer for any action by a file of rules
abbrev pub ActionAnswer : (List ℕ → Given → Type 0) → Texts → Action → Verbosity → List ℕ → List (List ℕ) → Answer → Type 0
ActionAnswer Gives OfTexts (Cut form recovers) verbosity rules files answer =
    ByLexer Gives verbosity (λ r modes. OfTexts verbosity (PiecesAnswer r modes form recovers (nat_lt 1 (length files))) (PiecesPart r modes form recovers (nat_lt 1 (length files))) files) rules answer
ActionAnswer Gives OfTexts (Show markup) verbosity rules files answer =
    ByLexer Gives verbosity (λ r modes. OfTexts verbosity (PageAnswer r modes markup) (PagePart r modes markup) files) rules answer
ActionAnswer Gives OfTexts action verbosity rules files answer = ReplyAnswer Gives verbosity action rules files answer

-- the answer for a command, by what is answered to its action: with progress, it says first that the rules are read
abbrev pub CommandAnswer : (Action → Verbosity → List ℕ → List (List ℕ) → Answer → Type 0) → Command → Answer → Type 0
CommandAnswer Own Help answer = answer ≡ information help
CommandAnswer Own Version answer = answer ≡ information version
CommandAnswer Own (Run action verbosity rules files) answer =
    (own : Answer) × (Own action verbosity rules.now (map (λ file. file.now) files.items) own × (answer ≡ followed (remark (reading_text verbosity rules.now)) own))

-- the answer for these arguments: what is wrong with them is said; or they are a command
abbrev pub WordsAnswer : (Action → Verbosity → List ℕ → List (List ℕ) → Answer → Type 0) → List (List ℕ) → Answer → Type 0
WordsAnswer Own words answer =
    ((error : ArgumentsError) × (IsArgumentsError (options (joined words)) (names (joined words)) error × (answer ≡ refusal 4 (wrong_text error))))
    ⊎ ((command : Command) × (IsCommand (options (joined words)) (names (joined words)) command × CommandAnswer Own command answer))

-- the answer for these arguments, where standard input comes from one state to another
abbrev pub IsAnswer : (List ℕ → Reading → Type 0) → Stream → Stream → List (List ℕ) → Answer → Type 0
IsAnswer Gives i k words answer =
    WordsAnswer (λ action verbosity rules files. ActionAnswer (GivesWhole Gives) (TextsAnswer Gives i k) action verbosity rules files) words answer

-- the answer up to where a run fails: perhaps none for the action, or for the first texts only
abbrev pub IsFirstAnswer : (List ℕ → Reading → Type 0) → Stream → List (List ℕ) → Answer → Type 0
IsFirstAnswer Gives i words answer =
    WordsAnswer (λ action verbosity rules files. Begins (ActionAnswer (GivesWhole Gives) (FirstTextsAnswer Gives i) action verbosity rules files)) words answer

-- what is said of a run that fails, or of arguments that aren't UTF-8
abbrev pub failure_text : Failure → List ℕ
failure_text Usage = codes "tokens: an argument isn't UTF-8\n"
failure_text (Failing run_errors.OutOfMemory) = codes "tokens: out of memory\n"
failure_text (Failing run_errors.Read) = codes "tokens: read failed\n"
failure_text (Failing run_errors.Write) = codes "tokens: write failed\n"

-- the exit status at the end, and what is said there: nothing if the reader of standard output has gone away; why the run failed, or that a write
-- did, which a failed flush is; or nothing after a run that gave an answer with this status
abbrev pub ending : {T E : Type 0} → Bool → Result T E → Result ℕ Failure → Answer
ending true flush found = silence
ending false flush (Err failure) = refusal (ending_status (Err failure)) (failure_text failure)
ending false (Ok done) (Ok status) = refusal status []
ending false (Err error) (Ok status) = refusal 6 (failure_text (Failing run_errors.Write))
