-- No status is above 6.
use Rattle.std.proofs.Common.{◌≡◌, ℕ, ◌+◌, ◌≤◌, inl, inr, List, [], ◌∷◌, ap, arith}
use Rattle.std.specs.Prelude.{nat_lt, length, map, slice_get, Bool, true, false, if◌then◌else◌, Option, Some, None}
use Rattle.lalrpop_hir.specs.Clashes.{Entry}
use Rattle.bajofeki_rules.specs.Lines.{lines}
use Rattle.lalrpop_rule_file.specs.RuleFile.{without_mark}
use Rattle.lalrpop_rules.specs.Modes.{ModeRules}
use Rattle.lalrpop_rules.specs.declared.error.RulesError.{RulesError}
use Rattle.lalrpop_rules.specs.declared.error.RulesError.TheVariants as errors
use Rattle.bajofeki_rules.specs.declared.mode_rule.ModeRule.{ModeRule}
use Rattle.lexdfa_lib.specs.Streams.{Given, Reading, Stream, GivesWhole}
use Rattle.reports_lib.specs.Answer.{Answer, remark}
use Rattle.reviews_lib.specs.Compared.{DifferenceAnswer, text_status, ComparedAnswer, other_of}
use Rattle.reviews_lib.specs.ReviewLines.{has_findings}
use Rattle.lexdfa_lib.specs.declared.layout.LineForm.{LineForm}
use Rattle.lexdfa_lib.specs.declared.layout.LineForm.TheVariants.{Plain, Json}
use Rattle.reports_lib.specs.NamedRules.{BytesAnswer, rules_status, RulesTold, RulesOf, LexerOf, clashes_status, ClashesAnswer}
use Rattle.pieces_lib.specs.FileAnswers.{shown_name, ReadingAnswer, NumberedAnswer, FilesAnswer, cut_files, TextsAnswer}
use Rattle.reviews_lib.specs.Checked.{CheckAnswer, finding}
use Rattle.tokens_lib.specs.Emitted.{SourceAnswer}
use Rattle.reviews_lib.specs.Pictured.{PictureAnswer}
use Rattle.tokens_lib.specs.Program.{ActionAnswer, CommandAnswer}
use Rattle.pieces_lib.specs.Progress.{total_said}
use Rattle.pieces_lib.specs.TextAnswer.{cut_status, CutAnswer, lines_of, page_of, PiecesAnswer, PiecesPart, PageAnswer, PagePart}
use Rattle.lexdfa_lib.specs.declared.command.Command.{Command}
use Rattle.lexdfa_lib.specs.declared.command.Language.{Language}
use Rattle.lexdfa_lib.specs.declared.command.Markup.{Markup}
use Rattle.pieces_lib.specs.declared.cut_end.CutEnd.{CutEnd}
use Rattle.pieces_lib.specs.declared.cut_end.CutEnd.TheVariants.{Whole, Stopped, Unread}
use Rattle.lalrpop_rules.specs.declared.piece.Piece.{Piece}
use Rattle.lexdfa_lib.specs.declared.command.Action.{Action}
use Rattle.lexdfa_lib.specs.declared.command.Action.TheVariants.{Cut, Show, Clashes, Emit, Picture, Check, Difference}
use Rattle.lexdfa_lib.specs.declared.command.Command.TheVariants.{Help, Version, Run}
use Rattle.lexdfa_lib.specs.declared.command.Verbosity.{Verbosity}

abbrev IsLow : Answer → Type 0
IsLow answer = answer.status ≤ 6

low : (a b : Answer) → a ≡ b → b.status ≤ 6 → IsLow a
low a b e l = let s : a.status ≡ b.status = ap (λ (x : Answer). x.status) e in omega arith

cut_status_low : (ended : CutEnd) → cut_status ended ≤ 6
cut_status_low (Whole false None) = omega arith
cut_status_low (Whole false (Some o)) = omega arith
cut_status_low (Whole true None) = omega arith
cut_status_low (Whole true (Some o)) = omega arith
cut_status_low (Stopped place found) = omega arith
cut_status_low Unread = omega arith

rules_low : (error : RulesError) → rules_status error ≤ 6
rules_low (errors.NoSuchMode i m) = omega arith
rules_low (errors.NotParsed i position kind) = omega arith
rules_low (errors.BadEnd i e) = omega arith
rules_low (errors.NotCompiled i e) = omega arith
rules_low (errors.Clash m i j w) = omega arith
rules_low errors.OutOfMemory = omega arith

reads_low : (Gives : List ℕ → Given → Type 0) (IsFor : List ℕ → List ℕ → Answer → Type 0) (file : List ℕ) (answer : Answer)
    → ((bytes : List ℕ) (a : Answer) → IsFor file bytes a → IsLow a) → BytesAnswer Gives IsFor file answer → IsLow answer
reads_low Gives IsFor file answer each (inl (reason, (gives, e))) = low answer _ e (omega arith)
reads_low Gives IsFor file answer each (inr (bytes, (gives, is))) = each bytes answer is

reading_low : (IsFor : List ℕ → Reading → Answer → Type 0) (file : List ℕ) (reading : Reading) (answer : Answer)
    → ((name : List ℕ) (read : Reading) (a : Answer) → IsFor name read a → IsLow a) → ReadingAnswer IsFor file reading answer → IsLow answer
reading_low IsFor file reading answer each (inl (reason, (unopened, e))) = low answer _ e (omega arith)
reading_low IsFor file reading answer each (inr is) = each file reading answer is

numbered_low : (Gives : List ℕ → Reading → Type 0) (IsFor : List ℕ → Reading → Answer → Type 0) (total : Option ℕ) (number : ℕ) (i j : Stream)
    (file : List ℕ) (answer : Answer) → ((name : List ℕ) (read : Reading) (a : Answer) → IsFor name read a → IsLow a)
    → NumberedAnswer Gives (ReadingAnswer IsFor) total number i j file answer → IsLow answer
numbered_low Gives IsFor total number i j file answer each (own, ((reading, (gives, is)), e)) =
    let a : IsLow own = reading_low IsFor (shown_name file) reading own each is in
    low answer _ e (omega arith)

files_low : (Own : ℕ → Stream → Stream → List ℕ → Answer → Type 0) (number : ℕ) (i k : Stream) (files : List (List ℕ)) (answer : Answer)
    → ((n : ℕ) (x y : Stream) (file : List ℕ) (a : Answer) → Own n x y file a → IsLow a) → FilesAnswer Own number i k files answer → IsLow answer
files_low Own number i k [] answer each (same, e) = low answer _ e (omega arith)
files_low Own number i k (file ∷ files) answer each (j, (own, (rest, (reads, (others, e))))) =
    let a : IsLow own = each number i j file own reads in
    let b : IsLow rest = files_low Own (number + 1) j k files rest each others in
    low answer _ e (omega arith)

texts_low : (Gives : List ℕ → Reading → Type 0) (i k : Stream) (verbosity : Verbosity) (IsFor PartFor : List ℕ → Reading → Answer → Type 0)
    (files : List (List ℕ)) (answer : Answer)
    → ((name : List ℕ) (read : Reading) (a : Answer) → IsFor name read a → IsLow a) → TextsAnswer Gives i k verbosity IsFor PartFor files answer → IsLow answer
texts_low Gives i k verbosity IsFor PartFor files answer each is =
    files_low (NumberedAnswer Gives (ReadingAnswer IsFor) (total_said verbosity (length files))) 1 i k (cut_files files) answer
    (λ n x y file a own. numbered_low Gives IsFor (total_said verbosity (length files)) n x y file a each own) is

-- what is said of the file has a low status, and so has what is answered for its rules
rules_told_low : (form : LineForm) (told : List ℕ → Answer) (verbosity : Verbosity) (IsFor : List ℕ → List (List ℕ) → List (List ℕ) → List ModeRule → Answer → Type 0) (file bytes : List ℕ) (answer : Answer)
    → ((ls modes : List (List ℕ)) (rs : List ModeRule) (a : Answer) → IsFor file ls modes rs a → IsLow a) → ((said : List ℕ) → IsLow (told said)) → RulesTold form told verbosity IsFor file bytes answer → IsLow answer
rules_told_low form told verbosity IsFor file bytes answer each first (inl (error, (is, (known, (rest, e))))) = low answer _ e (omega arith)
rules_told_low form told verbosity IsFor file bytes answer each first (inr (said, (warned, (own, ((modes, (rs, (say, is))), e))))) =
    let a : IsLow own = each (lines (without_mark bytes)) modes rs own is in
    let b : IsLow (told said) = first said in
    low answer _ e (omega arith)

rules_of_low : (verbosity : Verbosity) (IsFor : List ℕ → List (List ℕ) → List (List ℕ) → List ModeRule → Answer → Type 0) (file bytes : List ℕ) (answer : Answer)
    → ((ls modes : List (List ℕ)) (rs : List ModeRule) (a : Answer) → IsFor file ls modes rs a → IsLow a) → RulesOf verbosity IsFor file bytes answer → IsLow answer
rules_of_low verbosity IsFor file bytes answer each is = rules_told_low Plain remark verbosity IsFor file bytes answer each (λ said. omega arith) is

lexer_low : (IsFor : ModeRules → List (List ℕ) → Answer → Type 0) (file : List ℕ) (ls modes : List (List ℕ)) (rs : List ModeRule) (answer : Answer)
    → ((set : ModeRules) (names : List (List ℕ)) (a : Answer) → IsFor set names a → IsLow a) → LexerOf IsFor file ls modes rs answer → IsLow answer
lexer_low IsFor file ls modes rs answer each (inl (error, (is, (places, (are, (said, (says, e))))))) = low answer _ e (rules_low error)
lexer_low IsFor file ls modes rs answer each (inr (set, (is, done))) = each set modes answer done

by_rules_low : (verbosity : Verbosity) (Gives : List ℕ → Given → Type 0) (IsFor : ModeRules → List (List ℕ) → Answer → Type 0) (rules : List ℕ) (answer : Answer)
    → ((set : ModeRules) (names : List (List ℕ)) (a : Answer) → IsFor set names a → IsLow a) → BytesAnswer Gives (RulesOf verbosity (LexerOf IsFor)) rules answer → IsLow answer
by_rules_low verbosity Gives IsFor rules answer each reads =
    reads_low Gives (RulesOf verbosity (LexerOf IsFor)) rules answer
    (λ bytes a is. rules_of_low verbosity (LexerOf IsFor) rules bytes a (λ ls modes rs b said. lexer_low IsFor rules ls modes rs b each said) is) reads

clashes_low : (css : List (List Entry)) → clashes_status css ≤ 6
clashes_low [] = omega arith
clashes_low ([] ∷ css) = clashes_low css
clashes_low ((c ∷ cs) ∷ css) = omega arith

list_low : (file : List ℕ) (ls modes : List (List ℕ)) (rs : List ModeRule) (answer : Answer) → ClashesAnswer file ls modes rs answer → IsLow answer
list_low file ls modes rs answer (inl (error, (is, (places, (are, (said, (says, e))))))) = low answer _ e (rules_low error)
list_low file ls modes rs answer (inr (r, (css, (are, (clashes, e))))) = low answer _ e (clashes_low css)

one_low : (b : Bool) → (if b then 1 else 0) ≤ 6
one_low true = omega arith
one_low false = omega arith

finding_low : (form : LineForm) (said : List ℕ) → IsLow (finding form said)
finding_low Plain [] = omega arith
finding_low Plain (b ∷ said) = omega arith
finding_low Json [] = omega arith
finding_low Json (b ∷ said) = omega arith

check_low : (form : LineForm) (file : List ℕ) (ls modes : List (List ℕ)) (rs : List ModeRule) (answer : Answer) → CheckAnswer form file ls modes rs answer → IsLow answer
check_low form file ls modes rs answer (inl (error, (is, (places, (are, (said, (says, e))))))) = low answer _ e (rules_low error)
check_low form file ls modes rs answer (inr (places, (stand, inl (have, (r, (css, (are, (clashes, e)))))))) = low answer _ e (omega arith)
check_low form file ls modes rs answer (inr (places, (stand, inr (r, (review, (is, (reviews, e))))))) = low answer _ e (one_low (has_findings review))

cut_low : (set : ModeRules) (modes : List (List ℕ)) (recovers : Bool) (out : List ℕ → List Piece → List ℕ) (name : List ℕ) (reading : Reading) (answer : Answer)
    → CutAnswer set modes recovers out name reading answer → IsLow answer
cut_low set modes recovers out name reading answer (xs, (ended, (cut, e))) = low answer _ e (cut_status_low ended)

pieces_low : (set : ModeRules) (modes : List (List ℕ)) (form : LineForm) (recovers several : Bool) (name : List ℕ) (reading : Reading) (answer : Answer)
    → PiecesAnswer set modes form recovers several name reading answer → IsLow answer
pieces_low set modes form recovers several name reading answer is = cut_low set modes recovers (lines_of set modes form recovers several name) name reading answer is

page_low : (set : ModeRules) (modes : List (List ℕ)) (markup : Markup) (name : List ℕ) (reading : Reading) (answer : Answer) → PageAnswer set modes markup name reading answer → IsLow answer
page_low set modes markup name reading answer is = cut_low set modes true (λ text xs. page_of markup set.names xs) name reading answer is

source_low : (language : Language) (file : List ℕ) (set : ModeRules) (answer : Answer) → SourceAnswer language file set answer → IsLow answer
source_low language file set answer (inl (none, (n, (are, e)))) = low answer _ e (omega arith)
source_low language file set answer (inr (error, (is, e))) = low answer _ e (omega arith)

picture_low : (file : List ℕ) (given : Option (List ℕ)) (set : ModeRules) (modes : List (List ℕ)) (answer : Answer) → PictureAnswer file given set modes answer → IsLow answer
picture_low file given set modes answer (inl (text, (drawn, e))) = low answer _ e (omega arith)
picture_low file given set modes answer (inr (name, (missing, e))) = low answer _ e (omega arith)

written_low : (text : List ℕ) → text_status text ≤ 6
written_low [] = omega arith
written_low (c ∷ text) = omega arith

difference_low : (old : List ℕ) (r : ModeRules) (modes : List (List ℕ)) (new : List ℕ) (s : ModeRules) (others : List (List ℕ)) (answer : Answer)
    → DifferenceAnswer old r modes new s others answer → IsLow answer
difference_low old r modes new s others answer (text, (is, e)) = low answer _ e (written_low text)

compared_low : (Gives : List ℕ → Given → Type 0) (verbosity : Verbosity) (rules : List ℕ) (set : ModeRules) (modes : List (List ℕ)) (other : List ℕ) (answer : Answer)
    → ComparedAnswer Gives verbosity rules set modes other answer → IsLow answer
compared_low Gives verbosity rules set modes other answer is =
    by_rules_low verbosity Gives (λ new others. DifferenceAnswer rules set modes other new others) other answer (λ new others a told. difference_low rules set modes other new others a told) is

-- any action
action_low : (Gives : List ℕ → Given → Type 0) (Read_of : List ℕ → Reading → Type 0) (i k : Stream) (action : Action) (verbosity : Verbosity) (rules : List ℕ) (files : List (List ℕ))
    (answer : Answer) → ActionAnswer Gives (TextsAnswer Read_of i k) action verbosity rules files answer → IsLow answer
action_low Gives Read_of i k Clashes verbosity rules files answer is =
    reads_low Gives (RulesOf verbosity ClashesAnswer) rules answer (λ bytes a said. rules_of_low verbosity ClashesAnswer rules bytes a (list_low rules) said) is
action_low Gives Read_of i k (Check form) verbosity rules files answer is =
    reads_low Gives (RulesTold form (finding form) verbosity (CheckAnswer form)) rules answer
    (λ bytes a said. rules_told_low form (finding form) verbosity (CheckAnswer form) rules bytes a (check_low form rules) (finding_low form) said) is
action_low Gives Read_of i k (Cut form recovers) verbosity rules files answer is =
    let several = nat_lt 1 (length files) in
    by_rules_low verbosity Gives (λ r modes. TextsAnswer Read_of i k verbosity (PiecesAnswer r modes form recovers several) (PiecesPart r modes form recovers several) files) rules answer
    (λ r modes a texts. texts_low Read_of i k verbosity (PiecesAnswer r modes form recovers several) (PiecesPart r modes form recovers several) files a (pieces_low r modes form recovers several) texts) is
action_low Gives Read_of i k (Show markup) verbosity rules files answer is =
    by_rules_low verbosity Gives (λ r modes. TextsAnswer Read_of i k verbosity (PageAnswer r modes markup) (PagePart r modes markup) files) rules answer
    (λ r modes a texts. texts_low Read_of i k verbosity (PageAnswer r modes markup) (PagePart r modes markup) files a (page_low r modes markup) texts) is
action_low Gives Read_of i k (Emit language) verbosity rules files answer is =
    by_rules_low verbosity Gives (λ r modes. SourceAnswer language rules r) rules answer (λ r modes a written. source_low language rules r a written) is
action_low Gives Read_of i k Picture verbosity rules files answer is =
    by_rules_low verbosity Gives (PictureAnswer rules (slice_get files 0)) rules answer (picture_low rules (slice_get files 0)) is
action_low Gives Read_of i k Difference verbosity rules files answer is =
    by_rules_low verbosity Gives (λ r modes. ComparedAnswer Gives verbosity rules r modes (other_of files)) rules answer
    (λ r modes a told. compared_low Gives verbosity rules r modes (other_of files) a told) is

pub command_low : (Gives : List ℕ → Reading → Type 0) (i k : Stream) (command : Command) (answer : Answer)
    → CommandAnswer (λ action verbosity rules files. ActionAnswer (GivesWhole Gives) (TextsAnswer Gives i k) action verbosity rules files) command answer → IsLow answer
command_low Gives i k Help answer is = low answer _ is (omega arith)
command_low Gives i k Version answer is = low answer _ is (omega arith)
command_low Gives i k (Run action verbosity rules files) answer (own, (is, e)) =
    let names = map (λ file. file.now) files.items in
    let a : IsLow own = action_low (GivesWhole Gives) Gives i k action verbosity rules.now names own is in
    low answer _ e (omega arith)
