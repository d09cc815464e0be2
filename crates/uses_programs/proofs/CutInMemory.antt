-- What `tokens [--recover] [--json] rules` answers to a text on standard input, and `.. rules text -` to two texts, over memory.
use Rattle.std.proofs.Common.{◌≡◌, ◌≢◌, ℕ, Bool, true, false, List, [], ◌∷◌, ◌++◌, Some, None, inl, inr, codes, length, map, nat_lt, refl, sym, ap, ◌∙◌, subst, append-nil}
use Rattle.std.specs.Prelude.{Option, ◌⊎◌, not, ◌||◌, if◌then◌else◌}
use Rattle.std.specs.List.{list_any}
use Rattle.std.specs.Str.{bytes_eq}
use Rattle.std.specs.Io.KnownBytes.{Consumes, IsAtEnd}
use Rattle.lalrpop_rules.specs.Modes.{ModeRules}
use Rattle.lexdfa_lib.specs.Streams.{EndsReading, GivesWhole, NotOpened, ReadEnd, Reading, Reads, Stream, opened}
use Rattle.tokens_lib.specs.Answer.{Answer, followed, remark}
use Rattle.lexdfa_lib.specs.Options.{joined, names, options}
use Rattle.lexdfa_lib.specs.Command.{IsArgumentsError, IsCommand, IsFilesError, asks_help, asks_version, given, has, options_of, unknown, verbosity_of}
use Rattle.reports_lib.specs.NamedRules.{BytesAnswer, LexerOf, RulesOf}
use Rattle.pieces_lib.specs.FileAnswers.{ReadingAnswer, TextsAnswer}
use Rattle.tokens_lib.specs.Program.{ActionAnswer, CommandAnswer, IsAnswer, WordsAnswer}
use Rattle.pieces_lib.specs.Progress.{reading_text}
use Rattle.pieces_lib.specs.TextAnswer.{PiecesAnswer, PiecesPart}
use Rattle.lexdfa_lib.specs.declared.layout.LineForm.{LineForm}
use Rattle.lexdfa_lib.specs.declared.layout.LineForm.TheVariants.{Plain, Json}
use Rattle.lexdfa_lib.specs.declared.command.Action.{Action}
use Rattle.lexdfa_lib.specs.declared.command.Action.TheVariants.{Cut, Show, Clashes, Emit, Picture, Check, Difference}
use Rattle.lexdfa_lib.specs.declared.command.ArgumentsError.{ArgumentsError}
use Rattle.lexdfa_lib.specs.declared.command.ArgumentsError.TheVariants.{Apart, NoFiles, NoOther, NoRules, OutOfMemory, Unknown}
use Rattle.lexdfa_lib.specs.declared.command.Command.{Command}
use Rattle.lexdfa_lib.specs.declared.command.Command.TheVariants.{Help, Version, Run}
use Rattle.lexdfa_lib.specs.declared.command.Language.TheVariants.{C, Rust}
use Rattle.lexdfa_lib.specs.declared.command.Markup.TheVariants.{Html, Ansi}
use Rattle.lexdfa_lib.specs.declared.command.Verbosity.{Verbosity}
use Rattle.lexdfa_lib.specs.declared.command.Verbosity.TheVariants.{Warnings}
use Rattle.reports_lib.proofs.AnswerLaws.{followed-silence, silence-followed}

-- ---- no other action has these options

abbrev is_other : List ℕ → Bool
is_other option = not (bytes_eq option (codes "--recover") || bytes_eq option (codes "--json"))

abbrev cut_of : List (List ℕ) → Action
cut_of given_options =
    if list_any is_other given_options then Clashes
    else Cut (if has given_options (codes "--json") then Json else Plain) (has given_options (codes "--recover"))

is_it : (action : Action) → (cut_of (options_of action) ≡ action) ⊎ (cut_of (options_of action) ≡ Clashes)
is_it (Cut Plain false) = inl refl
is_it (Cut Plain true) = inl refl
is_it (Cut Json false) = inl refl
is_it (Cut Json true) = inl refl
is_it (Show Html) = inr refl
is_it (Show Ansi) = inr refl
is_it Clashes = inr refl
is_it (Emit (C None)) = inr refl
is_it (Emit (C (Some prefix))) = inr refl
is_it (Emit Rust) = inr refl
is_it Picture = inr refl
is_it (Check Plain) = inr refl
is_it (Check Json) = inr refl
is_it Difference = inr refl

is_cut : (form : LineForm) (recovers : Bool) → cut_of (options_of (Cut form recovers)) ≡ Cut form recovers
is_cut Plain false = refl
is_cut Plain true = refl
is_cut Json false = refl
is_cut Json true = refl

same_cut : (form : LineForm) (recovers : Bool) (action : Action) → Cut form recovers ≡ cut_of (options_of action)
    → (cut_of (options_of action) ≡ action) ⊎ (cut_of (options_of action) ≡ Clashes) → action ≡ Cut form recovers
same_cut form recovers action e (inl is) = sym (e ∙ is)
same_cut form recovers action e (inr is) = absurd (cc (e, is))

only_cut : (form : LineForm) (recovers : Bool) (action : Action) → options_of (Cut form recovers) ≡ options_of action → action ≡ Cut form recovers
only_cut form recovers action e = same_cut form recovers action (sym (is_cut form recovers) ∙ ap cut_of e) (is_it action)

-- ---- the command

abbrev pub words_of : LineForm → Bool → List (List ℕ) → List (List ℕ)
words_of form recovers files = (options_of (Cut form recovers) ++ (codes "rules" ∷ [])) ++ files

abbrev pub two_files : List (List ℕ)
two_files = codes "text" ∷ codes "-" ∷ []

-- such options and names, and nothing else is asked for
record AreWords (form : LineForm) (recovers : Bool) (its_files opts its_names : List (List ℕ)) : Type 0 where
  names_are : its_names ≡ codes "rules" ∷ its_files
  no_help : asks_help opts ≡ false
  no_version : asks_version opts ≡ false
  known : unknown opts ≡ None
  action : given opts ≡ options_of (Cut form recovers)
  verbosity : verbosity_of opts ≡ Warnings

no_files : (form : LineForm) (recovers : Bool) → AreWords form recovers [] (options (joined (words_of form recovers []))) (names (joined (words_of form recovers [])))
no_files Plain false = record { names_are = refl; no_help = refl; no_version = refl; known = refl; action = refl; verbosity = refl }
no_files Plain true = record { names_are = refl; no_help = refl; no_version = refl; known = refl; action = refl; verbosity = refl }
no_files Json false = record { names_are = refl; no_help = refl; no_version = refl; known = refl; action = refl; verbosity = refl }
no_files Json true = record { names_are = refl; no_help = refl; no_version = refl; known = refl; action = refl; verbosity = refl }

with_two : (form : LineForm) (recovers : Bool) → AreWords form recovers two_files (options (joined (words_of form recovers two_files))) (names (joined (words_of form recovers two_files)))
with_two Plain false = record { names_are = refl; no_help = refl; no_version = refl; known = refl; action = refl; verbosity = refl }
with_two Plain true = record { names_are = refl; no_help = refl; no_version = refl; known = refl; action = refl; verbosity = refl }
with_two Json false = record { names_are = refl; no_help = refl; no_version = refl; known = refl; action = refl; verbosity = refl }
with_two Json true = record { names_are = refl; no_help = refl; no_version = refl; known = refl; action = refl; verbosity = refl }

no_error : (form : LineForm) (recovers : Bool) (its_files opts its_names : List (List ℕ)) (error : ArgumentsError) → AreWords form recovers its_files opts its_names
    → IsArgumentsError opts its_names error → ⊥
no_error form recovers its_files opts its_names (Unknown option) w (asks, is) = absurd (cc (w.known, is))
no_error form recovers its_files opts its_names NoRules w (asks, (known, none)) = absurd (cc (w.names_are, none))
no_error form recovers its_files opts its_names (Apart apart) w (asks, (known, (some, (is, apart_from)))) = apart_from (Cut form recovers) w.action
no_error form recovers its_files opts its_names (NoFiles file) w (asks, (known, (action, (is, (rules, (named, (n, error))))))) =
    let at = subst (λ (a : Action). IsFilesError a named (NoFiles file)) (only_cut form recovers action (sym w.action ∙ is)) error in
    let most = at.1.0 in
    absurd (cc (most))
no_error form recovers its_files opts its_names NoOther w (asks, (known, (action, (is, (rules, (named, (n, error))))))) =
    subst (λ (a : Action). IsFilesError a named NoOther) (only_cut form recovers action (sym w.action ∙ is)) error
no_error form recovers its_files opts its_names OutOfMemory w (asks, (known, (action, (is, (rules, (named, (n, error))))))) =
    subst (λ (a : Action). IsFilesError a named OutOfMemory) (only_cut form recovers action (sym w.action ∙ is)) error

abbrev Owns : Type 1
Owns = Action → Verbosity → List ℕ → List (List ℕ) → Answer → Type 0

the_command : (Own : Owns) (form : LineForm) (recovers : Bool) (its_files opts its_names : List (List ℕ)) (command : Command) (answer : Answer) → AreWords form recovers its_files opts its_names
    → IsCommand opts its_names command → CommandAnswer Own command answer → Own (Cut form recovers) Warnings (codes "rules") its_files answer
the_command Own form recovers its_files opts its_names Help answer w is said = absurd (cc (w.no_help, is))
the_command Own form recovers its_files opts its_names Version answer w is said = let asks = is.1 in absurd (cc (w.no_version, asks))
the_command Own form recovers its_files opts its_names (Run action verbosity rules files) answer w
    (asks, (known, (one, (has_options, (its_rules, (named, (n, (is_action, (is_verbosity, (is_rules, (takes, are)))))))))))
    (own, (owns, is)) =
    let pa = is_action ∙ only_cut form recovers one (sym w.action ∙ has_options) in
    let pv = is_verbosity ∙ w.verbosity in
    let r : its_rules ≡ codes "rules" = cc (w.names_are, n) in
    let f : named ≡ its_files = cc (w.names_are, n) in
    let a1 = subst (λ (a : Action). Own a verbosity rules.now (map (λ file. file.now) files.items) own) pa owns in
    let a2 = subst (λ (v : Verbosity). Own (Cut form recovers) v rules.now (map (λ file. file.now) files.items) own) pv a1 in
    let a3 = subst (λ (l : List ℕ). Own (Cut form recovers) Warnings l (map (λ file. file.now) files.items) own) (is_rules ∙ r) a2 in
    let a4 = subst (λ (l : List (List ℕ)). Own (Cut form recovers) Warnings (codes "rules") l own) (are ∙ f) a3 in
    let e = subst (λ (v : Verbosity). answer ≡ followed (remark (reading_text v rules.now)) own) pv is in
    subst (λ (x : Answer). Own (Cut form recovers) Warnings (codes "rules") its_files x) (sym (e ∙ silence-followed own)) a4

the_action : (Own : Owns) (form : LineForm) (recovers : Bool) (its_files : List (List ℕ)) (answer : Answer)
    → AreWords form recovers its_files (options (joined (words_of form recovers its_files))) (names (joined (words_of form recovers its_files)))
    → WordsAnswer Own (words_of form recovers its_files) answer → Own (Cut form recovers) Warnings (codes "rules") its_files answer
the_action Own form recovers its_files answer words (inl (error, (is, said))) = absurd (no_error form recovers its_files _ _ error words is)
the_action Own form recovers its_files answer words (inr (command, (is, own))) = the_command Own form recovers its_files _ _ command answer words is own

-- ---- what memory gives

all_read : (all bytes : List ℕ) (left : Option (List ℕ)) → Consumes (Some all) left bytes → IsAtEnd left → bytes ≡ all
all_read all bytes None read end = absurd read
all_read all bytes (Some ys) read end = sym (read ∙ (ap (λ (l : List ℕ). bytes ++ l) end ∙ append-nil bytes))

pub whole_rules : (Gives : List ℕ → Reading → Type 0) (rules : List ℕ)
    → ((reading : Reading) → Gives (codes "rules") reading → (new : Stream) × Reads (opened (Some rules) false) new reading)
    → (IsFor : List ℕ → List ℕ → Answer → Type 0) (answer : Answer) → BytesAnswer (GivesWhole Gives) IsFor (codes "rules") answer → IsFor (codes "rules") rules answer
whole_rules Gives rules from IsFor answer (inl (reason, (inl closed, said))) = let r = from _ closed in absurd r.1.1
whole_rules Gives rules from IsFor answer (inl (reason, (inr (bytes, (fails, is)), said))) =
    let r = from _ fails in
    let may = r.1.1.0 in
    absurd (cc (may))
whole_rules Gives rules from IsFor answer (inr (bytes, (gives, is))) =
    let r = from _ gives in
    subst (λ (l : List ℕ). IsFor (codes "rules") l answer) (all_read rules bytes r.0.bytes r.1.0 r.1.1.1.1) is

-- the answer for what is read of this text
abbrev pub TextOf : Stream → (List ℕ → Reading → Answer → Type 0) → List ℕ → Answer → Type 0
TextOf i IsFor name answer = (left : Stream) × ((reading : Reading) × (Reads i left reading × IsFor name reading answer))

is_read : (i j : Stream) (IsFor : List ℕ → Reading → Answer → Type 0) (name : List ℕ) (reading : Reading) (answer : Answer) → Reads i j reading
    → ReadingAnswer IsFor name reading answer → TextOf i IsFor name answer
is_read i j IsFor name reading answer reads (inl (reason, (closed, said))) = absurd (subst (λ (e : ReadEnd). EndsReading i j e) closed reads.1)
is_read i j IsFor name reading answer reads (inr is) = (j, (reading, (reads, is)))

one_text : (Gives : List ℕ → Reading → Type 0) (i k : Stream) (IsFor PartFor : List ℕ → Reading → Answer → Type 0) (answer : Answer)
    → TextsAnswer Gives i k Warnings IsFor PartFor [] answer → TextOf i IsFor (codes "<stdin>") answer
one_text Gives i k IsFor PartFor answer (j, (own, (rest, ((text, ((reading, (reads, is)), first)), (end, both))))) =
    let one = both ∙ (ap (λ (a : Answer). followed own a) end.1 ∙ (followed-silence own ∙ (first ∙ silence-followed text))) in
    subst (λ (a : Answer). TextOf i IsFor (codes "<stdin>") a) (sym one) (is_read i j IsFor (codes "<stdin>") reading text reads is)

-- a file, and then what is read of standard input
abbrev pub BothOf : List ℕ → Stream → (List ℕ → Reading → Answer → Type 0) → Answer → Type 0
BothOf text i IsFor answer =
    (first : Answer) × ((second : Answer) × (TextOf (opened (Some text) false) IsFor (codes "text") first × (TextOf i IsFor (codes "<stdin>") second × (answer ≡ followed first second))))

two_texts : (Gives : List ℕ → Reading → Type 0) (i k : Stream) (text : List ℕ)
    → ((reading : Reading) → Gives (codes "text") reading → (new : Stream) × Reads (opened (Some text) false) new reading)
    → (IsFor PartFor : List ℕ → Reading → Answer → Type 0) (answer : Answer) → TextsAnswer Gives i k Warnings IsFor PartFor two_files answer → BothOf text i IsFor answer
two_texts Gives i k text from IsFor PartFor answer
    (j, (own, (rest, ((file, ((reading, ((same, gives), is)), first)), ((l, (its, (none, ((input, ((other, (reads, of)), second)), (end, last))))), both))))) =
    let r = from reading gives in
    let a = is_read (opened (Some text) false) r.0 IsFor (codes "text") reading file r.1 is in
    let b = is_read i l IsFor (codes "<stdin>") other input (subst (λ (s : Stream). Reads s l other) (sym same) reads) of in
    let one = first ∙ silence-followed file in
    let two = last ∙ (ap (λ (x : Answer). followed its x) end.1 ∙ (followed-silence its ∙ (second ∙ silence-followed input))) in
    (file, (input, (a, (b, both ∙ (ap (λ (x : Answer). followed x rest) one ∙ ap (λ (x : Answer). followed file x) two)))))

pub in_lexer : (P Q : ModeRules → List (List ℕ) → Answer → Type 0) (verbosity : Verbosity) (file bytes : List ℕ) (answer : Answer)
    → ((r : ModeRules) (modes : List (List ℕ)) (x : Answer) → P r modes x → Q r modes x)
    → RulesOf verbosity (LexerOf P) file bytes answer → RulesOf verbosity (LexerOf Q) file bytes answer
in_lexer P Q verbosity file bytes answer to (inl bad) = inl bad
in_lexer P Q verbosity file bytes answer to (inr (said, (warned, (own, ((modes, (rs, (say, inl refused))), is))))) =
    inr (said, (warned, (own, ((modes, (rs, (say, inl refused))), is))))
in_lexer P Q verbosity file bytes answer to (inr (said, (warned, (own, ((modes, (rs, (say, inr (r, (set, for))))), is))))) =
    inr (said, (warned, (own, ((modes, (rs, (say, inr (r, (set, to r modes own for))))), is))))

-- two files, by their names
abbrev pub BothGive : List ℕ → List ℕ → List ℕ → Reading → Type 0
BothGive rules text name reading =
    ((name ≡ codes "rules") × ((new : Stream) × Reads (opened (Some rules) false) new reading))
    ⊎ (((name ≡ codes "text") × ((new : Stream) × Reads (opened (Some text) false) new reading))
    ⊎ ((name ≢ codes "rules") × ((name ≢ codes "text") × (reading ≡ record { bytes = []; end = NotOpened (codes "not found") }))))

of_rules : (rules text : List ℕ) (reading : Reading) → BothGive rules text (codes "rules") reading → (new : Stream) × Reads (opened (Some rules) false) new reading
of_rules rules text reading (inl (same, reads)) = reads
of_rules rules text reading (inr (inl (same, reads))) = absurd (cc (same))
of_rules rules text reading (inr (inr (apart, is))) = absurd (apart refl)

of_text : (rules text : List ℕ) (reading : Reading) → BothGive rules text (codes "text") reading → (new : Stream) × Reads (opened (Some text) false) new reading
of_text rules text reading (inl (same, reads)) = absurd (cc (same))
of_text rules text reading (inr (inl (same, reads))) = reads
of_text rules text reading (inr (inr (apart, (other, is)))) = absurd (other refl)

-- ---- the answer

-- for what is read of standard input
abbrev pub AnswerTo : Stream → LineForm → Bool → ModeRules → List (List ℕ) → Answer → Type 0
AnswerTo i form recovers r modes answer = TextOf i (PiecesAnswer r modes form recovers false) (codes "<stdin>") answer

-- for a file, and then for what is read of standard input
abbrev pub AnswersTo : List ℕ → Stream → LineForm → Bool → ModeRules → List (List ℕ) → Answer → Type 0
AnswersTo text i form recovers r modes answer = BothOf text i (PiecesAnswer r modes form recovers true) answer

abbrev Texts : Stream → Stream → List ℕ → List ℕ → LineForm → Bool → Bool → List (List ℕ) → ModeRules → List (List ℕ) → Answer → Type 0
Texts i k rules text form recovers several files r modes answer =
    TextsAnswer (BothGive rules text) i k Warnings (PiecesAnswer r modes form recovers several) (PiecesPart r modes form recovers several) files answer

by_rules : (i k : Stream) (rules text : List ℕ) (form : LineForm) (recovers several : Bool) (its_files words : List (List ℕ)) (answer : Answer)
    → AreWords form recovers its_files (options (joined (words_of form recovers its_files))) (names (joined (words_of form recovers its_files)))
    → several ≡ nat_lt 1 (length its_files) → words ≡ words_of form recovers its_files → IsAnswer (BothGive rules text) i k words answer
    → RulesOf Warnings (LexerOf (Texts i k rules text form recovers several its_files)) (codes "rules") rules answer
by_rules i k rules text form recovers several its_files words answer are_words number are is =
    let own = subst (λ (ws : List (List ℕ)). IsAnswer (BothGive rules text) i k ws answer) are is in
    let by = the_action (λ action verbosity file files. ActionAnswer (GivesWhole (BothGive rules text)) (TextsAnswer (BothGive rules text) i k) action verbosity file files)
    form recovers its_files answer are_words own in
    let all = whole_rules (BothGive rules text) rules (of_rules rules text)
    (RulesOf Warnings (LexerOf (Texts i k rules text form recovers (nat_lt 1 (length its_files)) its_files))) answer by in
    subst (λ (b : Bool). RulesOf Warnings (LexerOf (Texts i k rules text form recovers b its_files)) (codes "rules") rules answer) (sym number) all

pub cut_answer : (i k : Stream) (rules text : List ℕ) (form : LineForm) (recovers : Bool) (words : List (List ℕ)) (answer : Answer)
    → words ≡ words_of form recovers [] → IsAnswer (BothGive rules text) i k words answer → RulesOf Warnings (LexerOf (AnswerTo i form recovers)) (codes "rules") rules answer
cut_answer i k rules text form recovers words answer are is =
    in_lexer (Texts i k rules text form recovers false []) (AnswerTo i form recovers) Warnings (codes "rules") rules answer
    (λ r modes x texts. one_text (BothGive rules text) i k (PiecesAnswer r modes form recovers false) (PiecesPart r modes form recovers false) x texts)
    (by_rules i k rules text form recovers false [] words answer (no_files form recovers) refl are is)

pub cut_answers : (i k : Stream) (rules text : List ℕ) (form : LineForm) (recovers : Bool) (words : List (List ℕ)) (answer : Answer)
    → words ≡ words_of form recovers two_files → IsAnswer (BothGive rules text) i k words answer → RulesOf Warnings (LexerOf (AnswersTo text i form recovers)) (codes "rules") rules answer
cut_answers i k rules text form recovers words answer are is =
    in_lexer (Texts i k rules text form recovers true two_files) (AnswersTo text i form recovers) Warnings (codes "rules") rules answer
    (λ r modes x texts. two_texts (BothGive rules text) i k text (of_text rules text) (PiecesAnswer r modes form recovers true) (PiecesPart r modes form recovers true) x texts)
    (by_rules i k rules text form recovers true two_files words answer (with_two form recovers) refl are is)
