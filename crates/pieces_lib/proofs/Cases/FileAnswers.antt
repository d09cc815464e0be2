-- Cases of specs/FileAnswers.antt.
use Rattle.std.proofs.Common.{◌≡◌, ℕ, inl, inr, List, [], ◌∷◌, ◌++◌, codes, refl, ap, arith, true, false}
use Rattle.std.specs.Prelude.{Some, None}
use Rattle.reports_lib.specs.Answer.{Answer, silence, refusal, followed}
use Rattle.pieces_lib.specs.FileAnswers.{shown_name, FileGives, ReadingAnswer, NumberedAnswer, NumberedPart, FilesAnswer, FirstFilesAnswer, cut_files, TextsAnswer}
use Rattle.std.specs.Fmt.{digits}
use Rattle.lexdfa_lib.specs.Streams.{Stream, Reading, Reads, AtEnd, Failed, NotOpened, opened}
use Rattle.lexdfa_lib.specs.declared.command.Verbosity.TheVariants.{Progress}

-- ---- FILEs

-- standard input has a name of its own, and `./-` is a file
names : (shown_name (codes "-") ≡ codes "<stdin>") × (shown_name (codes "./-") ≡ codes "./-")
names = (refl, refl)

-- no file, no word
nothing : (Own : ℕ → Stream → Stream → List ℕ → Answer → Type 0) (i : Stream) → FilesAnswer Own 1 i i [] silence
nothing Own i = (refl, refl)

unnamed : (cut_files [] ≡ codes "-" ∷ []) × (cut_files (codes "f" ∷ codes "-" ∷ []) ≡ codes "f" ∷ codes "-" ∷ [])
unnamed = (refl, refl)

abbrev Nothing : List ℕ → Reading → Type 0
Nothing file reading = reading ≡ record { bytes = []; end = AtEnd }

-- the answer for what is read is this, after its name
abbrev Echo : List ℕ → Reading → Answer → Type 0
Echo file reading answer = answer ≡ record { status = 0; out = file ++ reading.bytes; err = [] }

abbrev says : List ℕ → Answer
says out = record { status = 0; out = out; err = [] }

abbrev nothing_read : Reading
nothing_read = record { bytes = []; end = AtEnd }

abbrev input : List ℕ → Stream
input bytes = opened (Some bytes) true

-- `-` is read where it stands, and a second `-` finds nothing left
first_input : NumberedAnswer Nothing (ReadingAnswer Echo) None 1 (input (codes "a")) (input []) (codes "-") (says (codes "<stdin>a"))
first_input = (says (codes "<stdin>a"), ((record { bytes = codes "a"; end = AtEnd }, ((refl, (refl, (refl, refl))), inr refl)), refl))

second_input : NumberedAnswer Nothing (ReadingAnswer Echo) None 2 (input []) (input []) (codes "-") (says (codes "<stdin>"))
second_input = (says (codes "<stdin>"), ((nothing_read, ((refl, (refl, (refl, refl))), inr refl)), refl))

twice : FilesAnswer (NumberedAnswer Nothing (ReadingAnswer Echo) None) 1 (input (codes "a")) (input []) (codes "-" ∷ codes "-" ∷ []) (says (codes "<stdin>a<stdin>"))
twice = (input [], (says (codes "<stdin>a"), (says (codes "<stdin>"), (first_input, ((input [], (says (codes "<stdin>"), (silence, (second_input, ((refl, refl), refl))))), refl)))))

-- a file changes nothing of standard input
unread : ¬ FileGives Nothing (input (97 ∷ [])) (input []) false (codes "f") nothing_read
unread (same, given) = let e = ap (λ (s : Stream). s.bytes) same in absurd (cc (e))

-- a file that isn't opened: only that is said
unopened : (IsFor : List ℕ → Reading → Answer → Type 0)
    → ReadingAnswer IsFor (codes "f") (record { bytes = []; end = NotOpened (codes "not found") }) (refusal 6 (codes "tokens: f: not found\n"))
unopened IsFor = inl (codes "not found", (refl, refl))

-- with progress, a FILE is told before its answer, by its number
told : (IsFor : List ℕ → Reading → Answer → Type 0) (i j : Stream) (reading : Reading) → Reads i j reading → IsFor (codes "<stdin>") reading (refusal 1 (codes "b"))
    → NumberedAnswer Nothing IsFor (Some 3) 2 i j (codes "-") (refusal 1 (codes "tokens: <stdin> (2 of 3)\nb"))
unfolding digits
told IsFor i j reading gives is = (refusal 1 (codes "b"), ((reading, (gives, is)), refl))

-- ---- the first texts

-- before the first file nothing is written
none_of_them : (Own Part : ℕ → Stream → Stream → List ℕ → Answer → Type 0) (i : Stream) (files : List (List ℕ)) → FirstFilesAnswer Own Part i files silence
none_of_them Own Part i files = ([], (files, (i, (refl, inl (refl, refl)))))

-- a part of the first one
part_of_the_first : (Own Part : ℕ → Stream → Stream → List ℕ → Answer → Type 0) (i j : Stream) (answer : Answer) → Part 1 i j (codes "f") answer
    → FirstFilesAnswer Own Part i (codes "f" ∷ []) (followed silence answer)
part_of_the_first Own Part i j answer is =
    ([], (codes "f" ∷ [], (j, (refl, inr (codes "f", ([], (refl, (i, (silence, (answer, ((refl, refl), (is, refl))))))))))))

-- perhaps only its number was said
number_alone : (Part : List ℕ → Reading → Answer → Type 0) (i j : Stream) → NumberedPart Nothing Part (Some 3) 2 i j (codes "f") (refusal 0 (codes "tokens: f (2 of 3)\n"))
unfolding digits
number_alone Part i j = (silence, (inl refl, refl))

-- nothing is said of a file that isn't among them
no_such_file : (Own Part : ℕ → Stream → Stream → List ℕ → Answer → Type 0) (i : Stream) → ¬ FirstFilesAnswer Own Part i [] (refusal 6 (codes "a"))
no_such_file Own Part i ([], (rest, (j, (e, inl (same, is))))) = let status : 6 ≡ 0 = ap (λ (a : Answer). a.status) is in omega (arith, status)
no_such_file Own Part i ([], (rest, (j, (e, inr (file, (more, (is, part))))))) = absurd (cc)
no_such_file Own Part i (file ∷ front, (rest, (j, (e, is)))) = absurd (cc)

-- a read of standard input fails, where no FILE is named
input_alone : (Gives : List ℕ → Reading → Type 0) (IsFor PartFor : List ℕ → Reading → Answer → Type 0) (i j : Stream) → Reads i j (record { bytes = codes "a"; end = Failed })
    → IsFor (codes "<stdin>") (record { bytes = codes "a"; end = Failed }) (refusal 6 (codes "tokens: <stdin>: read failed\n"))
    → TextsAnswer Gives i j Progress IsFor PartFor [] (refusal 6 (codes "tokens: <stdin>: read failed\n"))
input_alone Gives IsFor PartFor i j gives is = (
  j,
  (
    refusal 6 (codes "tokens: <stdin>: read failed\n"),
    (
      silence,
      (
        (
          refusal 6 (codes "tokens: <stdin>: read failed\n"),
          ((record { bytes = codes "a"; end = Failed }, (gives, inr is)), refl),
        ),
        ((refl, refl), refl),
      ),
    ),
  ),
)
