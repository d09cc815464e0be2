-- cases: proofs/Cases/FileAnswers.antt
-- The answer for some files.
use Rattle.std.specs.Prelude.{◌≡◌, ℕ, ◌+◌, ◌⊎◌, Bool, true, false, List, [], ◌∷◌, ◌++◌, length, Option, codes, if◌then◌else◌}
use Rattle.std.specs.Str.{bytes_eq}
use Rattle.lexdfa_lib.specs.Streams.{NotOpened, Reading, Reads, Stream}
use Rattle.reports_lib.specs.Answer.{Answer, silence, refusal, remark, followed, about}
use Rattle.pieces_lib.specs.Console.{Begins}
use Rattle.pieces_lib.specs.Progress.{total_said, number_text}
use Rattle.lexdfa_lib.specs.declared.command.Verbosity.{Verbosity}

-- ---- FILEs

-- a FILE `-` is standard input
abbrev pub is_input : List ℕ → Bool
is_input file = bytes_eq file (codes "-")

-- the name of a FILE in lines and messages
abbrev pub shown_name : List ℕ → List ℕ
shown_name file = if is_input file then codes "<stdin>" else file

-- what is read of a FILE, while standard input comes from one state to another: `-` is read from there, and other files by name
abbrev pub FileGives : (List ℕ → Reading → Type 0) → Stream → Stream → Bool → List ℕ → Reading → Type 0
FileGives Gives i j true file reading = Reads i j reading
FileGives Gives i j false file reading = (i ≡ j) × Gives file reading

-- a FILE isn't opened, and this is said; or what is read of it has this answer
abbrev pub ReadingAnswer : (List ℕ → Reading → Answer → Type 0) → List ℕ → Reading → Answer → Type 0
ReadingAnswer IsFor file reading answer =
    ((reason : List ℕ) × ((reading.end ≡ NotOpened reason) × (answer ≡ refusal 6 (about file reason)))) ⊎ IsFor file reading answer

-- the answer for a FILE, by the answer for what is read of it
abbrev pub FileAnswer : (List ℕ → Reading → Type 0) → (List ℕ → Reading → Answer → Type 0) → Stream → Stream → List ℕ → Answer → Type 0
FileAnswer Gives IsFor i j file answer =
    (reading : Reading) × (FileGives Gives i j (is_input file) file reading × IsFor (shown_name file) reading answer)

-- for the FILE with this number; before it is read, its number is said if there is a total
abbrev pub NumberedAnswer : (List ℕ → Reading → Type 0) → (List ℕ → Reading → Answer → Type 0) → Option ℕ → ℕ → Stream → Stream → List ℕ → Answer → Type 0
NumberedAnswer Gives IsFor total number i j file answer =
    (own : Answer) × (FileAnswer Gives IsFor i j file own × (answer ≡ followed (remark (number_text total number (shown_name file))) own))

-- for a part of it: perhaps no more than its number is said
abbrev pub NumberedPart : (List ℕ → Reading → Type 0) → (List ℕ → Reading → Answer → Type 0) → Option ℕ → ℕ → Stream → Stream → List ℕ → Answer → Type 0
NumberedPart Gives PartFor total number i j file answer =
    (own : Answer) × (Begins (FileAnswer Gives PartFor i j file) own × (answer ≡ followed (remark (number_text total number (shown_name file))) own))

-- for these FILEs, one after another, by the answer for one with its number; the first has this number
abbrev pub FilesAnswer : (ℕ → Stream → Stream → List ℕ → Answer → Type 0) → ℕ → Stream → Stream → List (List ℕ) → Answer → Type 0
FilesAnswer Own number i k [] answer = (i ≡ k) × (answer ≡ silence)
FilesAnswer Own number i k (file ∷ files) answer =
    (j : Stream) × ((own : Answer) × ((rest : Answer) × (Own number i j file own × (FilesAnswer Own (number + 1) j k files rest × (answer ≡ followed own rest)))))

-- for the first of these FILEs, and of the next one a part, by the answer for a part of one
abbrev pub PartFilesAnswer : (ℕ → Stream → Stream → List ℕ → Answer → Type 0) → (ℕ → Stream → Stream → List ℕ → Answer → Type 0) → Stream → Stream → List (List ℕ) → List ℕ → Answer → Type 0
PartFilesAnswer Own Part i k front file answer =
    (j : Stream) × ((before : Answer) × ((own : Answer) × (FilesAnswer Own 1 i j front before × (Part (length front + 1) j k file own × (answer ≡ followed before own)))))

-- for the first of these FILEs, up to some FILE, or up to a part of the next one
abbrev pub FirstFilesAnswer : (ℕ → Stream → Stream → List ℕ → Answer → Type 0) → (ℕ → Stream → Stream → List ℕ → Answer → Type 0) → Stream → List (List ℕ) → Answer → Type 0
FirstFilesAnswer Own Part i files answer =
    (front : List (List ℕ)) × ((rest : List (List ℕ)) × ((k : Stream) × ((files ≡ front ++ rest)
    × (FilesAnswer Own 1 i k front answer ⊎ ((file : List ℕ) × ((more : List (List ℕ)) × ((rest ≡ file ∷ more) × PartFilesAnswer Own Part i k front file answer)))))))

-- the FILEs that are cut: standard input if none is named
abbrev pub cut_files : List (List ℕ) → List (List ℕ)
cut_files [] = codes "-" ∷ []
cut_files (file ∷ files) = file ∷ files

-- the answer for the texts of the named FILEs, by the answer for what is read of one; standard input comes from one state to another
abbrev pub TextsAnswer : (List ℕ → Reading → Type 0) → Stream → Stream → Verbosity → (List ℕ → Reading → Answer → Type 0) → (List ℕ → Reading → Answer → Type 0) → List (List ℕ) → Answer → Type 0
TextsAnswer Gives i k verbosity IsFor PartFor files answer =
    FilesAnswer (NumberedAnswer Gives (ReadingAnswer IsFor) (total_said verbosity (length files))) 1 i k (cut_files files) answer

-- for the first ones, and a part of the next, by the answer for a part of one
abbrev pub FirstTextsAnswer : (List ℕ → Reading → Type 0) → Stream → Verbosity → (List ℕ → Reading → Answer → Type 0) → (List ℕ → Reading → Answer → Type 0) → List (List ℕ) → Answer → Type 0
FirstTextsAnswer Gives i verbosity IsFor PartFor files answer =
    FirstFilesAnswer (NumberedAnswer Gives (ReadingAnswer IsFor) (total_said verbosity (length files)))
    (NumberedPart Gives PartFor (total_said verbosity (length files))) i (cut_files files) answer
