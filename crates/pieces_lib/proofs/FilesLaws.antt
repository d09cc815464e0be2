-- The answer for files, one after another.
use Rattle.std.proofs.Common.{◌≡◌, ◌≢◌, ℕ, ◌+◌, ◌<◌, get_or, Bool, false, inl, inr, List, [], ◌∷◌, ◌++◌, length, take, drop, map, refl, sym, ap, subst, ◌∙◌, arith}
use Rattle.std.specs.Prelude.{max, codes, if◌then◌else◌, Option}
use Rattle.std.proofs.lemmas.List.{take_more, map-append, length-map, length-take-le, take-append-drop, drop_more}
use Rattle.lexdfa_lib.specs.Streams.{Reading, NotOpened, Stream}
use Rattle.reports_lib.specs.Answer.{Answer, silence, followed, refusal, about}
use Rattle.pieces_lib.specs.Console.{Console, Answers, Begins}
use Rattle.pieces_lib.specs.FileAnswers.{is_input, FileGives, ReadingAnswer, FileAnswer, NumberedAnswer, NumberedPart, FilesAnswer, FirstFilesAnswer, cut_files, TextsAnswer, FirstTextsAnswer}
use Rattle.pieces_lib.specs.Progress.{total_said}
use Rattle.pieces_lib.specs.Tasks.{EitherAnswer, ReadAnswer}
use Rattle.lexdfa_lib.specs.declared.command.Verbosity.{Verbosity}
use Rattle.reports_lib.proofs.AnswerLaws.{Then, followed-assoc, followed-silence, silence-followed}
use Rattle.pieces_lib.proofs.AnswerLaws.{Gives-again}

-- ---- a FILE

-- where it is read by its name
pub from_file : (GivesFile : List ℕ → Reading → Type 0) (IsFor : List ℕ → Reading → Answer → Type 0) (i : Stream) (file : List ℕ) (answer : Answer)
    → is_input file ≡ false → ReadAnswer (GivesFile file) (IsFor file) answer → FileAnswer GivesFile IsFor i i file answer
from_file GivesFile IsFor i file answer is (reading, (gives, done)) = (
  reading,
  subst (λ (b : Bool). FileGives GivesFile i i b file reading × IsFor (if b then codes "<stdin>" else file) reading answer) (sym is) ((refl, gives), done),
)

-- it wasn't opened
pub unopened_part : (Gives_it : Reading → Type 0) (IsFor PartFor : List ℕ → Reading → Answer → Type 0) (file reason : List ℕ) (answer : Answer)
    → Gives_it (record { bytes = []; end = NotOpened reason }) → answer ≡ refusal 6 (about file reason) → ReadAnswer Gives_it (EitherAnswer (ReadingAnswer IsFor) PartFor file) answer
unopened_part Gives_it IsFor PartFor file reason answer gives is = (record { bytes = []; end = NotOpened reason }, (gives, inl (inl (reason, (refl, is)))))

-- ---- FILEs

-- the answer for one more file, which has the next number
FilesAnswer-more : (Own : ℕ → Stream → Stream → List ℕ → Answer → Type 0) (n m : ℕ) (i j k : Stream) (files : List (List ℕ)) (file : List ℕ) (before own : Answer) → m ≡ n + length files
    → FilesAnswer Own n i j files before → Own m j k file own → FilesAnswer Own n i k (files ++ file ∷ []) (followed before own)
FilesAnswer-more Own n m i j k [] file before own next (same, is) one =
    let here : m ≡ n = omega (arith, next) in
    let first : Own n i k file own = subst (λ (x : Stream). Own n x k file own) (sym same) (subst (λ (x : ℕ). Own x j k file own) here one) in
    (k, (own, (silence, (first, ((refl, refl), ap (λ (a : Answer). followed a own) is ∙ silence-followed own ∙ sym (followed-silence own))))))
FilesAnswer-more Own n m i j k (first ∷ files) file before own next (h, (a, (b, (own_first, (rest, e))))) one =
    let here : m ≡ n + 1 + length files = omega (arith, next) in
    (h, (a, (followed b own, (own_first, (FilesAnswer-more Own (n + 1) m h j k files file b own here rest one, ap (λ (x : Answer). followed x own) e ∙ followed-assoc a b own)))))

module _ {T : Type 0} (Own : ℕ → Stream → Stream → List ℕ → Answer → Type 0) (text : T → List ℕ) (names : List T) (at : ℕ) (d : T) (file : List ℕ) (i j k : Stream)
    (within : at < length names) (is : file ≡ text (get_or names at d)) where
  -- one more of the files
  pub files_more : (before own : Answer) → FilesAnswer Own 1 i j (map text (take at names)) before → Own (at + 1) j k file own
      → FilesAnswer Own 1 i k (map text (take (at + 1) names)) (followed before own)
  files_more before own files one =
      let number : at + 1 ≡ 1 + length (map text (take at names)) = omega (arith, length-map (take at names) text, length-take-le at names (omega (arith, within))) in
      rw (take_more names at d within, map-append)
      (FilesAnswer-more Own 1 (at + 1) i j k (map text (take at names)) (text (get_or names at d)) before own number files
      (subst (λ (f : List ℕ). Own (at + 1) j k f own) is one))

  -- one more was answered
  pub answered_more : (a b c : Console) (status own greater : ℕ) → greater ≡ max status own → Answers (FilesAnswer Own 1 i j (map text (take at names))) a status b
      → Answers (Own (at + 1) j k file) b own c → Answers (FilesAnswer Own 1 i k (map text (take (at + 1) names))) a greater c
  answered_more a b c status own greater same (x, (files, (status_is, given))) (y, (one, (own_is, more))) =
      (followed x y, (files_more x y files one, (omega (arith, same, status_is, own_is), Gives-again a b c x y given more)))

  -- the first of the files, and the others
  fronts : (n : ℕ) → map text names ≡ map text (take n names) ++ map text (drop n names)
  fronts n = ap (map text) (sym (take-append-drop n names)) ∙ map-append text (take n names) (drop n names)

  -- those after the next one
  others : map text (drop at names) ≡ file ∷ map text (drop (at + 1) names)
  others = ap (map text) (drop_more names at d within) ∙ ap (λ (f : List ℕ). f ∷ map text (drop (at + 1) names)) (sym is)

  -- some files were answered, and perhaps a part of the next one
  pub part_more : (Part : ℕ → Stream → Stream → List ℕ → Answer → Type 0) (before own x : Answer) → FilesAnswer Own 1 i j (map text (take at names)) before
      → Part (at + 1) j k file own → x ≡ followed before own → FirstFilesAnswer Own Part i (map text names) x
  part_more Part before own x files part same =
      let number : at + 1 ≡ length (map text (take at names)) + 1 = omega (arith, length-map (take at names) text, length-take-le at names (omega (arith, within))) in (
        map text (take at names),
        (
          map text (drop at names),
          (
            k,
            (
              fronts at,
              inr (
                file,
                (map text (drop (at + 1) names), (others, (j, (before, (own, (files, (subst (λ (n : ℕ). Part n j k file own) number part, same))))))),
              ),
            ),
          ),
        ),
      )

  pub whole_more : (Part : ℕ → Stream → Stream → List ℕ → Answer → Type 0) (before own x : Answer) → FilesAnswer Own 1 i j (map text (take at names)) before
      → Own (at + 1) j k file own → x ≡ followed before own → FirstFilesAnswer Own Part i (map text names) x
  whole_more Part before own x files one same = (
    map text (take (at + 1) names),
    (
      map text (drop (at + 1) names),
      (
        k,
        (
          fronts (at + 1),
          inl (subst (λ (y : Answer). FilesAnswer Own 1 i k (map text (take (at + 1) names)) y) (sym same) (files_more before own files one)),
        ),
      ),
    ),
  )

  pub none_more : (Part : ℕ → Stream → Stream → List ℕ → Answer → Type 0) (before x : Answer) → FilesAnswer Own 1 i j (map text (take at names)) before
      → x ≡ followed before silence → FirstFilesAnswer Own Part i (map text names) x
  none_more Part before x files same = (
    map text (take at names),
    (
      map text (drop at names),
      (
        j,
        (fronts at, inl (subst (λ (y : Answer). FilesAnswer Own 1 i j (map text (take at names)) y) (sym (same ∙ followed-silence before)) files)),
      ),
    ),
  )

-- before an error, some files were answered, and then nothing, or the next one, or a part of it
pub files_begun : {T : Type 0} (GivesFile : List ℕ → Reading → Type 0) (IsFor PartFor : List ℕ → Reading → Answer → Type 0) (total : Option ℕ) (text : T → List ℕ) (names : List T) (at : ℕ) (d : T)
    (file : List ℕ) (i j k : Stream) (before x : Answer) → at < length names → file ≡ text (get_or names at d)
    → FilesAnswer (NumberedAnswer GivesFile IsFor total) 1 i j (map text (take at names)) before
    → Then before (Begins (NumberedPart GivesFile (EitherAnswer IsFor PartFor) total (at + 1) j k file)) x
    → FirstFilesAnswer (NumberedAnswer GivesFile IsFor total) (NumberedPart GivesFile PartFor total) i (map text names) x
files_begun GivesFile IsFor PartFor total text names at d file i j k before x within is files (own, (inl none, same)) =
    none_more (NumberedAnswer GivesFile IsFor total) text names at d file i j k within is (NumberedPart GivesFile PartFor total) before x files
    (same ∙ ap (λ (y : Answer). followed before y) none)
files_begun GivesFile IsFor PartFor total text names at d file i j k before x within is files (own, (inr (y, (inl none, e)), same)) =
    part_more (NumberedAnswer GivesFile IsFor total) text names at d file i j k within is (NumberedPart GivesFile PartFor total) before own x files (y, (inl none, e)) same
files_begun GivesFile IsFor PartFor total text names at d file i j k before x within is files (own, (inr (y, (inr (reading, (gives, inl done)), e)), same)) =
    whole_more (NumberedAnswer GivesFile IsFor total) text names at d file i j k within is (NumberedPart GivesFile PartFor total) before own x files (y, ((reading, (gives, done)), e)) same
files_begun GivesFile IsFor PartFor total text names at d file i j k before x within is files (own, (inr (y, (inr (reading, (gives, inr part)), e)), same)) =
    part_more (NumberedAnswer GivesFile IsFor total) text names at d file i j k within is (NumberedPart GivesFile PartFor total) before own x files (y, (inr (reading, (gives, part)), e)) same

-- ---- the named FILEs

pub cut_named : (files : List (List ℕ)) → length files ≢ 0 → cut_files files ≡ files
cut_named [] some = absurd (some refl)
cut_named (file ∷ files) some = refl

pub cut_unnamed : (files : List (List ℕ)) → length files ≡ 0 → cut_files files ≡ codes "-" ∷ []
cut_unnamed [] none = refl
cut_unnamed (file ∷ files) none = absurd (omega (arith, none))

module _ (GivesFile : List ℕ → Reading → Type 0) (IsFor PartFor : List ℕ → Reading → Answer → Type 0) (i k : Stream) (verbosity : Verbosity) (total : Option ℕ) (cut files : List (List ℕ))
    (total_is : total ≡ total_said verbosity (length files)) (cut_is : cut ≡ cut_files files) where
  pub texts_answered : (answer : Answer) → FilesAnswer (NumberedAnswer GivesFile (ReadingAnswer IsFor) total) 1 i k cut answer
      → TextsAnswer GivesFile i k verbosity IsFor PartFor files answer
  texts_answered answer is =
      subst (λ (t : Option ℕ). FilesAnswer (NumberedAnswer GivesFile (ReadingAnswer IsFor) t) 1 i k (cut_files files) answer) total_is
      (subst (λ (fs : List (List ℕ)). FilesAnswer (NumberedAnswer GivesFile (ReadingAnswer IsFor) total) 1 i k fs answer) cut_is is)

  pub texts_begun : (answer : Answer) → FirstFilesAnswer (NumberedAnswer GivesFile (ReadingAnswer IsFor) total) (NumberedPart GivesFile PartFor total) i cut answer
      → FirstTextsAnswer GivesFile i verbosity IsFor PartFor files answer
  texts_begun answer is =
      subst (λ (t : Option ℕ). FirstFilesAnswer (NumberedAnswer GivesFile (ReadingAnswer IsFor) t) (NumberedPart GivesFile PartFor t) i (cut_files files) answer) total_is
      (subst (λ (fs : List (List ℕ)). FirstFilesAnswer (NumberedAnswer GivesFile (ReadingAnswer IsFor) total) (NumberedPart GivesFile PartFor total) i fs answer) cut_is is)
