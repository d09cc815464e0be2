-- The answer for what is read of a text, by what was written for it and how cutting ended.
use Rattle.std.proofs.Common.{◌≡◌, ℕ, Bool, true, false, inl, inr, List, [], map, string_bytes, refl, sym, ap, subst, ◌∙◌, Global}
use Rattle.std.specs.Prelude.{Option, Result, Ok, Err, IfOk, OnOk, option_map, String}
use Rattle.std.specs.Bool.{then_some}
use Rattle.std.specs.Borrow.{Bor}
use Rattle.std.proofs.lemmas.List.{append-nil}
use Rattle.lalrpop_rule_file.specs.RuleFile.{without_mark}
use Rattle.lalrpop_rules.specs.Modes.{ModeRules}
use Rattle.bajofeki_rules.specs.Stack.{start}
use Rattle.lalrpop_rules.specs.declared.piece.Piece.{Piece}
use Rattle.lexdfa_lib.specs.declared.error.RunError.{RunError}
use Rattle.lexdfa_lib.specs.Streams.{Reading, Stream, Takes, TakesPart, IsTold, IsToldPart}
use Rattle.reports_lib.specs.Answer.{Answer, remark}
use Rattle.reports_lib.specs.PieceLines.{layout_lines, piece_lines}
use Rattle.lexdfa_lib.specs.declared.layout.LineForm.{LineForm}
use Rattle.pieces_lib.specs.Console.{Console, Says, Answers, Begins, Fails}
use Rattle.pieces_lib.specs.TextAnswer.{cut_status, cut_text, CutAnswer, CutPart, lines_of}
use Rattle.pieces_lib.specs.Written.{WritesCut, WritesCutPart}
use Rattle.pieces_lib.specs.Tasks.{ReadAnswer, EitherAnswer}
use Rattle.pieces_lib.specs.declared.cut_end.CutEnd.{CutEnd}
use Rattle.lexdfa_lib.proofs.StreamLaws.{takes_part, told_part_first, told_part_nothing}

-- the name, if it is wanted
then_some-now : (wanted : Bool) (name : Bor (List ℕ)) → option_map (λ (f : Bor (List ℕ)). f.now) (then_some wanted name) ≡ then_some wanted name.now
then_some-now true name = refl
then_some-now false name = refl

-- the lines name the file, if there are several
pub same_lines : (rules : ModeRules) (form : LineForm) (recovers several : Bool) (name : Bor (List ℕ)) (file : Option (Bor (List ℕ))) (modes : Bor (List (String Global))) (names : List (List ℕ))
    → file ≡ then_some several name → map string_bytes modes.now ≡ names → (text : List ℕ) (xs : List Piece)
    → layout_lines (record { form = form; recovers = recovers; file = file; modes = modes }) rules text xs ≡ lines_of rules names form recovers several name.now text xs
same_lines rules form recovers several name file modes names file_is modes_is text xs =
    ap (λ (f : Option (List ℕ)). piece_lines form recovers f (map string_bytes modes.now) rules text start xs)
    (ap (option_map (λ (f : Bor (List ℕ)). f.now)) file_is ∙ then_some-now several name)
    ∙ ap (λ (ms : List (List ℕ)). piece_lines form recovers (then_some several name.now) ms rules text start xs) modes_is

-- where something is said of a status
pub where_ok : {E : Type 0} (r : Result ℕ E) (P Q : ℕ → Type 0) (S : Type 0) → ((status : ℕ) → P status → S → Q status) → IfOk r P → OnOk r S → IfOk r Q
where_ok (Ok status) P Q S then p s = then status p s
where_ok (Err e) P Q S then p s = tt

abbrev Lines : Type 0
Lines = List ℕ → List Piece → List ℕ

abbrev told_end : List (List ℕ) → Lines → List ℕ → List ℕ → List Piece → CutEnd → Answer
told_end modes out file text xs ended = record { status = cut_status ended; out = out text xs; err = cut_text modes file ended }

-- `out` is what was written, and `of_file` what is wanted for a file with a name
module _ (rules : ModeRules) (modes : List (List ℕ)) (recovers : Bool) (out : Lines) (of_file : List ℕ → Lines) (file : List ℕ) (Gives_it : Reading → Type 0)
    (same : (text : List ℕ) (xs : List Piece) → out text xs ≡ of_file file text xs) where
  abbrev Whole : List ℕ → Reading → Answer → Type 0
  Whole name = CutAnswer rules modes recovers (of_file name) name

  abbrev Part : List ℕ → Reading → Answer → Type 0
  Part name = CutPart rules recovers (of_file name)

  -- a part of the pieces was written
  pub cut_part : (a b : Console) (e : RunError) → (reading : Reading) × (Gives_it reading × WritesCutPart rules recovers out reading a e b)
      → Fails (ReadAnswer Gives_it (EitherAnswer Whole Part file)) a e b
  cut_part a b e (reading, (gives, (text, (left, (xs, (c, (begins, (given, (part, quiet))))))))) = (
    record { status = 0; out = of_file file text xs; err = [] },
    (
      inr (reading, (gives, inr (text, (left, (xs, (c, (begins, (given, refl)))))))),
      (
        subst (λ (l : List ℕ). TakesPart a.out l e b.out) (same text xs) part,
        subst (λ (s : Stream). IsToldPart a.err [] s) (sym quiet) (told_part_nothing a.err []),
      ),
    ),
  )

  -- all of them were, and then how cutting ended was said
  pub cut_answered : (a m b : Console) (ended : CutEnd) (status : ℕ) → (reading : Reading) × (Gives_it reading × WritesCut rules recovers out reading a m ended)
      → status ≡ cut_status ended → Says m (cut_text modes file ended) b → Answers (ReadAnswer Gives_it (Whole file)) a status b
  cut_answered a m b ended status (reading, (gives, (xs, (cut, (takes, quiet))))) is (told, unwritten) =
      let text = without_mark reading.bytes in (
        told_end modes (of_file file) file text xs ended,
        (
          (reading, (gives, (xs, (ended, (cut, refl))))),
          (
            is,
            record {
              out = subst (λ (s : Stream). Takes a.out (of_file file text xs) s) (sym unwritten) (subst (λ (l : List ℕ). Takes a.out l m.out) (same text xs) takes);
              err = subst (λ (s : Stream). IsTold s (cut_text modes file ended) b.err) quiet told;
            },
          ),
        ),
      )

  -- or it was said in part
  pub cut_untold : (a m b : Console) (ended : CutEnd) (e : RunError) → (reading : Reading) × (Gives_it reading × WritesCut rules recovers out reading a m ended)
      → Fails (λ x. x ≡ remark (cut_text modes file ended)) m e b → Fails (ReadAnswer Gives_it (EitherAnswer Whole Part file)) a e b
  cut_untold a m b ended e (reading, (gives, (xs, (cut, (takes, quiet))))) (x, (begins, (part, told))) =
      let text = without_mark reading.bytes in (
        told_end modes (of_file file) file text xs ended,
        (
          inr (reading, (gives, inl (xs, (ended, (cut, refl))))),
          (
            subst (λ (l : List ℕ). TakesPart a.out l e b.out) (same text xs)
                (subst (λ (l : List ℕ). TakesPart a.out l e b.out) (append-nil (out text xs)) (takes_part a.out m.out b.out (out text xs) [] e takes (written x begins part))),
            subst (λ (s : Stream). IsToldPart s (cut_text modes file ended) b.err) quiet (said x begins told),
          ),
        ),
      )
    where
      written : (x : Answer) → Begins (λ y. y ≡ remark (cut_text modes file ended)) x → TakesPart m.out x.out e b.out → TakesPart m.out [] e b.out
      written x (inl none) p = subst (λ (y : Answer). TakesPart m.out y.out e b.out) none p
      written x (inr is) p = subst (λ (y : Answer). TakesPart m.out y.out e b.out) is p

      said : (x : Answer) → Begins (λ y. y ≡ remark (cut_text modes file ended)) x → IsToldPart m.err x.err b.err → IsToldPart m.err (cut_text modes file ended) b.err
      said x (inl none) p = told_part_first m.err b.err [] (cut_text modes file ended) (subst (λ (y : Answer). IsToldPart m.err y.err b.err) none p)
      said x (inr is) p = subst (λ (y : Answer). IsToldPart m.err y.err b.err) is p
