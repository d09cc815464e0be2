-- What is written for a whole text: lines, or a page.
use Rattle.std.proofs.Common.{◌≡◌, ℕ, Bool, true, List, [], refl, sym, ap, subst, ◌∙◌}
use Rattle.std.specs.Prelude.{Result, Ok, Err, IfOk, IfErr}
use Rattle.bajofeki.specs.Chunked.{nothing_come, nothing}
use Rattle.lalrpop_rule_file.specs.RuleFile.{without_mark}
use Rattle.lalrpop_rules.specs.Modes.{ModeRules}
use Rattle.lalrpop_rules.specs.declared.piece.Piece.{Piece}
use Rattle.lexdfa_lib.specs.declared.error.RunError.{RunError}
use Rattle.lexdfa_lib.specs.declared.error.RunError.TheVariants.{OutOfMemory}
use Rattle.lexdfa_lib.specs.Streams.{Reading, LeftOff, Reads, Stream}
use Rattle.reports_lib.specs.PieceLines.{layout_lines}
use Rattle.lexdfa_lib.specs.declared.layout.Layout.{Layout}
use Rattle.pieces_lib.specs.Console.{Console, Writes, WritesPart}
use Rattle.pieces_lib.specs.CutEnds.{AreGiven, IsCutTo}
use Rattle.pieces_lib.specs.TextAnswer.{page_of}
use Rattle.pieces_lib.specs.Internal.CutTexts.{IsPageForm, goes_on, shown}
use Rattle.pieces_lib.specs.Written.{WritesCut, WritesCutPart}
use Rattle.lexdfa_lib.specs.declared.command.Markup.{Markup}
use Rattle.lexdfa_lib.specs.declared.command.Markup.TheVariants.{Html as MarkupHtml, Ansi as MarkupAnsi}
use Rattle.pieces_lib.specs.declared.cut_end.CutEnd.{CutEnd}
use Rattle.pieces_lib.specs.declared.sheet.Form.{Form}
use Rattle.pieces_lib.specs.declared.sheet.Form.TheVariants.{Lines, Html, Ansi}
use Rattle.pieces_lib.proofs.ComingLaws.{WritesAll, WritesSome}
use Rattle.pieces_lib.proofs.PieceLines.{ansi_shown, html_shown, lines_shown}
use Rattle.lexdfa_lib.proofs.StreamLaws.{reads_none}
use Rattle.pieces_lib.proofs.AnswerLaws.{writes_front, writes_none}

-- ---- the same bytes

module _ (s t : Stream) (old new : Console) (rules : ModeRules) (recovers : Bool) (out : List ℕ → List Piece → List ℕ) where
  -- what was read, and what was written for it
  abbrev pub IsWritten : CutEnd → Type 0
  IsWritten ended = (reading : Reading) × (Reads s t reading × WritesCut rules recovers out reading old new ended)

  -- the same until an error
  abbrev pub IsWrittenPart : RunError → Type 0
  IsWrittenPart error = (reading : Reading) × (Reads s t reading × WritesCutPart rules recovers out reading old error new)

  module _ (f : Form) (goes : goes_on f ≡ recovers) (same : (text : List ℕ) (xs : List Piece) → shown f rules text xs ≡ out text xs) where
    whole_so : (ended : CutEnd) → WritesAll f rules s t old new ended → IsWritten ended
    whole_so ended (reading, (reads, (xs, (cut, writes)))) =
        let text = without_mark reading.bytes in (
          reading,
          (
            reads,
            (
              xs,
              (
                subst (λ (b : Bool). IsCutTo rules b reading text xs ended) goes cut,
                subst (λ (l : List ℕ). Writes old l new) (same text xs) writes,
              ),
            ),
          ),
        )

    part_so : (error : RunError) → WritesSome f rules s t old error new → IsWrittenPart error
    part_so error (reading, (reads, (text, (left, (xs, (c, (begins, (are, part)))))))) = (
      reading,
      (
        reads,
        (
          text,
          (
            left,
            (
              xs,
              (
                c,
                (
                  begins,
                  (
                    subst (λ (b : Bool). AreGiven rules b reading text xs c) goes are,
                    subst (λ (l : List ℕ). WritesPart old l error new) (same text xs) part,
                  ),
                ),
              ),
            ),
          ),
        ),
      ),
    )

    -- by the same rules
    pub ok_so : (r : ModeRules) → r ≡ rules → (result : Result CutEnd RunError)
        → IfOk result (λ ended. WritesAll f r s t old new ended) → IfOk result (λ ended. IsWritten ended)
    ok_so r same_rules (Err error) h = tt
    ok_so r same_rules (Ok ended) h = whole_so ended (subst (λ (q : ModeRules). WritesAll f q s t old new ended) same_rules h)

    pub err_so : (r : ModeRules) → r ≡ rules → (result : Result CutEnd RunError)
        → IfErr result (λ error. WritesSome f r s t old error new) → IfErr result (λ error. IsWrittenPart error)
    err_so r same_rules (Ok ended) h = tt
    err_so r same_rules (Err error) h = part_so error (subst (λ (q : ModeRules). WritesSome f q s t old error new) same_rules h)

-- memory is refused before anything is read
pub none_written : (s : Stream) (a : Console) (rules : ModeRules) (recovers : Bool) (out : List ℕ → List Piece → List ℕ) (error : RunError) → error ≡ OutOfMemory
    → IsWrittenPart s s a a rules recovers out error
none_written s a rules recovers out error refused = (
  record { bytes = []; end = LeftOff },
  (
    reads_none s,
    (
      [],
      (
        [],
        (
          [],
          (
            nothing_come rules,
            (
              refl,
              (
                record { came = nothing; ended = λ over. absurd (cc (over)); no_fault = λ _. refl },
                subst (λ (e : RunError). WritesPart a (out [] []) e a) (sym refused) (writes_front a a [] (out [] []) (writes_none a)),
              ),
            ),
          ),
        ),
      ),
    ),
  ),
)

-- ---- lines

pub lines_so : (layout : Layout) (rules : ModeRules) (f : Form) → f ≡ Lines layout → (text : List ℕ) (xs : List Piece)
    → shown f rules text xs ≡ layout_lines layout rules text xs
lines_so layout rules f same text xs = ap (λ (g : Form). shown g rules text xs) same ∙ lines_shown layout rules text xs

-- ---- a page

goes_so : (form : Form) (markup : Markup) (names : List (List ℕ)) → IsPageForm form markup names → goes_on form ≡ true
goes_so (Lines layout) markup names is = absurd is
goes_so Html markup names is = refl
goes_so (Ansi painter) markup names is = refl

pub page_goes_on : (form : Form) (markup : Markup) (names : List (List ℕ)) → IsPageForm form markup names → (f : Form) → f ≡ form → goes_on f ≡ true
page_goes_on form markup names is f same = ap goes_on same ∙ goes_so form markup names is

page_shown : (form : Form) (markup : Markup) (rules : ModeRules) → IsPageForm form markup rules.names → (text : List ℕ) (xs : List Piece)
    → shown form rules text xs ≡ page_of markup rules.names xs
page_shown (Lines layout) markup rules is text xs = absurd is
page_shown Html MarkupHtml rules is text xs = html_shown rules text xs
page_shown Html MarkupAnsi rules is text xs = absurd is
page_shown (Ansi painter) MarkupHtml rules is text xs = absurd is
page_shown (Ansi painter) MarkupAnsi rules is text xs = ansi_shown painter rules text xs ∙ ap (λ (names : List (List ℕ)). page_of MarkupAnsi names xs) is

pub page_so : (form : Form) (markup : Markup) (rules : ModeRules) → IsPageForm form markup rules.names → (f : Form) → f ≡ form → (text : List ℕ) (xs : List Piece)
    → shown f rules text xs ≡ page_of markup rules.names xs
page_so form markup rules is f same text xs = ap (λ (g : Form). shown g rules text xs) same ∙ page_shown form markup rules is text xs
