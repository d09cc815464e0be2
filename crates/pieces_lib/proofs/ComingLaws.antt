-- A text that comes, from one read to the next.
use Rattle.std.proofs.Common.{◌≡◌, ℕ, inl, inr, Bool, true, false, List, [], ◌∷◌, ◌++◌, refl, sym, ap, subst, ◌∙◌, append-nil, append_assoc}
use Rattle.std.specs.Prelude.{Option, Some, None, is_some, map, reverse}
use Rattle.bajofeki.specs.Chunked.{Chunked, BeginsFault, Came}
use Rattle.bajofeki.proofs.ChunkLaws.{came_pieces, came_rest}
use Rattle.bajofeki_rules.specs.Position.{byte_place_of}
use Rattle.lalrpop_rules.specs.Modes.{ModeRules}
use Rattle.lalrpop_rule_file.specs.RuleFile.{without_mark}
use Rattle.lalrpop_rules.specs.Pieces.{joined}
use Rattle.lalrpop_rules.specs.declared.piece.Piece.{Piece}
use Rattle.lexdfa_lib.specs.declared.error.RunError.{RunError}
use Rattle.lexdfa_lib.specs.declared.error.RunError.TheVariants.{OutOfMemory}
use Rattle.lexdfa_lib.specs.Streams.{Reading, ReadEnd, AtEnd, Failed, LeftOff, Reads, Stream}
use Rattle.pieces_lib.specs.Console.{Console, Writes}
use Rattle.pieces_lib.specs.CutEnds.{AreGiven, IsCutTo}
use Rattle.pieces_lib.specs.OpenModes.{open_behind, open_mode}
use Rattle.pieces_lib.specs.Internal.CutTexts.{Comes, GivesAll, HasCome, IsAsBefore, IsCutInto, IsGiven, IsGivenInPart, end_by, goes_on, open_place, shown}
use Rattle.pieces_lib.specs.Written.{WritesCut, WritesCutPart}
use Rattle.pieces_lib.specs.Internal.Incoming.{BeginsMark, EndsBy, IsFed, IsIncoming, ReadsOn}
use Rattle.pieces_lib.specs.declared.cut_end.CutEnd.{CutEnd}
use Rattle.pieces_lib.specs.declared.cut_end.CutEnd.TheVariants.{Whole, Stopped, Unread}
use Rattle.pieces_lib.specs.declared.cutter.Cutter.{Cutter}
use Rattle.pieces_lib.specs.declared.incoming.Brought.{Brought}
use Rattle.pieces_lib.specs.declared.incoming.Brought.TheVariants.{More, Nothing, Failure}
use Rattle.pieces_lib.specs.declared.incoming.Incoming.{Incoming}
use Rattle.pieces_lib.specs.declared.sheet.Form.{Form}
use Rattle.pieces_lib.proofs.CutLaws.{IsSameCut, into_fed, into_whole, place_within}
use Rattle.pieces_lib.proofs.PieceSending.{all_sent, part_so_far, sent_same}
use Rattle.pieces_lib.proofs.PieceLines.{shown_stays}
use Rattle.lexdfa_lib.proofs.StreamLaws.{reads_again}

-- ---- what has come

-- the text that has come begins more bytes too
front_stays : (bytes text more : List ℕ) (i : Incoming) → IsIncoming bytes text i → (left : List ℕ) × (without_mark (bytes ++ more) ≡ text ++ left)
front_stays bytes text more i is = by i.has_begun refl
  where
    by : (b : Bool) → i.has_begun ≡ b → (left : List ℕ) × (without_mark (bytes ++ more) ≡ text ++ left)
    by true begun = (more, is.begun begun more)
    by false not_yet = (without_mark (bytes ++ more), ap (λ (l : List ℕ). l ++ without_mark (bytes ++ more)) (sym (is.back not_yet).0))

-- where a fault begins, all of the text has come
all_at_fault : (rules : ModeRules) (bytes text : List ℕ) (xs : List Piece) (i : Incoming) (c : Chunked) → IsIncoming bytes text i → Came rules text xs c → BeginsFault c → without_mark bytes ≡ text
all_at_fault rules bytes text xs i c is came fault = by i.has_begun refl
  where
    none_behind : (front rest : List ℕ) → [] ≡ front ++ rest → rest ≡ []
    none_behind [] rest e = sym e
    none_behind (x ∷ front) rest e = absurd (cc (e))

    by : (b : Bool) → i.has_begun ≡ b → without_mark bytes ≡ text
    by true begun = ap without_mark (sym (append-nil bytes)) ∙ is.begun begun [] ∙ append-nil text
    by false not_yet = absurd (fault.0 (none_behind (joined xs) c.rest (sym (is.back not_yet).0 ∙ (came_rest rules text xs c came).0)))

-- what has come is the same, whatever the chunks are
incoming_again : (bytes text : List ℕ) (c d : Cutter) → IsAsBefore c d → IsIncoming bytes text c.incoming → IsIncoming bytes text d.incoming
incoming_again bytes text c d same is = record {
  back = λ not_yet.
      let back = is.back (sym same.begun ∙ not_yet) in
      (back.0, subst (λ f. (bytes ≡ f.items) × BeginsMark f.items) (sym same.front) back.1);
  begun = λ begun. is.begun (sym same.begun ∙ begun);
}

same_some : {T : Type 0} {a b : T} → ◌≡◌ {A = Option T} (Some a) (Some b) → a ≡ b
same_some e = cc

-- ---- the modes that are open

open_is : (text : List ℕ) (mode : ℕ) (begins : List ℕ) → open_place mode (map (byte_place_of text) begins) ≡ open_mode text mode begins
open_is text mode [] = refl
open_is text mode (at ∷ begins) = refl

-- ---- states

-- between two reads
pub record IsBetween (form : Form) (rules : ModeRules) (s t : Stream) (begun now : Console) (c : Cutter) : Type 0 where
  pub bytes : List ℕ
  pub text : List ℕ
  pub xs : List Piece
  pub reads : Reads s t (record { bytes = bytes; end = LeftOff })
  pub incoming : IsIncoming bytes text c.incoming
  pub given : IsGiven form rules text xs c [] begun now
  pub goes : c.incoming.chunks.is_ended ≡ false

-- more was read, and what that brought is known
pub record HasRead (form : Form) (rules : ModeRules) (s t : Stream) (begun now : Console) (c : Cutter) (brought : Brought) : Type 0 where
  pub bytes : List ℕ
  pub end : ReadEnd
  pub text : List ℕ
  pub xs : List Piece
  pub reads : Reads s t (record { bytes = bytes; end = end })
  pub given : IsGiven form rules text xs c [] begun now
  pub come : HasCome end bytes text c brought

-- what was read, and what was written for it
abbrev pub WritesAll : Form → ModeRules → Stream → Stream → Console → Console → CutEnd → Type 0
WritesAll form rules s t begun now ended =
    (reading : Reading) × (Reads s t reading × WritesCut rules (goes_on form) (shown form rules) reading begun now ended)

-- the same until an error
abbrev pub WritesSome : Form → ModeRules → Stream → Stream → Console → RunError → Console → Type 0
WritesSome form rules s t begun error now =
    (reading : Reading) × (Reads s t reading × WritesCutPart rules (goes_on form) (shown form rules) reading begun error now)

module _ (form : Form) (rules : ModeRules) (s t u : Stream) (begun now : Console) (c : Cutter) (is : IsBetween form rules s t begun now c) where
  -- a read
  pub has_read : (d : Cutter) (brought : Brought) → Comes rules t u c d brought → HasRead form rules s u begun now d brought
  has_read d brought (more, (end, (reads, brings))) =
      let come = brings is.bytes is.text is.xs is.incoming is.given.cut in
      let chunk = come.0 in record {
        bytes = is.bytes ++ more;
        end = end;
        text = is.text ++ chunk;
        xs = is.xs;
        reads = reads_again s t u is.bytes more end is.reads reads;
        given = record {
          cut = come.1.0;
          no_fault = is.given.no_fault;
          written =
              sent_same (shown form rules is.text is.xs) (shown form rules (is.text ++ chunk) is.xs) [] begun now
              (sym (shown_stays form rules is.text chunk c.incoming.chunks.at is.xs (place_within rules is.text is.xs c.incoming.chunks is.given.cut.came) is.given.cut.begin))
              is.given.written;
        };
        come = come.1.1;
      }

  -- a read that is lost, or none
  pub lost : (reading : Reading) (error : RunError) → error ≡ OutOfMemory → Reads t u reading → WritesSome form rules s u begun error now
  lost reading error refused reads =
      let front = front_stays is.bytes is.text reading.bytes c.incoming is.incoming in (
        record { bytes = is.bytes ++ reading.bytes; end = reading.end },
        (
          reads_again s t u is.bytes reading.bytes reading.end is.reads reads,
          (
            is.text,
            (
              front.0,
              (
                is.xs,
                (
                  c.incoming.chunks,
                  (
                    front.1,
                    (
                      record { came = is.given.cut.came; ended = λ over. absurd (cc (is.goes, over)); no_fault = is.given.no_fault },
                      part_so_far (shown form rules is.text is.xs) [] begun now error refused is.given.written,
                    ),
                  ),
                ),
              ),
            ),
          ),
        ),
      )

-- the text has ended only where reading has
ends_so : (end : ReadEnd) (bytes text : List ℕ) (c : Cutter) (brought : Brought) → HasCome end bytes text c brought → c.incoming.chunks.is_ended ≡ true → end ≡ AtEnd
ends_so end bytes text c More come over = absurd (cc (come.1.1, over))
ends_so end bytes text c Nothing come over = come.0
ends_so end bytes text c Failure come over = absurd (cc (come.1.1, over))

-- the text that has come begins what was read
come_front : (end : ReadEnd) (bytes text : List ℕ) (c : Cutter) (brought : Brought) → HasCome end bytes text c brought → (left : List ℕ) × (without_mark bytes ≡ text ++ left)
come_front end bytes text c More come =
    let front = front_stays bytes text [] c.incoming come.1.0 in
    (front.0, ap without_mark (sym (append-nil bytes)) ∙ front.1)
come_front end bytes text c Nothing come = ([], come.1.0 ∙ sym (append-nil text))
come_front end bytes text c Failure come = ([], come.1.0 ∙ sym (append-nil text))

-- and is all of it at a fault
come_all : (rules : ModeRules) (end : ReadEnd) (bytes text : List ℕ) (xs : List Piece) (c : Cutter) (d : Chunked) (brought : Brought) → HasCome end bytes text c brought
    → Came rules text xs d → BeginsFault d → without_mark bytes ≡ text
come_all rules end bytes text xs c d More come came fault = all_at_fault rules bytes text xs c.incoming d come.1.0 came fault
come_all rules end bytes text xs c d Nothing come came fault = come.1.0
come_all rules end bytes text xs c d Failure come came fault = come.1.0

module _ (form : Form) (rules : ModeRules) (s t : Stream) (begun now : Console) (c : Cutter) (brought : Brought)
    (is : HasRead form rules s t begun now c brought) where
  abbrev reading : Reading
  reading = record { bytes = is.bytes; end = is.end }

  -- an error while pieces are given
  pub in_part : (error : RunError) (later : Console) (ys : List Piece) (d : Chunked) → IsGivenInPart form rules is.text ys d begun error later
      → d.is_ended ≡ c.incoming.chunks.is_ended → WritesSome form rules s t begun error later
  in_part error later ys d part same =
      let front = come_front is.end is.bytes is.text c brought is.come in (
        reading,
        (
          is.reads,
          (
            is.text,
            (
              front.0,
              (
                ys,
                (
                  d,
                  (
                    front.1,
                    (
                      record { came = part.came; ended = λ over. ends_so is.end is.bytes is.text c brought is.come (sym same ∙ over); no_fault = part.no_fault },
                      part.part,
                    ),
                  ),
                ),
              ),
            ),
          ),
        ),
      )

  -- pieces were cut of all the text
  writes_so : (later : Console) (ys : List Piece) (ended : CutEnd) → without_mark is.bytes ≡ is.text → IsCutTo rules (goes_on form) reading is.text ys ended
      → Writes begun (shown form rules is.text ys) later → WritesAll form rules s t begun later ended
  writes_so later ys ended all cut written = (
    reading,
    (
      is.reads,
      (
        ys,
        (
          subst (λ (l : List ℕ). IsCutTo rules (goes_on form) reading l ys ended) (sym all) cut,
          subst (λ (l : List ℕ). Writes begun (shown form rules l ys) later) (sym all) written,
        ),
      ),
    ),
  )

  -- cutting ends at a fault
  pub at_a_fault : (later : Console) (d : Cutter) (ended : CutEnd) → GivesAll form rules is.text c d [] begun later (Some ended)
      → WritesAll form rules s t begun later ended
  at_a_fault later d ended (ys, (e, (stops, (sent, same)))) =
      let cut : IsCutTo rules (goes_on form) reading is.text ys (Stopped (byte_place_of is.text e.at) stops.found) = (
        stops.ends,
        (
          e,
          (
            record {
              came = stops.came;
              ended = λ over. ends_so is.end is.bytes is.text c brought is.come (sym same ∙ over);
              no_fault = λ _. stops.no_fault;
            },
            (stops.fault, (refl, stops.shows)),
          ),
        ),
      ) in
      writes_so later ys ended (come_all rules is.end is.bytes is.text ys c e brought is.come stops.came stops.fault)
      (subst (IsCutTo rules (goes_on form) reading is.text ys) (sym stops.ended_is) cut) (all_sent (shown form rules is.text ys) begun later sent)

  -- all pieces were given that can be
  module _ (later : Console) (d : Cutter) (gives : GivesAll form rules is.text c d [] begun later None) where
    -- and more may come
    pub goes_further : (result : Option CutEnd) → result ≡ end_by d brought → result ≡ None → IsBetween form rules s t begun later d
    goes_further result told none_told = by brought is.come (sym told ∙ none_told)
      where
        by : (k : Brought) → HasCome is.end is.bytes is.text c k → end_by d k ≡ None → IsBetween form rules s t begun later d
        by More come none =
            let before = gives.1.1.1 in record {
              bytes = is.bytes;
              text = is.text;
              xs = gives.0;
              reads = subst (λ (e : ReadEnd). Reads s t (record { bytes = is.bytes; end = e })) come.0 is.reads;
              incoming = incoming_again is.bytes is.text c d before come.1.0;
              given = gives.1.0;
              goes = before.ended ∙ come.1.1;
            }
        by Nothing come none = absurd (cc (none))
        by Failure come none = absurd (cc (none))

    written : Writes begun (shown form rules is.text gives.0) later
    written = all_sent (shown form rules is.text gives.0) begun later gives.1.0.written

    -- it ends
    at_its_end : is.end ≡ AtEnd → without_mark is.bytes ≡ is.text → c.incoming.chunks.is_ended ≡ true
        → WritesAll form rules s t begun later (Whole d.has_fault (open_place d.incoming.chunks.stack.mode (reverse d.places.items)))
    at_its_end end all ends =
        let cut = gives.1.0.cut in
        let mode = d.incoming.chunks.stack.mode in
        let over : d.incoming.chunks.is_ended ≡ true = gives.1.1.1.ended ∙ ends in
        let pieces = came_pieces rules is.text gives.0 d.incoming.chunks cut.came over (gives.1.1.0.held.0 over) in
        let inside : open_place mode (reverse d.places.items) ≡ open_mode is.text mode (open_behind rules.actions gives.0 []) =
        ap (open_place mode) cut.places ∙ open_is is.text mode (open_behind rules.actions gives.0 []) in
        writes_so later gives.0 (Whole d.has_fault (open_place mode (reverse d.places.items))) all
        (end, (d.incoming.chunks.stack, (pieces, (cut.fault, ((λ stops. cut.fault ∙ ap is_some (gives.1.0.no_fault stops)), inside))))) written

    -- a read failed
    at_a_failure : is.end ≡ Failed → without_mark is.bytes ≡ is.text → c.incoming.chunks.is_ended ≡ false → WritesAll form rules s t begun later Unread
    at_a_failure end all going =
        let goes : d.incoming.chunks.is_ended ≡ false = gives.1.1.1.ended ∙ going in
        let given : AreGiven rules (goes_on form) reading is.text gives.0 d.incoming.chunks =
        record { came = gives.1.0.cut.came; ended = λ over. absurd (cc (goes, over)); no_fault = gives.1.0.no_fault } in
        writes_so later gives.0 Unread all (end, (d.incoming.chunks, (given, (goes, (gives.1.1.0.held, gives.1.1.0.may))))) written

    -- or no more comes
    pub ends_at_last : (result : Option CutEnd) (ended : CutEnd) → result ≡ end_by d brought → result ≡ Some ended → WritesAll form rules s t begun later ended
    ends_at_last result ended told some_told = by brought is.come (sym told ∙ some_told)
      where
        by : (k : Brought) → HasCome is.end is.bytes is.text c k → end_by d k ≡ Some ended → WritesAll form rules s t begun later ended
        by More come e = absurd (cc (e))
        by Nothing come e = subst (WritesAll form rules s t begun later) (same_some e) (at_its_end come.0 come.1.0 come.1.1)
        by Failure come e = subst (WritesAll form rules s t begun later) (same_some e) (at_a_failure come.0 come.1.0 come.1.1)

-- ---- what a read brought

-- the text that is cut, with what has come now
abbrev pub with_incoming : Cutter → Incoming → Cutter
with_incoming c mid = record c { incoming = mid }

fed_goes : (c d : Chunked) (chunk : List ℕ) → IsFed c chunk d → c.is_ended ≡ false → d.is_ended ≡ false
fed_goes c d chunk (inl more) goes = ap (λ (e : Chunked). e.is_ended) more ∙ goes
fed_goes c d chunk (inr (none, same)) goes = ap (λ (e : Chunked). e.is_ended) same ∙ goes

same_cut : (c d : Cutter) (i : Incoming) → d ≡ with_incoming c i → IsSameCut c d
same_cut c d i same = record {
  lexer = ap (λ (e : Cutter). e.lexer) same;
  at = ap (λ (e : Cutter). e.at) same;
  here = ap (λ (e : Cutter). e.here) same;
  fault = ap (λ (e : Cutter). e.has_fault) same;
  places = ap (λ (e : Cutter). e.places) same;
}

module _ (c : Cutter) (mid : Incoming) (s t : Stream) (end : ReadEnd) (goes : c.incoming.chunks.is_ended ≡ false) (read : ReadsOn s t end c.incoming mid) where
  still_goes : mid.chunks.is_ended ≡ false
  still_goes = fed_goes c.incoming.chunks mid.chunks read.1.1.0 read.1.1.1.0 goes

  module _ (bytes text : List ℕ) (xs : List Piece) (incoming : IsIncoming bytes text c.incoming) (cut : IsCutInto c.lexer.now text xs c) where
    abbrev now_text : List ℕ
    now_text = text ++ read.1.1.0

    now_incoming : IsIncoming (bytes ++ read.0) now_text mid
    now_incoming = read.1.1.1.1 bytes text incoming

    now_cut : IsCutInto c.lexer.now now_text xs (with_incoming c mid)
    now_cut = into_fed c.lexer.now text read.1.1.0 xs c (with_incoming c mid) cut (same_cut c (with_incoming c mid) mid refl) goes read.1.1.1.0

  -- more may come
  pub comes_more : end ≡ LeftOff → Comes c.lexer.now s t c (with_incoming c mid) More
  comes_more left = (
    read.0,
    (
      end,
      (
        read.1.0,
        λ bytes text xs incoming cut. (read.1.1.0, (now_cut bytes text xs incoming cut, (left, (now_incoming bytes text xs incoming cut, still_goes)))),
      ),
    ),
  )

  -- what was held back comes last
  module _ (last : Incoming) (ends : EndsBy mid last) where
    last_goes : last.chunks.is_ended ≡ false
    last_goes = fed_goes mid.chunks last.chunks ends.0 ends.1.0 still_goes

    module _ (bytes text : List ℕ) (xs : List Piece) (incoming : IsIncoming bytes text c.incoming) (cut : IsCutInto c.lexer.now text xs c) where
      abbrev later : List ℕ
      later = (text ++ read.1.1.0) ++ ends.0

      abbrev whole : List ℕ
      whole = text ++ (read.1.1.0 ++ ends.0)

      joins : later ≡ whole
      joins = append_assoc text read.1.1.0 ends.0

      all_come : without_mark (bytes ++ read.0) ≡ whole
      all_come = ends.1.1 (bytes ++ read.0) (text ++ read.1.1.0) (now_incoming bytes text xs incoming cut) ∙ joins

      last_cut : IsCutInto c.lexer.now whole xs (with_incoming c last)
      last_cut =
          subst (λ (l : List ℕ). IsCutInto c.lexer.now l xs (with_incoming c last)) joins
          (into_fed c.lexer.now (text ++ read.1.1.0) ends.0 xs (with_incoming c mid) (with_incoming c last) (now_cut bytes text xs incoming cut)
          (same_cut (with_incoming c mid) (with_incoming c last) last refl) still_goes ends.1.0)

    -- a read failed
    pub comes_to_failure : end ≡ Failed → Comes c.lexer.now s t c (with_incoming c last) Failure
    comes_to_failure failed = (
      read.0,
      (
        end,
        (
          read.1.0,
          λ bytes text xs incoming cut. (
            read.1.1.0 ++ ends.0,
            (last_cut bytes text xs incoming cut, (failed, (all_come bytes text xs incoming cut, last_goes))),
          ),
        ),
      ),
    )

    -- nothing more comes
    pub comes_whole : (done : Incoming) → end ≡ AtEnd → done.chunks ≡ record last.chunks { is_ended = true } → Comes c.lexer.now s t c (with_incoming c done) Nothing
    comes_whole done at_end over = (
      read.0,
      (
        end,
        (
          read.1.0,
          λ bytes text xs incoming cut. (
            read.1.1.0 ++ ends.0,
            (
              into_whole c.lexer.now (text ++ (read.1.1.0 ++ ends.0)) xs (with_incoming c last) (with_incoming c done) (last_cut bytes text xs incoming cut)
                  (same_cut (with_incoming c last) (with_incoming c done) done refl) over,
              (at_end, (all_come bytes text xs incoming cut, ap (λ (e : Chunked). e.is_ended) over)),
            ),
          ),
        ),
      ),
    )

-- ---- the same of the same form and rules

module _ (f g : Form) (r s : ModeRules) (same_form : f ≡ g) (same_rules : r ≡ s) (text : List ℕ) (xs : List Piece) (c : Cutter) (waiting : List ℕ) (begun a b : Console)
    (none : waiting ≡ []) where
  -- what giving gives
  pub gives_so : (d : Cutter) (now : List ℕ) (ended : Option CutEnd) → (IsGiven f r text xs c waiting begun a → GivesAll f r text c d now begun b ended)
      → IsGiven g s text xs c [] begun a → GivesAll g s text c d now begun b ended
  gives_so d now ended h =
      subst (λ (w : List ℕ). IsGiven g s text xs c w begun a → GivesAll g s text c d now begun b ended) none
      (subst (λ (e : Form). IsGiven e s text xs c waiting begun a → GivesAll e s text c d now begun b ended) same_form
      (subst (λ (q : ModeRules). IsGiven f q text xs c waiting begun a → GivesAll f q text c d now begun b ended) same_rules h))

  -- and before an error
  module _ (error : RunError) where
    abbrev Part : Form → ModeRules → List ℕ → Type 0
    Part e q w = IsGiven e q text xs c w begun a → (ys : List Piece) × ((d : Chunked) × (IsGivenInPart e q text ys d begun error b × (d.is_ended ≡ c.incoming.chunks.is_ended)))

    pub part_so : Part f r waiting → Part g s []
    part_so h =
        subst (λ (w : List ℕ). Part g s w) none (subst (λ (e : Form). Part e s waiting) same_form (subst (λ (q : ModeRules). Part f q waiting) same_rules h))
