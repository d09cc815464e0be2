-- Pieces that are given one after another, and written.
use Rattle.std.proofs.Common.{◌≡◌, ◌≢◌, ℕ, ◌<◌, ◌⊎◌, true, false, List, [], ◌∷◌, ◌++◌, length, drop, refl, sym, ap, subst, ◌∙◌, arith}
use Rattle.std.specs.Prelude.{Option, Some, None, Result, Ok, Err, IfErr, IfSome, IfNone, OnOk}
use Rattle.std.specs.Borrow.{Bor}
use Rattle.bajofeki.specs.Begun.{IsBegun}
use Rattle.bajofeki.specs.Chunked.{Chunked, BeginsFault, GivesFinal, MayMatch}
use Rattle.bajofeki.proofs.ChunkLaws.{fault_begins, given_less, held_after}
use Rattle.bajofeki_rules.specs.declared.position.Position.{Position}
use Rattle.lalrpop_rules.specs.Modes.{ModeRules}
use Rattle.lalrpop_rules.specs.Pieces.{slice_of}
use Rattle.lalrpop_rules.specs.declared.piece.Piece.{Piece}
use Rattle.lalrpop_rules.specs.declared.piece.Piece.TheVariants.{Token, Skipped, Fault}
use Rattle.lexdfa_lib.specs.declared.error.RunError.{RunError}
use Rattle.lexdfa_lib.specs.declared.error.RunError.TheVariants.{OutOfMemory}
use Rattle.pieces_lib.specs.Console.{Console, Writes, WritesPart}
use Rattle.pieces_lib.specs.CutEnds.{IsFound, IsFoundNext, first_fault}
use Rattle.pieces_lib.specs.Internal.CutTexts.{EndsAtFault, GivesAll, GivesCut, IsAsBefore, IsGiven, IsGivenInPart, goes_on, is_fault, piece_shown, shown}
use Rattle.pieces_lib.specs.declared.cut_end.CutEnd.{CutEnd}
use Rattle.pieces_lib.specs.declared.cut_end.CutEnd.TheVariants.{Stopped}
use Rattle.pieces_lib.specs.declared.cut_end.Found.{Found}
use Rattle.pieces_lib.specs.declared.cutter.Cutter.{Cutter}
use Rattle.pieces_lib.specs.declared.sheet.Form.{Form}
use Rattle.pieces_lib.proofs.CutLaws.{came_on, into_more, mode_here, place_here}
use Rattle.pieces_lib.proofs.FoundLaws.{found_at_fault}
use Rattle.pieces_lib.proofs.PieceLines.{shown_more}
use Rattle.pieces_lib.proofs.PieceSending.{part_more, part_so_far, part_waiting, sent_more, sent_whole}

none_more : (xs : List Piece) (x : Piece) → first_fault xs ≡ None → is_fault x ≡ false → first_fault (xs ++ x ∷ []) ≡ None
none_more [] (Token x) none other = refl
none_more [] (Skipped x) none other = refl
none_more [] (Fault begin slice) none other = absurd (cc (other))
none_more (Token y ∷ xs) x none other = none_more xs x none other
none_more (Skipped y ∷ xs) x none other = none_more xs x none other
none_more (Fault begin slice ∷ xs) x none other = absurd (cc (none))

-- at an error some pieces were given, whatever was given before
abbrev pub GivesSome : Form → ModeRules → Cutter → List ℕ → Console → Console → RunError → Type 0
GivesSome form rules c waiting old new error =
    (begun : Console) (text : List ℕ) (xs : List Piece) → IsGiven form rules text xs c waiting begun old
    → (ys : List Piece) × ((d : Chunked) × (IsGivenInPart form rules text ys d begun error new × (d.is_ended ≡ c.incoming.chunks.is_ended)))

-- one more piece changes nothing of what comes
pub as_more : (c d e : Cutter) (x : Piece) (place : Position) (mode : ℕ) → IsAsBefore c d → GivesCut d x place mode e → IsAsBefore c e
as_more c d e x place mode same gives = record {
  lexer = gives.lexer ∙ same.lexer;
  front = gives.front ∙ same.front;
  begun = gives.begun ∙ same.begun;
  ended = ap (λ (f : Chunked). f.is_ended) gives.gives.2 ∙ same.ended;
}

-- less is left
pub less_left : (c d : Cutter) (x : Piece) (place : Position) (mode : ℕ) → GivesCut c x place mode d → length d.incoming.chunks.rest < length c.incoming.chunks.rest
less_left c d x place mode gives = given_less c.incoming.chunks d.incoming.chunks x gives.gives

module _ (form : Form) (rules : ModeRules) (text : List ℕ) (ys : List Piece) (c : Cutter) (waiting : List ℕ) (begun a : Console)
    (is : IsGiven form rules text ys c waiting begun a) where
  -- an error, before more is written
  pub in_part_now : (error : RunError) → error ≡ OutOfMemory → IsGivenInPart form rules text ys c.incoming.chunks begun error a
  in_part_now error refused = record { came = is.cut.came; no_fault = is.no_fault; part = part_so_far (shown form rules text ys) waiting begun a error refused is.written }

  module _ (d : Cutter) (x : Piece) (place : Position) (mode : ℕ) (gives : GivesCut c x place mode d) where
    grows : shown form rules text (ys ++ x ∷ []) ≡ shown form rules text ys ++ piece_shown form rules.names place mode x
    grows = shown_more form rules text ys x place mode (place_here rules text ys c d x place mode is.cut gives) (mode_here rules text ys c d x place mode is.cut gives)

    -- one more piece is written
    pub one_more : (goes_on form ≡ false → is_fault x ≡ false) → (b : Console) (passed now : List ℕ) → Writes a passed b
        → waiting ++ piece_shown form rules.names place mode x ≡ passed ++ now → IsGiven form rules text (ys ++ x ∷ []) d now begun b
    one_more other b passed now h split = record {
      cut = into_more rules text ys c d x place mode is.cut gives;
      no_fault = λ ends. none_more ys x (is.no_fault ends) (other ends);
      written = sent_more (shown form rules text ys) waiting begun a b is.written (piece_shown form rules.names place mode x) passed now (shown form rules text (ys ++ x ∷ [])) grows h split;
    }

    -- or a part of it
    pub in_part_more : (goes_on form ≡ false → is_fault x ≡ false) → (error : RunError) (b : Console)
        → WritesPart a (waiting ++ piece_shown form rules.names place mode x) error b
        → IsGivenInPart form rules text (ys ++ x ∷ []) d.incoming.chunks begun error b
    in_part_more other error b h = record {
      came = came_on rules text ys c d x place mode is.cut gives;
      no_fault = λ ends. none_more ys x (is.no_fault ends) (other ends);
      part = part_more (shown form rules text ys) waiting begun a b is.written (piece_shown form rules.names place mode x) (shown form rules text (ys ++ x ∷ [])) error grows h;
    }

    fault_here : (y : Piece) → is_fault y ≡ true → GivesFinal c.incoming.chunks (Some y) d.incoming.chunks → BeginsFault c.incoming.chunks
    fault_here (Token y) fault final = absurd (cc (fault))
    fault_here (Skipped y) fault final = absurd (cc (fault))
    fault_here (Fault begin slice) fault final = fault_begins c.incoming.chunks d.incoming.chunks begin slice final

    -- or it is a fault, where cutting ends
    pub stops_at : goes_on form ≡ false → is_fault x ≡ true → (found : Found) (ended : CutEnd) → ended ≡ Stopped place found → IsFound (slice_of x) found
        → EndsAtFault form rules text ys c.incoming.chunks ended
    stops_at ends fault found ended e shown_is = record {
      came = is.cut.came;
      no_fault = is.no_fault ends;
      ends = ends;
      fault = fault_here x fault gives.gives;
      found = found;
      ended_is = e ∙ ap (λ (p : Position). Stopped p found) (gives.place_is ∙ is.cut.here);
      shows = found_at_fault c.incoming.chunks x found gives.gives.0 fault shown_is;
    }

  -- a fault begins where the next piece begins
  pub stops_next : goes_on form ≡ false → (found : Found) (ended : CutEnd) → ended ≡ Stopped c.here found → IsFoundNext c.incoming.chunks found
      → BeginsFault c.incoming.chunks → EndsAtFault form rules text ys c.incoming.chunks ended
  stops_next ends found ended e shows fault = record {
    came = is.cut.came;
    no_fault = is.no_fault ends;
    ends = ends;
    fault = fault;
    found = found;
    ended_is = e ∙ ap (λ (p : Position). Stopped p found) is.cut.here;
    shows = shows;
  }

-- no piece can be given any more
pub waits_now : (form : Form) (rules : ModeRules) (text : List ℕ) (ys : List Piece) (b c d : Cutter) (waiting : List ℕ) (begun a : Console) → IsGiven form rules text ys c waiting begun a
    → d ≡ c → GivesFinal c.incoming.chunks None d.incoming.chunks → IsAsBefore b c → (goes_on form ≡ false → IsBegun d.incoming.chunks.rest ⊎ MayMatch d.incoming.chunks)
    → GivesAll form rules text b d waiting begun a None
waits_now form rules text ys b c d waiting begun a is same none before may = (
  ys,
  (
    subst (λ (e : Cutter). IsGiven form rules text ys e waiting begun a) (sym same) is,
    (record { held = held_after c.incoming.chunks d.incoming.chunks none; may = may }, subst (IsAsBefore b) (sym same) before),
  ),
)

-- unless a fault begins there
pub waits_or_stops : (form : Form) (rules : ModeRules) (text : List ℕ) (ys : List Piece) (b c d : Cutter) (waiting : List ℕ) (begun a : Console) → IsGiven form rules text ys c waiting begun a
    → d ≡ c → GivesFinal c.incoming.chunks None d.incoming.chunks → IsAsBefore b c → goes_on form ≡ false → (ended : Option CutEnd)
    → IfSome ended (λ end. (found : Found) × ((end ≡ Stopped d.here found) × (IsFoundNext d.incoming.chunks found × BeginsFault d.incoming.chunks)))
    → IfNone ended (IsBegun d.incoming.chunks.rest ⊎ MayMatch d.incoming.chunks)
    → GivesAll form rules text b d waiting begun a ended
waits_or_stops form rules text ys b c d waiting begun a is same none before ends None fault may =
    waits_now form rules text ys b c d waiting begun a is same none before (λ _. may)
waits_or_stops form rules text ys b c d waiting begun a is same none before ends (Some ended) (found, (e, (shows, fault))) may =
    let now = subst (λ (e : Cutter). IsGiven form rules text ys e waiting begun a) (sym same) is in
    let so_far = subst (IsAsBefore b) (sym same) before in
    (ys, (d.incoming.chunks, (stops_next form rules text ys d waiting begun a now ends found ended e shows fault, (now.written, so_far.ended))))

-- a piece that is given isn't empty
pub some_slice : (c d : Cutter) (x : Piece) (place : Position) (mode : ℕ) → GivesCut c x place mode d → slice_of x ≢ []
some_slice c d x place mode gives none =
    let less = less_left c d x place mode gives in
    let all : d.incoming.chunks.rest ≡ drop (length (slice_of x)) c.incoming.chunks.rest = ap (λ (e : Chunked). e.rest) gives.gives.2 in
    omega (arith, less, ap length (all ∙ ap (λ (t : List ℕ). drop (length t) c.incoming.chunks.rest) none))

-- what is written for it by the same form and rules
pub same_piece : (f g : Form) (k l : Bor ModeRules) (place : Position) (mode : ℕ) (x : Piece) → f ≡ g → k ≡ l
    → piece_shown g l.now.names place mode x ≡ piece_shown f k.now.names place mode x
same_piece f g k l place mode x same_form same_rules =
    ap (λ (e : Form). piece_shown e l.now.names place mode x) (sym same_form) ∙ ap (λ (b : Bor ModeRules). piece_shown f b.now.names place mode x) (sym same_rules)

-- what waits is written
pub all_flushed : (form : Form) (rules : ModeRules) (text : List ℕ) (c d : Cutter) (waiting : List ℕ) (begun a b : Console) (ended : Option CutEnd)
    → GivesAll form rules text c d waiting begun a ended → Writes a waiting b → GivesAll form rules text c d [] begun b ended
all_flushed form rules text c d waiting begun a b None (ys, (is, more)) h =
    (ys, (record { cut = is.cut; no_fault = is.no_fault; written = sent_whole (shown form rules text ys) waiting begun a b is.written h }, more))
all_flushed form rules text c d waiting begun a b (Some ended) (ys, (e, (stops, (sent, same)))) h =
    (ys, (e, (stops, (sent_whole (shown form rules text ys) waiting begun a b sent h, same))))

-- or a part of it
pub part_flushed : (form : Form) (rules : ModeRules) (text : List ℕ) (c d : Cutter) (waiting : List ℕ) (begun a b : Console) (ended : Option CutEnd) (error : RunError)
    → GivesAll form rules text c d waiting begun a ended → WritesPart a waiting error b
    → (ys : List Piece) × ((e : Chunked) × (IsGivenInPart form rules text ys e begun error b × (e.is_ended ≡ c.incoming.chunks.is_ended)))
part_flushed form rules text c d waiting begun a b None error (ys, (is, (waits, same))) h = (
  ys,
  (
    d.incoming.chunks,
    (record { came = is.cut.came; no_fault = is.no_fault; part = part_waiting (shown form rules text ys) waiting begun a b is.written error h }, same.ended),
  ),
)
part_flushed form rules text c d waiting begun a b (Some ended) error (ys, (e, (stops, (sent, same)))) h =
    (ys, (e, (record { came = stops.came; no_fault = λ _. stops.no_fault; part = part_waiting (shown form rules text ys) waiting begun a b sent error h }, same)))

-- ---- one piece

-- the same bytes are sent
pub sent_so : {T E : Type 0} (result : Result T E) (a b : Console) (waiting now shown_now other : List ℕ) → shown_now ≡ other
    → OnOk result ((sent : List ℕ) × (Writes a sent b × (waiting ++ shown_now ≡ sent ++ now)))
    → OnOk result ((sent : List ℕ) × (Writes a sent b × (waiting ++ other ≡ sent ++ now)))
sent_so (Ok done) a b waiting now shown_now other same (sent, (h, all)) = (sent, (h, ap (λ (l : List ℕ). waiting ++ l) (sym same) ∙ all))
sent_so (Err error) a b waiting now shown_now other same h = tt

pub part_of_same : {T : Type 0} (result : Result T RunError) (a b : Console) (waiting shown_now other : List ℕ) → shown_now ≡ other
    → IfErr result (λ e. WritesPart a (waiting ++ shown_now) e b) → IfErr result (λ e. WritesPart a (waiting ++ other) e b)
part_of_same (Ok done) a b waiting shown_now other same h = tt
part_of_same (Err error) a b waiting shown_now other same h = subst (λ (l : List ℕ). WritesPart a (waiting ++ l) error b) same h
