-- What is known of a text while it comes and is cut.
use Rattle.std.proofs.Common.{◌≡◌, ℕ, ◌+◌, ◌≤◌, Bool, true, false, inl, inr, List, [], ◌∷◌, ◌++◌, length, take, refl, sym, ap, subst, ◌∙◌, arith, append_assoc, length-append}
use Rattle.std.proofs.Math.Seq.{take-append_seam}
use Rattle.std.proofs.lemmas.List.{append-nil, take-append-le}
use Rattle.std.specs.Prelude.{◌||◌, Option, Some, None, is_none, is_some, map, reverse}
use Rattle.std.specs.Borrow.{Bor}
use Rattle.bajofeki_rules.specs.Position.{byte_place, byte_place_of, moved}
use Rattle.bajofeki_rules.specs.declared.position.Position.{Position}
use Rattle.bajofeki.specs.Chunked.{Chunked, GivesFinal, nothing_come, Came, nothing, fed, given, ended}
use Rattle.bajofeki.specs.Given.{item_by, piece_of}
use Rattle.bajofeki.specs.declared.given_piece.GivenPiece.{GivenPiece}
use Rattle.bajofeki.proofs.ChunkLaws.{came_nothing, came_more, came_given, came_whole, came_rest}
use Rattle.lalrpop_rules.specs.Modes.{ModeRules, after, after_all, AllOf}
use Rattle.bajofeki_rules.specs.Stack.{Stack, start, actions_of}
use Rattle.bajofeki_rules.specs.declared.action.Action.{Action}
use Rattle.bajofeki_rules.specs.declared.action.Action.TheVariants.{Mode, Push, Pop}
use Rattle.lalrpop_rules.specs.Pieces.{joined, slice_of, start_of}
use Rattle.lalrpop_rules.specs.declared.piece.Piece.{Piece}
use Rattle.lalrpop_rules.specs.declared.piece.Piece.TheVariants.{Token, Skipped, Fault}
use Rattle.pieces_lib.specs.CutEnds.{first_fault}
use Rattle.pieces_lib.specs.OpenModes.{pushed, pushed_all, open_after, open_behind}
use Rattle.pieces_lib.specs.Internal.CutTexts.{BeginWithin, GivesCut, IsCutInto, is_fault, opened_after, opened_by}
use Rattle.pieces_lib.specs.Internal.Incoming.{IsFed}
use Rattle.pieces_lib.specs.declared.cutter.Cutter.{Cutter}
use Rattle.pieces_lib.specs.declared.incoming.Incoming.{Incoming}
use Rattle.bajofeki_rules.proofs.BytePlaces.{bytes_more}

-- ---- lists of pieces

pub joined_more : (xs : List Piece) (x : Piece) → joined (xs ++ x ∷ []) ≡ joined xs ++ slice_of x
joined_more [] x = append-nil (slice_of x)
joined_more (y ∷ xs) x = ap (λ (t : List ℕ). slice_of y ++ t) (joined_more xs x) ∙ sym (append_assoc (slice_of y) (joined xs) (slice_of x))

pub stack_more : (r : ModeRules) (xs : List Piece) (x : Piece) (s : Stack) → after_all r.actions (xs ++ x ∷ []) s ≡ after r.actions x (after_all r.actions xs s)
stack_more r [] x s = refl
stack_more r (y ∷ xs) x s = stack_more r xs x (after r.actions y s)

pub fault_more : (xs : List Piece) (x : Piece) → is_some (first_fault (xs ++ x ∷ [])) ≡ (is_some (first_fault xs) || is_fault x)
fault_more [] (Token x) = refl
fault_more [] (Skipped x) = refl
fault_more [] (Fault begin slice) = refl
fault_more (Token y ∷ xs) x = fault_more xs x
fault_more (Skipped y ∷ xs) x = fault_more xs x
fault_more (Fault begin slice ∷ xs) x = refl

pub open_more : (r : ModeRules) (xs : List Piece) (x : Piece) (begins : List ℕ) → open_behind r.actions (xs ++ x ∷ []) begins ≡ open_after r.actions x (open_behind r.actions xs begins)
open_more r [] x begins = refl
open_more r (y ∷ xs) x begins = open_more r xs x (open_after r.actions y begins)

-- ---- where they begin

pub begin_later : (m n : ℕ) (xs : List Piece) → m ≤ n → BeginWithin m xs → BeginWithin n xs
begin_later m n [] le begin = tt
begin_later m n (x ∷ xs) le begin = (omega (arith, begin.0), begin_later m n xs le begin.1)

begin_more : (n : ℕ) (xs : List Piece) (x : Piece) → BeginWithin n xs → start_of x ≤ n → BeginWithin n (xs ++ x ∷ [])
begin_more n [] x begin here = (here, tt)
begin_more n (y ∷ xs) x begin here = (begin.0, begin_more n xs x begin.1 here)

all_later : (m n : ℕ) (ns : List ℕ) → m ≤ n → AllOf (λ k. k ≤ m) ns → AllOf (λ k. k ≤ n) ns
all_later m n [] le all = tt
all_later m n (k ∷ ns) le all = (omega (arith, all.0), all_later m n ns le all.1)

all_pushed : (P : ℕ → Type 0) (at : ℕ) (a : Action) (begins : List ℕ) → P at → AllOf P begins → AllOf P (pushed at a begins)
all_pushed P at (Mode m) begins here all = all
all_pushed P at (Push m) begins here all = (here, all)
all_pushed P at Pop [] here all = all
all_pushed P at Pop (top ∷ begins) here all = all.1

all_pushed_all : (P : ℕ → Type 0) (at : ℕ) (acts : List Action) (begins : List ℕ) → P at → AllOf P begins → AllOf P (pushed_all at acts begins)
all_pushed_all P at [] begins here all = all
all_pushed_all P at (a ∷ acts) begins here all = all_pushed_all P at acts (pushed at a begins) here (all_pushed P at a begins here all)

all_after : (P : ℕ → Type 0) (actions : List (List Action)) (x : Piece) (begins : List ℕ) → P (start_of x) → AllOf P begins → AllOf P (open_after actions x begins)
all_after P actions (Token token) begins here all = all_pushed_all P token.start (actions_of actions token.index) begins here all
all_after P actions (Skipped token) begins here all = all_pushed_all P token.start (actions_of actions token.index) begins here all
all_after P actions (Fault begin slice) begins here all = all

-- ---- places in place of offsets

map_pushed : (f : ℕ → Position) (at : ℕ) (a : Action) (begins : List ℕ) → pushed (f at) a (map f begins) ≡ map f (pushed at a begins)
map_pushed f at (Mode m) begins = refl
map_pushed f at (Push m) begins = refl
map_pushed f at Pop [] = refl
map_pushed f at Pop (top ∷ begins) = refl

map_pushed_all : (f : ℕ → Position) (at : ℕ) (acts : List Action) (begins : List ℕ) → pushed_all (f at) acts (map f begins) ≡ map f (pushed_all at acts begins)
map_pushed_all f at [] begins = refl
map_pushed_all f at (a ∷ acts) begins =
    ap (pushed_all (f at) acts) (map_pushed f at a begins) ∙ map_pushed_all f at acts (pushed at a begins)

map_after : (f : ℕ → Position) (actions : List (List Action)) (x : Piece) (begins : List ℕ)
    → opened_after actions (f (start_of x)) x (map f begins) ≡ map f (open_after actions x begins)
map_after f actions (Token token) begins = map_pushed_all f token.start (actions_of actions token.index) begins
map_after f actions (Skipped token) begins = map_pushed_all f token.start (actions_of actions token.index) begins
map_after f actions (Fault begin slice) begins = refl

-- a place stays where it is when more comes
pub place_stays : (text more : List ℕ) (n : ℕ) → n ≤ length text → byte_place_of (text ++ more) n ≡ byte_place_of text n
place_stays text more n within = ap byte_place (take-append-le n text more within)

places_stay : (text more : List ℕ) (n : ℕ) (begins : List ℕ) → n ≤ length text → AllOf (λ k. k ≤ n) begins
    → map (byte_place_of (text ++ more)) begins ≡ map (byte_place_of text) begins
places_stay text more n [] within all = refl
places_stay text more n (k ∷ begins) within all =
    ap (λ (p : Position). p ∷ map (byte_place_of (text ++ more)) begins) (place_stays text more k (omega (arith, within, all.0)))
    ∙ ap (λ (ps : List Position). byte_place_of text k ∷ ps) (places_stay text more n begins within all.1)

-- ---- the stack

pub came_stack : (r : ModeRules) (text : List ℕ) (xs : List Piece) (c : Chunked) → Came r text xs c → c.stack ≡ after_all r.actions xs start
came_stack r _ _ _ nothing = refl
came_stack r _ xs _ (fed {text = text} {c = c} chunk goes came) = came_stack r text xs c came
came_stack r text _ d (given {xs = xs} {c = c} x gives came) =
    ap (λ (e : Chunked). e.stack) gives.2 ∙ ap (λ (q : ModeRules). after q.actions x c.stack) (came_rest r text xs c came).2
    ∙ ap (after r.actions x) (came_stack r text xs c came) ∙ sym (stack_more r xs x start)
came_stack r text xs _ (ended {c = c} came) = came_stack r text xs c came

-- what was given lies in front
pub given_front : (r : ModeRules) (text : List ℕ) (xs : List Piece) (c : Chunked) → Came r text xs c → take c.at text ≡ joined xs
given_front r text xs c came =
    let so_far = came_rest r text xs c came in
    ap (take c.at) so_far.0 ∙ ap (λ (n : ℕ). take n (joined xs ++ c.rest)) so_far.1 ∙ take-append_seam (joined xs) c.rest

pub place_within : (r : ModeRules) (text : List ℕ) (xs : List Piece) (c : Chunked) → Came r text xs c → c.at ≤ length text
place_within r text xs c came =
    let so_far = came_rest r text xs c came in
    omega (arith, so_far.1, ap length so_far.0, length-append (joined xs) c.rest)

-- ---- nothing has come

pub into_none : (rules : ModeRules) (c : Cutter) → c.lexer.now ≡ rules → c.incoming.chunks ≡ nothing_come rules → c.at ≡ 0 → c.has_fault ≡ false → c.places.items ≡ []
    → c.here ≡ record { line = 1; column = 1 } → IsCutInto rules [] [] c
into_none rules c lexer none at fault places here =
    let zero_at : c.incoming.chunks.at ≡ 0 = ap (λ (d : Chunked). d.at) none in
    record {
      came = came_nothing rules c.incoming.chunks none;
      lexer = lexer;
      at = at ∙ sym zero_at;
      begin = tt;
      here = here ∙ ap (byte_place_of []) (sym zero_at);
      fault = fault;
      places = ap reverse places;
      opened = tt;
    }

-- ---- one more piece

module _ (rules : ModeRules) (text : List ℕ) (xs : List Piece) (c d : Cutter) (x : Piece) (place : Position) (mode : ℕ) (is : IsCutInto rules text xs c)
    (gives : GivesCut c x place mode d) where
  starts_here : start_of x ≡ c.incoming.chunks.at
  starts_here = gives.gives.1

  -- where it begins, and in which mode it was read
  pub place_here : place ≡ byte_place_of text (start_of x)
  place_here = gives.place_is ∙ is.here ∙ ap (byte_place_of text) (sym starts_here)

  pub mode_here : mode ≡ (after_all rules.actions xs start).mode
  mode_here = gives.mode_is ∙ ap (λ (s : Stack). s.mode) (came_stack rules text xs c.incoming.chunks is.came)

  pub came_on : Came rules text (xs ++ x ∷ []) d.incoming.chunks
  came_on = came_given rules text xs c.incoming.chunks d.incoming.chunks is.came x gives.gives

  at_behind : d.incoming.chunks.at ≡ c.incoming.chunks.at + length (slice_of x)
  at_behind = ap (λ (e : Chunked). e.at) gives.gives.2

  here_behind : d.here ≡ byte_place_of text d.incoming.chunks.at
  here_behind =
      gives.here ∙ ap (λ (p : Position). moved p (byte_place (slice_of x))) (is.here ∙ ap byte_place (given_front rules text xs c.incoming.chunks is.came))
      ∙ sym (bytes_more (joined xs) (slice_of x))
      ∙ ap byte_place (sym (joined_more xs x) ∙ sym (given_front rules text (xs ++ x ∷ []) d.incoming.chunks came_on))

  places_behind : reverse d.places.items ≡ map (byte_place_of text) (open_behind rules.actions (xs ++ x ∷ []) [])
  places_behind =
      gives.places ∙ ap (λ (r : ModeRules). opened_after r.actions place x (reverse c.places.items)) is.lexer
      ∙ ap (λ (p : Position). opened_after rules.actions p x (reverse c.places.items)) place_here
      ∙ ap (opened_after rules.actions (byte_place_of text (start_of x)) x) is.places
      ∙ map_after (byte_place_of text) rules.actions x (open_behind rules.actions xs [])
      ∙ ap (map (byte_place_of text)) (sym (open_more rules xs x []))

  pub into_more : IsCutInto rules text (xs ++ x ∷ []) d
  into_more =
      let later : c.incoming.chunks.at ≤ d.incoming.chunks.at = omega (arith, at_behind) in
      let here : start_of x ≤ d.incoming.chunks.at = omega (arith, at_behind, starts_here) in
      let P : ℕ → Type 0 = λ k. k ≤ d.incoming.chunks.at in
      record {
        came = came_on;
        lexer = ap (λ l. l.now) gives.lexer ∙ is.lexer;
        at = gives.at ∙ ap (λ (n : ℕ). n + length (slice_of x)) is.at ∙ sym at_behind;
        begin = begin_more d.incoming.chunks.at xs x (begin_later c.incoming.chunks.at d.incoming.chunks.at xs later is.begin) here;
        here = here_behind;
        fault = gives.fault ∙ ap (λ (b : Bool). b || is_fault x) is.fault ∙ sym (fault_more xs x);
        places = places_behind;
        opened =
            subst (AllOf P) (sym (open_more rules xs x []))
            (all_after P rules.actions x (open_behind rules.actions xs []) here (all_later c.incoming.chunks.at d.incoming.chunks.at (open_behind rules.actions xs []) later is.opened));
      }

-- ---- what a call gave

pub slice_by : (rule : Option ℕ) (skipped : Bool) (at : ℕ) (slice : Bor (List ℕ)) → slice_of (item_by rule skipped at slice) ≡ slice.now
slice_by None skipped at slice = refl
slice_by (Some i) true at slice = refl
slice_by (Some i) false at slice = refl

pub fault_by : (rule : Option ℕ) (skipped : Bool) (at : ℕ) (slice : Bor (List ℕ)) → is_fault (item_by rule skipped at slice) ≡ is_none rule
fault_by None skipped at slice = refl
fault_by (Some i) true at slice = refl
fault_by (Some i) false at slice = refl

after_by : (actions : List (List Action)) (place : Position) (rule : Option ℕ) (skipped : Bool) (at : ℕ) (slice : Bor (List ℕ)) (places : List Position)
    → opened_after actions place (item_by rule skipped at slice) places ≡ opened_by actions place rule places
after_by actions place None skipped at slice places = refl
after_by actions place (Some i) true at slice places = refl
after_by actions place (Some i) false at slice places = refl

-- a piece was given to the chunks, and noted
pub gives_cut : (c d : Cutter) (chunks : Chunked) (piece : GivenPiece) (slice : Bor (List ℕ)) (mode : ℕ)
    → GivesFinal c.incoming.chunks (Some (piece_of piece slice)) chunks → slice.now ≡ chunks.last → mode ≡ c.incoming.chunks.stack.mode
    → d.incoming ≡ record c.incoming { chunks = chunks } → d.lexer ≡ c.lexer → d.here ≡ moved c.here (byte_place chunks.last) → d.at ≡ c.at + length chunks.last → d.has_fault ≡ (c.has_fault || is_none piece.rule)
    → reverse d.places.items ≡ opened_by c.lexer.now.actions c.here piece.rule (reverse c.places.items)
    → GivesCut c (piece_of piece slice) c.here mode d
gives_cut c d chunks piece slice mode gives same in_mode incoming lexer here at fault places =
    let bytes : chunks.last ≡ slice_of (piece_of piece slice) = sym same ∙ sym (slice_by piece.rule piece.is_skipped piece.start slice) in
    record {
      gives = subst (GivesFinal c.incoming.chunks (Some (piece_of piece slice))) (sym (ap (λ (i : Incoming). i.chunks) incoming)) gives;
      front = ap (λ (i : Incoming). i.front) incoming;
      begun = ap (λ (i : Incoming). i.has_begun) incoming;
      lexer = lexer;
      at = at ∙ ap (λ (t : List ℕ). c.at + length t) bytes;
      place_is = refl;
      mode_is = in_mode;
      here = here ∙ ap (λ (t : List ℕ). moved c.here (byte_place t)) bytes;
      fault = fault ∙ ap (λ (b : Bool). c.has_fault || b) (sym (fault_by piece.rule piece.is_skipped piece.start slice));
      places = places ∙ sym (after_by c.lexer.now.actions c.here piece.rule piece.is_skipped piece.start slice (reverse c.places.items));
    }

-- ---- more comes

-- the same, but for what comes
pub record IsSameCut (c d : Cutter) : Type 0 where
  pub lexer : d.lexer ≡ c.lexer
  pub at : d.at ≡ c.at
  pub here : d.here ≡ c.here
  pub fault : d.has_fault ≡ c.has_fault
  pub places : d.places ≡ c.places

into_later : (rules : ModeRules) (text more : List ℕ) (xs : List Piece) (c d : Cutter) → IsCutInto rules text xs c → IsSameCut c d
    → d.incoming.chunks.at ≡ c.incoming.chunks.at → Came rules (text ++ more) xs d.incoming.chunks → IsCutInto rules (text ++ more) xs d
into_later rules text more xs c d is same at came =
    let within = place_within rules text xs c.incoming.chunks is.came in
    record {
      came = came;
      lexer = ap (λ l. l.now) same.lexer ∙ is.lexer;
      at = same.at ∙ is.at ∙ sym at;
      begin = subst (λ (n : ℕ). BeginWithin n xs) (sym at) is.begin;
      here = same.here ∙ is.here ∙ sym (place_stays text more c.incoming.chunks.at within) ∙ ap (byte_place_of (text ++ more)) (sym at);
      fault = same.fault ∙ is.fault;
      places = ap (λ ps. reverse ps.items) same.places ∙ is.places ∙ sym (places_stay text more c.incoming.chunks.at (open_behind rules.actions xs []) within is.opened);
      opened = subst (λ (n : ℕ). AllOf (λ k. k ≤ n) (open_behind rules.actions xs [])) (sym at) is.opened;
    }

-- a part of the text comes
pub into_fed : (rules : ModeRules) (text chunk : List ℕ) (xs : List Piece) (c d : Cutter) → IsCutInto rules text xs c → IsSameCut c d
    → c.incoming.chunks.is_ended ≡ false → IsFed c.incoming.chunks chunk d.incoming.chunks → IsCutInto rules (text ++ chunk) xs d
into_fed rules text chunk xs c d is same goes (inl more) =
    into_later rules text chunk xs c d is same (ap (λ (e : Chunked). e.at) more)
    (came_more rules text xs c.incoming.chunks d.incoming.chunks is.came chunk goes more)
into_fed rules text chunk xs c d is same goes (inr (none, old)) =
    let all : text ++ chunk ≡ text = ap (λ (t : List ℕ). text ++ t) none ∙ append-nil text in
    into_later rules text chunk xs c d is same (ap (λ (e : Chunked). e.at) old)
    (subst (λ (t : List ℕ). Came rules t xs d.incoming.chunks) (sym all) (subst (Came rules text xs) (sym old) is.came))

-- no more comes
pub into_whole : (rules : ModeRules) (text : List ℕ) (xs : List Piece) (c d : Cutter) → IsCutInto rules text xs c → IsSameCut c d
    → d.incoming.chunks ≡ record c.incoming.chunks { is_ended = true } → IsCutInto rules text xs d
into_whole rules text xs c d is same over =
    subst (λ (t : List ℕ). IsCutInto rules t xs d) (append-nil text)
    (into_later rules text [] xs c d is same (ap (λ (e : Chunked). e.at) over)
    (subst (λ (t : List ℕ). Came rules t xs d.incoming.chunks) (sym (append-nil text)) (came_whole rules text xs c.incoming.chunks d.incoming.chunks is.came over)))
