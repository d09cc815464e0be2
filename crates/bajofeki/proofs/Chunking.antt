-- Pieces up to a place: the rest of a text alone settles each, one more follows at their end, and they begin all pieces of the text.
use Rattle.std.proofs.Common.{◌≡◌, ◌≢◌, ℕ, ◌+◌, ◌<◌, ◌≤◌, ◌⊎◌, inl, inr, Bool, true, false, List, [], ◌∷◌, ◌++◌, length, take, drop, get_or, arith, refl, sym, ap, subst, ◌∙◌, length-append}
use Rattle.std.specs.Prelude.{Option, Some, None, Result, Ok, Err, OnOk, OnErr, is_ok, slice_get, ◌==◌, if◌then◌else◌}
use Rattle.std.specs.Option.{option_map, is_some}
use Rattle.std.specs.Borrow.{Bor}
use Rattle.std.specs.Str.{IsUtf8, IsCharBoundary}
use Rattle.std.proofs.lemmas.Bool.{cases_eq, cases_order}
use Rattle.std.proofs.lemmas.Str.{IsCharBoundary-start}
use Rattle.std.proofs.Math.Seq.{take-append_seam}
use Rattle.std.proofs.lemmas.Option.{slice_get-get_or}
use Rattle.std.proofs.lemmas.List.{append-nil, take-append-le, length-take-le, drop-drop, get_or-append-add, get_or_append_left}
use Rattle.lalrpop_hir.specs.Prefix.{IsPrefix}
use Rattle.lalrpop_hir.specs.Tree.{Tree}
use Rattle.lalrpop_hir.specs.Longest.{IsLongest}
use Rattle.lalrpop_rules.specs.Found.{MatchesAt, NoMatchBefore}
use Rattle.lalrpop_rules.specs.Pieces.{IsFault, IsPiece, AreSame, slice_of, start_of}
use Rattle.lalrpop_rules.specs.declared.piece.Piece.{Piece}
use Rattle.lalrpop_rules.specs.declared.piece.Piece.TheVariants.{Token, Skipped, Fault}
use Rattle.lalrpop_rules.proofs.UniquePieces.{same_piece, same_slice, no_piece_left}
use Rattle.bajofeki_rules.specs.declared.action.Action.{Action}
use Rattle.bajofeki_rules.specs.Stack.{Stack, act_all}
use Rattle.lalrpop_rules.specs.Modes.{ModeRules, ArePiecesFrom, EachMode, trees_in, after}
use Rattle.bajofeki_rules.specs.EnteredModes.{OneLeadsInto}
use Rattle.lalrpop_rules.proofs.ModePieces.{same_after}
use Rattle.lalrpop_rules.proofs.ModeRuns.{act-within}
use Rattle.bajofeki.specs.declared.cutter.Cutter.{Cutter}
use Rattle.bajofeki.specs.declared.memo.Memo.{Memo}
use Rattle.bajofeki.specs.declared.walker.Walker.{Walker}
use Rattle.bajofeki.specs.Internal.Reach.{AreAlike, IsSettledBy}
use Rattle.bajofeki.specs.Internal.Kept.{IsFront, after_rule}
use Rattle.bajofeki.specs.Internal.Noted.{IsCutter, IsNoted, IsSound}
use Rattle.bajofeki.specs.Lexed.{placed}
use Rattle.bajofeki.specs.Chunked.{Chunked, IsFinal, IsOpenIn, IsHeldBack, GivesFinal, BeginsFault, MayBegin, MayMatch}
use Rattle.bajofeki.specs.Begun.{NoCharacter}
use Rattle.bajofeki.specs.Given.{item_by}
use Rattle.bajofeki.proofs.Noting.{left_sound}
use Rattle.bajofeki.proofs.BytesLaws.{none_at, text_match}
use Rattle.bajofeki.proofs.Settling.{settled_match}

pub slice_placed : (at : ℕ) (x : Piece) → slice_of (placed at x) ≡ slice_of x
slice_placed at (Token token) = refl
slice_placed at (Skipped token) = refl
slice_placed at (Fault start slice) = refl

-- the piece at the front of the rest is the piece of the text there
pub from_front : (ts : List Tree) (ps : List ℕ) (skips : List Bool) (text rest : List ℕ) (at : ℕ) (x : Piece) → drop at text ≡ rest → start_of x ≡ at
    → IsPiece ts ps skips rest 0 (placed 0 x) → IsPiece ts ps skips text at x
from_front ts ps skips text rest at (Token token) left begins is =
    ((begins, subst (λ (t : List ℕ). IsLongest ts ps t (Some (token.index, token.slice.now))) (sym left) is.0.1, is.0.2), is.1)
from_front ts ps skips text rest at (Skipped token) left begins is =
    ((begins, subst (λ (t : List ℕ). IsLongest ts ps t (Some (token.index, token.slice.now))) (sym left) is.0.1, is.0.2), is.1)
from_front ts ps skips text rest at (Fault start slice) left begins is = (begins, subst (λ (t : List ℕ). IsFault ts t slice.now) (sym left) is.1)

-- and the other way round
pub to_front : (ts : List Tree) (ps : List ℕ) (skips : List Bool) (text rest : List ℕ) (at : ℕ) (x : Piece) → drop at text ≡ rest
    → IsPiece ts ps skips text at x → IsPiece ts ps skips rest 0 (placed 0 x)
to_front ts ps skips text rest at (Token token) left is =
    ((refl, subst (λ (t : List ℕ). IsLongest ts ps t (Some (token.index, token.slice.now))) left is.0.1, is.0.2), is.1)
to_front ts ps skips text rest at (Skipped token) left is =
    ((refl, subst (λ (t : List ℕ). IsLongest ts ps t (Some (token.index, token.slice.now))) left is.0.1, is.0.2), is.1)
to_front ts ps skips text rest at (Fault start slice) left is = (refl, subst (λ (t : List ℕ). IsFault ts t slice.now) left is.1)

-- one piece of the text after another, from one place and stack up to another
abbrev pub ArePiecesTo : ModeRules → List ℕ → ℕ → Stack → List Piece → ℕ → Stack → Type 0
ArePiecesTo r text at s [] to t = (at ≡ to) × (s ≡ t)
ArePiecesTo r text at s (x ∷ xs) to t =
    IsPiece (trees_in r s.mode) r.precedences r.skips text at x
    × ArePiecesTo r text (at + length (slice_of x)) (after r.actions x s) xs to t

module _ (r : ModeRules) (text : List ℕ) where
  -- one more at their end
  pub one_more : (at : ℕ) (s : Stack) (xs : List Piece) (to : ℕ) (t : Stack) (x : Piece) → ArePiecesTo r text at s xs to t
      → IsPiece (trees_in r t.mode) r.precedences r.skips text to x
      → ArePiecesTo r text at s (xs ++ x ∷ []) (to + length (slice_of x)) (after r.actions x t)
  one_more at s [] to t x (place, stack) is =
      let there = subst (λ (n : ℕ). IsPiece (trees_in r t.mode) r.precedences r.skips text n x) (sym place) is in (
        subst (λ (u : Stack). IsPiece (trees_in r u.mode) r.precedences r.skips text at x) (sym stack) there,
        (ap (λ (n : ℕ). n + length (slice_of x)) place, ap (after r.actions x) stack),
      )
  one_more at s (y ∷ xs) to t x are is = (are.0, one_more (at + length (slice_of y)) (after r.actions y s) xs to t x are.1 is)

  -- all of them, where the text ends
  pub all_at_end : (at : ℕ) (s : Stack) (xs : List Piece) (to : ℕ) (t : Stack) → ArePiecesTo r text at s xs to t → drop to text ≡ []
      → ArePiecesFrom r text at s xs t
  all_at_end at s [] to t (place, stack) end = (ap (λ (n : ℕ). drop n text) place ∙ end, sym stack)
  all_at_end at s (x ∷ xs) to t are end = (are.0, all_at_end (at + length (slice_of x)) (after r.actions x s) xs to t are.1 end)

  -- they begin all pieces from their place on
  pub begin_all : (at : ℕ) (s : Stack) (xs : List Piece) (to : ℕ) (t : Stack) (ys : List Piece) (end : Stack) → ArePiecesTo r text at s xs to t
      → ArePiecesFrom r text at s ys end → AreSame xs (take (length xs) ys)
  begin_all at s [] to t ys end are all = tt
  begin_all at s (x ∷ xs) to t [] end are all = absurd (no_piece_left (trees_in r s.mode) r.precedences r.skips text at x are.0 all.0)
  begin_all at s (x ∷ xs) to t (y ∷ ys) end are all =
      let same = same_piece (trees_in r s.mode) r.precedences r.skips text at x y are.0 all.0 in
      let behind = ap (λ (p : List ℕ). at + length p) (sym (same_slice x y same)) in
      let moved = subst (λ (n : ℕ). ArePiecesFrom r text n (after r.actions y s) ys end) behind all.1 in
      let later = subst (λ (u : Stack). ArePiecesFrom r text (at + length (slice_of x)) u ys end) (sym (same_after r.actions x y s same)) moved in
      (same, begin_all (at + length (slice_of x)) (after r.actions x s) xs to t ys end are.1 later)

  -- and the next of all pieces begins where they end, if the text goes on there
  pub next_of_all : (at : ℕ) (s : Stack) (xs : List Piece) (to : ℕ) (t : Stack) (ys : List Piece) (end : Stack) → ArePiecesTo r text at s xs to t
      → ArePiecesFrom r text at s ys end → drop to text ≢ []
      → (y : Piece) × (IsPiece (trees_in r t.mode) r.precedences r.skips text to y × (slice_get ys (length xs) ≡ Some y))
  next_of_all at s [] to t [] end (place, stack) all some = absurd (some (ap (λ (n : ℕ). drop n text) (sym place) ∙ all.0))
  next_of_all at s [] to t (y ∷ ys) end (place, stack) all some =
      let here = subst (λ (u : Stack). IsPiece (trees_in r u.mode) r.precedences r.skips text at y) stack all.0 in
      (y, (subst (λ (n : ℕ). IsPiece (trees_in r t.mode) r.precedences r.skips text n y) place here, refl))
  next_of_all at s (x ∷ xs) to t [] end are all some = absurd (no_piece_left (trees_in r s.mode) r.precedences r.skips text at x are.0 all.0)
  next_of_all at s (x ∷ xs) to t (y ∷ ys) end are all some =
      let same = same_piece (trees_in r s.mode) r.precedences r.skips text at x y are.0 all.0 in
      let behind = ap (λ (p : List ℕ). at + length p) (sym (same_slice x y same)) in
      let moved = subst (λ (n : ℕ). ArePiecesFrom r text n (after r.actions y s) ys end) behind all.1 in
      let later = subst (λ (u : Stack). ArePiecesFrom r text (at + length (slice_of x)) u ys end) (sym (same_after r.actions x y s same)) moved in
      next_of_all (at + length (slice_of x)) (after r.actions x s) xs to t ys end are.1 later some

-- ---- the piece at the front of a text

-- if nothing matches at the front of a text, and what comes can't change that, nothing does whatever comes
pub none_comes : (ts : List Tree) (ps text tail : List ℕ) (o : Option (ℕ × Bor (List ℕ))) (reach : ℕ) → is_some o ≡ false
    → IsLongest ts ps text (option_map (λ m. (m.0, m.1.now)) o) → IsSettledBy ts text reach → reach ≤ length text → NoMatchBefore ts (text ++ tail) 1
none_comes ts ps text tail (Some m) reach none longest by little = absurd (cc)
none_comes ts ps text tail None reach none longest by little =
    none_at ts (text ++ tail) (λ m. longest m.0 (settled_match ts text (text ++ tail) m.0 reach by (sym (take-append-le reach text tail little)) m.1))

-- nor does anything, if no character comes
pub none_follows : (ts : List Tree) (ps text tail : List ℕ) (o : Option (ℕ × Bor (List ℕ))) → is_some o ≡ false
    → IsLongest ts ps text (option_map (λ m. (m.0, m.1.now)) o) → IsUtf8 text → NoCharacter tail → NoMatchBefore ts (text ++ tail) 1
none_follows ts ps text tail (Some m) none longest u over = absurd (cc)
none_follows ts ps text tail None none longest u over =
    none_at ts (text ++ tail) (λ m. longest m.0 (text_match ts text tail m.0 u over m.1))

pub some_there : (ts : List Tree) (ps rest : List ℕ) (o : Option (ℕ × Bor (List ℕ))) → is_some o ≡ true
    → IsLongest ts ps rest (option_map (λ m. (m.0, m.1.now)) o) → MatchesAt ts rest 0
some_there ts ps rest None some longest = absurd (cc)
some_there ts ps rest (Some m) some longest = (m.1.now, longest.0)

-- ---- what the rest is cut with

-- the walk of a mode
pub walker_there : (r : ModeRules) (c : Cutter) (at mode : ℕ) (w : Walker) (text : List ℕ) → IsCutter r c at text → mode < r.modes → get_or c.walkers.items mode w ≡ w
    → slice_get c.walkers.items mode ≡ Some w
walker_there r c at mode w text is there same =
    let within : mode < length c.walkers.items = omega (arith, is.count, there) in
    slice_get-get_or c.walkers.items mode w within ∙ ap (λ (v : Walker). Some v) same

-- a run in one mode noted more
pub cutter_more : (r : ModeRules) (c : Cutter) (memo : Memo) (mode at : ℕ) (w : Walker) (text : List ℕ) → IsCutter r c at text → slice_get c.walkers.items mode ≡ Some w
    → IsSound w memo mode at text → ((m p e n : ℕ) → m ≢ mode → IsNoted memo m p e n → IsNoted c.memo m p e n) → IsCutter r (record c { memo = memo }) at text
cutter_more r c memo mode at w text is here sound others = record {
  count = is.count;
  right = is.right;
  same = is.same;
  one = is.one;
  sound = λ m v there. by_mode m v there (cases_eq m mode);
}
  where
    by_mode : (m : ℕ) (v : Walker) → slice_get c.walkers.items m ≡ Some v → (m ≡ mode) ⊎ (m ≡ mode → ⊥) → IsSound v memo m at text
    by_mode m v there (inl one) =
        let both : Some v ≡ Some w = sym there ∙ ap (slice_get c.walkers.items) one ∙ here in
        let same : v ≡ w = cc (both) in
        rw (one, same) sound
    by_mode m v there (inr other) = λ p i n noted. is.sound m v there p i n (others m p (at + i) n other noted)

-- and it may go on after a front of the rest
pub cutter_behind : (r : ModeRules) (c : Cutter) (at k : ℕ) (text : List ℕ) → k ≤ length text → IsCutter r c at text → IsCutter r c (at + k) (drop k text)
cutter_behind r c at k text within is = record {
  count = is.count;
  right = is.right;
  same = is.same;
  one = is.one;
  sound = λ m w there. left_sound w c.memo m at k text within (is.sound m w there);
}

-- ---- what a call gives

-- what has come, by its parts
abbrev so_far : ModeRules → List ℕ → List ℕ → ℕ → Stack → Bool → Chunked
so_far r last rest at s over = record { rules = r; last = last; rest = rest; at = at; stack = s; is_ended = over }

pub held_back_here : (r : ModeRules) (last left rest : List ℕ) (at mode : ℕ) (s : Stack) (over : Bool) → rest ≡ left → mode ≡ s.mode → (over ≡ true → rest ≡ [])
    → (over ≡ false → IsOpenIn (trees_in r mode) rest) → IsHeldBack (so_far r last left at s over)
held_back_here r last left rest at mode s over same_rest same_mode empty held = (
  (λ is. sym same_rest ∙ empty is),
  (λ is. subst (λ (m : ℕ). IsOpenIn (trees_in r m) left) same_mode (subst (λ (t : List ℕ). IsOpenIn (trees_in r mode) t) same_rest (held is))),
)

-- a fault begins at the rest, if nothing matches there
pub fault_here : (c : Chunked) (rest : List ℕ) (ts : List Tree) (over : Bool) → rest ≡ c.rest → ts ≡ trees_in c.rules c.stack.mode → over ≡ c.is_ended → rest ≢ []
    → ((more : List ℕ) → (over ≡ true → more ≡ []) → NoMatchBefore ts (rest ++ more) 1) → BeginsFault c
fault_here c rest ts over same_rest same_trees same_end some none = (
  (λ empty. some (same_rest ∙ empty)),
  (λ more may. subst (λ (us : List Tree). NoMatchBefore us (c.rest ++ more) 1) same_trees
      (subst (λ (t : List ℕ). NoMatchBefore ts (t ++ more) 1) same_rest (none more (λ is. may (sym same_end ∙ is))))),
)

-- something may match there, if something may match at the rest
pub may_here : (c : Chunked) (rest : List ℕ) (ts : List Tree) (over : Bool) → rest ≡ c.rest → ts ≡ trees_in c.rules c.stack.mode → over ≡ c.is_ended
    → MatchesAt ts rest 0 ⊎ ((over ≡ false) × MayBegin ts rest) → MayMatch c
may_here c rest ts over same_rest same_trees same_end (inl m) =
    inl (subst (λ (us : List Tree). MatchesAt us c.rest 0) same_trees (subst (λ (t : List ℕ). MatchesAt ts t 0) same_rest m))
may_here c rest ts over same_rest same_trees same_end (inr (goes, may)) =
    inr (sym same_end ∙ goes, subst (λ (us : List Tree). MayBegin us c.rest) same_trees (subst (λ (t : List ℕ). MayBegin ts t) same_rest may))

start_by : (o : Option ℕ) (skipped : Bool) (at : ℕ) (slice : Bor (List ℕ)) → start_of (item_by o skipped at slice) ≡ at
start_by None skipped at slice = refl
start_by (Some i) true at slice = refl
start_by (Some i) false at slice = refl

slice_by : (o : Option ℕ) (skipped : Bool) (at : ℕ) (slice : Bor (List ℕ)) → slice_of (item_by o skipped at slice) ≡ slice.now
slice_by None skipped at slice = refl
slice_by (Some i) true at slice = refl
slice_by (Some i) false at slice = refl

after_by : (actions : List (List Action)) (o : Option ℕ) (skipped : Bool) (at : ℕ) (slice : Bor (List ℕ)) (s : Stack)
    → after actions (item_by o skipped at slice) s ≡ after_rule actions o s
after_by actions None skipped at slice s = refl
after_by actions (Some i) true at slice s = refl
after_by actions (Some i) false at slice s = refl

-- the piece by this rule at the front of the rest is final, and what is left lies after it
module _ (r : ModeRules) (last text rest : List ℕ) (given at size mode : ℕ) (s t : Stack) (over : Bool) (rule number : Option ℕ) (skipped : Bool) (slice : Bor (List ℕ))
    (same_rest : rest ≡ drop given text) (same_mode : mode ≡ s.mode) (same_rule : number ≡ rule) (within : size ≤ length rest)
    (same_slice : slice.now ≡ take size rest)
    (front : (more : List ℕ) → (over ≡ true → more ≡ []) → IsFront (trees_in r mode) r.precedences (rest ++ more) rule (take size rest))
    (piece : (ts : List Tree) (ps word : List ℕ) (n : ℕ) (p : Bor (List ℕ)) → IsFront ts ps word rule p.now → IsPiece ts ps r.skips word 0 (placed 0 (item_by rule skipped n p))) where
  final_here : IsFinal (so_far r last (drop given text) at s over) (item_by number skipped at slice)
  final_here more may =
      let cut = subst (λ (p : List ℕ). IsFront (trees_in r mode) r.precedences (rest ++ more) rule p) (sym same_slice) (front more may) in
      let left = subst (λ (q : List ℕ). IsFront (trees_in r mode) r.precedences (q ++ more) rule slice.now) same_rest cut in
      let here = subst (λ (m : ℕ). IsFront (trees_in r m) r.precedences (drop given text ++ more) rule slice.now) same_mode left in
      let is = piece (trees_in r s.mode) r.precedences (drop given text ++ more) at slice here in
      subst (λ (o : Option ℕ). IsPiece (trees_in r s.mode) r.precedences r.skips (drop given text ++ more) 0 (placed 0 (item_by o skipped at slice))) (sym same_rule) is

  size_here : size ≡ length (slice_of (item_by number skipped at slice))
  size_here = sym (ap length (slice_by number skipped at slice) ∙ ap length same_slice ∙ length-take-le size rest within)

  pub gives_here : (at2 : ℕ) (last2 : List ℕ) → at2 ≡ at + size → slice.now ≡ last2 → t ≡ after_rule r.actions rule s
      → GivesFinal (so_far r last (drop given text) at s over) (Some (item_by number skipped at slice)) (so_far r last2 (drop (given + size) text) at2 t over)
  gives_here at2 last2 place same_last acted =
      let whole : last2 ≡ slice_of (item_by number skipped at slice) = sym (slice_by number skipped at slice ∙ same_last) in
      let behind : drop (given + size) text ≡ drop (length (slice_of (item_by number skipped at slice))) (drop given text) =
      sym (drop-drop size given text) ∙ ap (λ (n : ℕ). drop n (drop given text)) size_here in
      let there : at2 ≡ at + length (slice_of (item_by number skipped at slice)) = place ∙ ap (λ (n : ℕ). at + n) size_here in
      let done : t ≡ after r.actions (item_by number skipped at slice) s =
      acted ∙ ap (λ (o : Option ℕ). after_rule r.actions o s) (sym same_rule) ∙ sym (after_by r.actions number skipped at slice s) in (
        final_here,
        start_by number skipped at slice,
        ap (λ (p : List ℕ). so_far r p (drop (given + size) text) at2 t over) whole
            ∙ ap (λ (l : List ℕ). so_far r (slice_of (item_by number skipped at slice)) l at2 t over) behind
            ∙ ap (λ (n : ℕ). so_far r (slice_of (item_by number skipped at slice)) (drop (length (slice_of (item_by number skipped at slice))) (drop given text)) n t over) there
            ∙ ap (λ (u : Stack). so_far r (slice_of (item_by number skipped at slice)) (drop (length (slice_of (item_by number skipped at slice))) (drop given text)) (at + length (slice_of (item_by number skipped at slice))) u over) done,
      )

-- actions that lead only into modes that are there keep to them, and so does an error, which changes nothing
pub there_either_way : {A B : Type 0} (done : Result A B) (n : ℕ) (acts : List Action) (s t : Stack) → OnOk done (t ≡ act_all acts s) → OnErr done (t ≡ s)
    → ((m : ℕ) → OneLeadsInto acts m → m < n) → EachMode (λ m. m < n) s → EachMode (λ m. m < n) t
there_either_way (Ok a) n acts s t acted refused lead there = act-within n acts s t acted lead there
there_either_way (Err e) n acts s t acted refused lead there = subst (λ (u : Stack). EachMode (λ m. m < n) u) (sym refused) there
