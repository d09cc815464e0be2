-- Lines and columns, block by block.
use Rattle.std.proofs.Common.{◌≡◌, ◌≢◌, ℕ, zero, suc, ◌+◌, ◌-◌, ◌<◌, ◌≤◌, ◌⊎◌, inl, inr, List, [], ◌∷◌, ◌++◌, length, take, drop, arith, refl, sym, ap, subst, ◌∙◌, length-take, length-drop}
use Rattle.std.specs.Prelude.{slice_get, Some}
use Rattle.std.specs.Char.{encode_utf8}
use Rattle.std.specs.Str.{chars, IsUtf8, IsCharBoundary}
use Rattle.std.proofs.lemmas.Bool.{ne_eqb, cases_order}
use Rattle.std.proofs.lemmas.Option.{none-some, same_Some}
use Rattle.std.proofs.lemmas.List.{drop-drop, take-append-drop, take_at}
use Rattle.std.proofs.lemmas.Str.{IsCharBoundary-from_rest, IsCharBoundary-from_take, IsCharBoundary-start, IsUtf8-drop, IsUtf8-take, chars-nil}
use Rattle.bajofeki_rules.specs.Position.{IsBefore, moved, place_after, place_behind, position_of}
use Rattle.bajofeki_rules.specs.declared.position.Position.{Position}
use Rattle.bajofeki_rules.proofs.Places.{column_within, few_chars, line_within}
use Rattle.bajofeki_rules.proofs.PlaceLaws.{before_trans, not_before, places_ascend, position_moved}
use Rattle.lalrpop_rules.specs.Modes.{ModeRules}
use Rattle.bajofeki_rules.specs.Stack.{Stack, start}
use Rattle.lalrpop_hir.proofs.Cuts.{IsCut}
use Rattle.bajofeki.specs.declared.block.Block.{Block}
use Rattle.bajofeki.specs.declared.kept.Kept.{Kept}
use Rattle.bajofeki.specs.declared.lines.Mark.{Mark}
use Rattle.bajofeki.specs.Internal.Kept.{KeptUpTo}
use Rattle.bajofeki.specs.Internal.Blocks.{AreMarked, IsSpot, after_pieces, pieces_at, pieces_in, size_in, sizes}
use Rattle.bajofeki.specs.Internal.BlockPlaces.{AreCounted, AreSameAround, IsCounted, IsMark}
use Rattle.bajofeki.proofs.Alike.{alike_behind, alike_less}
use Rattle.bajofeki.proofs.BlockLaws.{around, kept_sizes, marked_split, pieces_front, sizes_join, spot_behind, spot_front}
use Rattle.bajofeki.proofs.Fronts.{no_boundary}
use Rattle.bajofeki.proofs.KeptLaws.{kept_boundary, kept_split}
use Rattle.bajofeki.proofs.Relexing.{regroup}

-- ---- places

pub moved_begin : (q : Position) → 1 ≤ q.line → 1 ≤ q.column → moved (record { line = 1; column = 1 }) q ≡ q
moved_begin q h k = by (cases_order q.line 1)
  where
    same_place : (line column l c : ℕ) → line ≡ l → column ≡ c → ◌≡◌ {A = Position} (record { line = line; column = column }) (record { line = l; column = c })
    same_place line column l c e f = cc

    by : (q.line ≡ 1) ⊎ ((q.line < 1) ⊎ (1 < q.line)) → moved (record { line = 1; column = 1 }) q ≡ q
    by (inl one) = rw one (same_place _ _ _ _ refl (omega (arith, k)))
    by (inr (inl less)) = absurd (omega (arith, less, h))
    by (inr (inr more)) = rw (ne_eqb q.line 1 (λ e. omega (arith, e, more))) (same_place _ _ _ _ (omega (arith, h)) refl)

-- no line and no column is greater than the bytes in front
pub place_within : (text : List ℕ) (n : ℕ) → IsUtf8 (take n text) → ((position_of text n).line ≤ 1 + n) × ((position_of text n).column ≤ 1 + n)
place_within text n u =
    let few = few_chars (take n text) u in (
      omega (arith, line_within (chars (take n text)), few, length-take n text),
      omega (arith, column_within (chars (take n text)), few, length-take n text),
    )

-- ---- blocks that say where they end

one_counted : (text other : List ℕ) (b : Block) → take b.size text ≡ take b.size other → IsCounted text b → IsCounted other b
one_counted text other b same is = record {
  within = omega (arith, is.within, ap length same, length-take b.size text, length-take b.size other);
  utf8 = subst IsUtf8 same is.utf8;
  end = is.end ∙ ap (λ (t : List ℕ). place_behind (chars t)) same;
}

-- another text that begins with the same bytes
pub counted_alike : (n : ℕ) (text other : List ℕ) (bs : List Block) → take n text ≡ take n other → size_in bs ≤ n → AreCounted text bs → AreCounted other bs
counted_alike n text other [] same le are = tt
counted_alike n text other (b ∷ bs) same le are =
    let whole : b.size + (n - b.size) ≡ n = omega (arith, le) in (
      one_counted text other b (alike_less b.size n text other (omega (arith, le)) same) are.0,
      counted_alike (n - b.size) (drop b.size text) (drop b.size other) bs
          (alike_behind b.size (n - b.size) text other (subst (λ (m : ℕ). take m text ≡ take m other) (sym whole) same)) (omega (arith, le)) are.1,
    )

pub counted_join : (text : List ℕ) (bs cs : List Block) → AreCounted text bs → AreCounted (drop (size_in bs) text) cs → AreCounted text (bs ++ cs)
counted_join text [] cs are more = more
counted_join text (b ∷ bs) cs are more =
    (are.0, counted_join (drop b.size text) bs cs are.1 (subst (λ (t : List ℕ). AreCounted t cs) (sym (drop-drop (size_in bs) b.size text)) more))

pub counted_split : (text : List ℕ) (bs cs : List Block) → AreCounted text (bs ++ cs) → AreCounted text bs × AreCounted (drop (size_in bs) text) cs
counted_split text [] cs are = (tt, are)
counted_split text (b ∷ bs) cs are =
    let later = counted_split (drop b.size text) bs cs are.1 in
    ((are.0, later.0), subst (λ (t : List ℕ). AreCounted t cs) (drop-drop (size_in bs) b.size text) later.1)

-- blocks in front of a stretch that was replaced, those that came, and those after
pub counted_around : (before text : List ℕ) (bs made : List Block) (f e begin old new : ℕ) → AreCounted before bs → AreSameAround before text begin old new
    → size_in (take f bs) ≤ begin → AreCounted (drop (size_in (take f bs)) text) made → old ≤ size_in (take e bs)
    → size_in (take f bs) + size_in made ≡ new + (size_in (take e bs) - old) → AreCounted text (take f bs ++ (made ++ drop e bs))
counted_around before text bs made f e begin old new are same short here le fits =
    let front = counted_split before (take f bs) (drop f bs) (subst (AreCounted before) (sym (take-append-drop f bs)) are) in
    let behind = counted_split before (take e bs) (drop e bs) (subst (AreCounted before) (sym (take-append-drop e bs)) are) in
    let past = size_in (take e bs) - old in
    let there : drop (size_in (take e bs)) before ≡ drop (size_in made) (drop (size_in (take f bs)) text) =
    ap (λ (n : ℕ). drop n before) (let o : size_in (take e bs) ≡ old + past = omega (arith, le) in o) ∙ sym (drop-drop past old before)
    ∙ ap (drop past) same.behind ∙ drop-drop past new text ∙ ap (λ (n : ℕ). drop n text) (sym fits) ∙ sym (drop-drop (size_in made) (size_in (take f bs)) text) in
    counted_join text (take f bs) (made ++ drop e bs) (counted_alike begin before text (take f bs) same.front short front.0)
    (counted_join (drop (size_in (take f bs)) text) made (drop e bs) here (subst (λ (t : List ℕ). AreCounted t (drop e bs)) there behind.1))

-- ---- by their pieces

-- blocks have the bytes of their pieces
pub marked_sizes : (r : ModeRules) (s : Stack) (bs : List Block) → AreMarked r s bs → size_in bs ≡ sizes (pieces_in bs)
marked_sizes r s [] are = refl
marked_sizes r s (b ∷ bs) are =
    omega (arith, are.0.size, marked_sizes r (after_pieces r b.pieces.items s) bs are.1, sizes_join b.pieces.items (pieces_in bs))

-- the blocks that are put together say where they end
module _ (r : ModeRules) (bs made : List Block) (cut : List Kept) (f p c l q d e : ℕ) (first : IsSpot bs f p c) (last : IsSpot bs l q d) (ends : drop e bs ≡ drop (suc l) bs)
    (items : pieces_in made ≡ take p (pieces_at bs f) ++ (cut ++ drop q (pieces_at bs l))) (all : AreMarked r start bs) (t : Stack) (marked : AreMarked r t made) where
  front_marked : AreMarked r start (take f bs)
  front_marked = (marked_split r start (take f bs) (drop f bs) (subst (λ (cs : List Block). AreMarked r start cs) (sym (take-append-drop f bs)) all)).0

  behind_marked : AreMarked r start (take e bs)
  behind_marked = (marked_split r start (take e bs) (drop e bs) (subst (λ (cs : List Block). AreMarked r start cs) (sym (take-append-drop e bs)) all)).0

  pub front_size : size_in (take f bs) ≡ sizes (pieces_in (take f bs))
  front_size = marked_sizes r start (take f bs) front_marked

  cut_from : sizes (take c (pieces_in bs)) ≡ size_in (take f bs) + sizes (take p (pieces_at bs f))
  cut_from = omega (arith, ap sizes (spot_front bs f p c first), sizes_join (pieces_in (take f bs)) (take p (pieces_at bs f)), front_size)

  made_size : size_in made ≡ sizes (take p (pieces_at bs f)) + sizes cut + sizes (drop q (pieces_at bs l))
  made_size =
      omega (
        arith,
        marked_sizes r t made marked,
        ap sizes items,
        sizes_join (take p (pieces_at bs f)) (cut ++ drop q (pieces_at bs l)),
        sizes_join cut (drop q (pieces_at bs l)),
      )

  old_end : size_in (take e bs) ≡ sizes (take d (pieces_in bs)) + sizes (drop q (pieces_at bs l))
  old_end =
      omega (
        arith,
        marked_sizes r start (take e bs) behind_marked,
        ap sizes (pieces_front bs e),
        sizes_join (pieces_in (take e bs)) (pieces_in (drop e bs)),
        ap sizes (take-append-drop d (pieces_in bs)),
        sizes_join (take d (pieces_in bs)) (drop d (pieces_in bs)),
        ap sizes (spot_behind bs l q d last),
        sizes_join (drop q (pieces_at bs l)) (pieces_in (drop (suc l) bs)),
        ap (λ (cs : List Block). sizes (pieces_in cs)) ends,
      )

  pub joined_counted : (before text : List ℕ) → AreCounted before bs
      → AreSameAround before text (sizes (take c (pieces_in bs))) (sizes (take d (pieces_in bs))) (sizes (take c (pieces_in bs) ++ cut))
      → AreCounted (drop (sizes (pieces_in (take f bs))) text) made → AreCounted text (take f bs ++ (made ++ drop e bs))
  joined_counted before text are same here =
      counted_around before text bs made f e (sizes (take c (pieces_in bs))) (sizes (take d (pieces_in bs))) (sizes (take c (pieces_in bs) ++ cut)) are same (omega (arith, cut_from))
      (subst (λ (n : ℕ). AreCounted (drop n text) made) (sym front_size) here) (omega (arith, old_end))
      (omega (arith, made_size, old_end, cut_from, sizes_join (take c (pieces_in bs)) cut))

-- all pieces in the end, as those in front of the blocks that change, those of these blocks, and those after
pub joined_all : (bs : List Block) (cut : List Kept) (f p c l q d : ℕ) → IsSpot bs f p c → IsSpot bs l q d
    → take c (pieces_in bs) ++ (cut ++ drop d (pieces_in bs))
    ≡ pieces_in (take f bs) ++ ((take p (pieces_at bs f) ++ (cut ++ drop q (pieces_at bs l))) ++ pieces_in (drop (suc l) bs))
joined_all bs cut f p c l q d first last =
    ap (λ (ks : List Kept). ks ++ (cut ++ drop d (pieces_in bs))) (spot_front bs f p c first)
    ∙ ap (λ (ks : List Kept). (pieces_in (take f bs) ++ take p (pieces_at bs f)) ++ (cut ++ ks)) (spot_behind bs l q d last)
    ∙ sym (regroup (pieces_in (take f bs)) (take p (pieces_at bs f)) cut (drop q (pieces_at bs l)) (pieces_in (drop (suc l) bs)))

-- ---- where pieces of a text end, characters do

pub kept_boundaries : (r : ModeRules) (text : List ℕ) (ks : List Kept) (to : ℕ) (t : Stack) → IsUtf8 text → KeptUpTo r text 0 start ks to t → (n : ℕ)
    → IsCharBoundary text (sizes (take n ks))
kept_boundaries r text ks to t u are n =
    let p = kept_split r text 0 start (take n ks) (drop n ks) to t (subst (λ (ls : List Kept). KeptUpTo r text 0 start ls to t) (sym (take-append-drop n ks)) are) in
    let ends : p.0 ≡ sizes (take n ks) = omega (arith, (kept_sizes r text 0 start (take n ks) p.0 p.1.0 p.1.1.0).0) in
    subst (IsCharBoundary text) ends (kept_boundary r text 0 start (take n ks) p.0 p.1.0 (IsCharBoundary-start text u) u p.1.1.0)

-- so do some of them, after those in front
pub some_boundaries : (text : List ℕ) (front ks behind : List Kept) → ((n : ℕ) → IsCharBoundary text (sizes (take n (front ++ (ks ++ behind))))) → (n : ℕ)
    → IsCharBoundary text (sizes front + sizes (take n ks))
some_boundaries text front ks behind each n =
    let head = front ++ take n ks in
    let same : take (length head) (front ++ (ks ++ behind)) ≡ head = ap (take (length head)) (around front ks behind n) ∙ take_at head (drop n ks ++ behind) (length head) refl in
    subst (IsCharBoundary text) (ap sizes same ∙ sizes_join front (take n ks)) (each (length head))

-- ---- marks

pub begin_mark : (text : List ℕ) → IsUtf8 text → IsMark text (record { at = 0; place = record { line = 1; column = 1 } })
begin_mark text u = record { boundary = IsCharBoundary-start text u; place = sym (ap place_behind chars-nil) }

-- the mark where a block ends
module _ (text : List ℕ) (u : IsUtf8 text) (m : Mark) (mark : IsMark text m) (b : Block) (is : IsCounted (drop m.at text) b) where
  pub block_boundary : IsCharBoundary text (m.at + b.size)
  block_boundary =
      IsCharBoundary-from_rest text m.at b.size mark.boundary.0 (IsCharBoundary-from_take (drop m.at text) b.size (IsUtf8-drop text m.at u mark.boundary) is.within is.utf8)

  pub block_place : position_of text (m.at + b.size) ≡ moved m.place b.end
  block_place =
      position_moved text m.at b.size u mark.boundary ∙ ap (λ (p : Position). moved p (position_of (drop m.at text) b.size)) (sym mark.place) ∙ ap (moved m.place) (sym is.end)

-- the mark where a stretch ends
pub stretch_place : (text : List ℕ) (m : Mark) (to : ℕ) → IsUtf8 text → IsMark text m → m.at ≤ to → position_of text to ≡ place_after m.place (take (to - m.at) (drop m.at text))
stretch_place text m to u mark le =
    let whole : m.at + (to - m.at) ≡ to = omega (arith, le) in
    ap (position_of text) (sym whole) ∙ position_moved text m.at (to - m.at) u mark.boundary
    ∙ ap (λ (p : Position). moved p (position_of (drop m.at text) (to - m.at))) (sym mark.place)

-- ---- the place that is looked for

-- no offset between the two has the place
abbrev pub HasNone : List ℕ → Position → ℕ → ℕ → Type 0
HasNone text place from to = (n : ℕ) → IsCharBoundary text n → from ≤ n → n < to → position_of text n ≢ place

-- in front of a mark that lies before the place none has it
pub none_before : (text : List ℕ) (m : Mark) (place : Position) → IsUtf8 text → IsMark text m → IsBefore m.place place → HasNone text place 0 m.at
none_before text m place u mark before n boundary le less same =
    let ascends = places_ascend text n m.at u boundary mark.boundary less in
    not_before (position_of text n) place same
    (before_trans (position_of text n) m.place place (subst (IsBefore (position_of text n)) (sym mark.place) ascends) before)

-- and after one that doesn't lie before it none has it
pub none_behind : (text : List ℕ) (m : Mark) (place : Position) → IsUtf8 text → IsMark text m → ¬ IsBefore m.place place → (n : ℕ) → IsCharBoundary text n → m.at < n
    → position_of text n ≢ place
none_behind text m place u mark not n boundary less same =
    not (subst (λ (p : Position). IsBefore p place) (sym mark.place) (subst (IsBefore (position_of text m.at)) same (places_ascend text m.at n u mark.boundary boundary less)))

-- ---- one block further

counted_next_of : (text : List ℕ) (bs : List Block) (i : ℕ) (b : Block) → slice_get bs i ≡ Some b → AreCounted text (drop i bs)
    → IsCounted text b × AreCounted (drop b.size text) (drop (suc i) bs)
counted_next_of text [] i b there are = absurd (none-some b there)
counted_next_of text (x ∷ bs) zero b there are =
    let same : x ≡ b = same_Some x b there in subst (λ (y : Block). IsCounted text y × AreCounted (drop y.size text) bs) same are
counted_next_of text (x ∷ bs) (suc i) b there are = counted_next_of text bs i b there are

pub counted_next : (text : List ℕ) (at : ℕ) (bs : List Block) (i : ℕ) (b : Block) → slice_get bs i ≡ Some b → AreCounted (drop at text) (drop i bs)
    → IsCounted (drop at text) b × AreCounted (drop (at + b.size) text) (drop (i + 1) bs)
counted_next text at bs i b there are =
    let next = counted_next_of (drop at text) bs i b there are in
    let further : suc i ≡ i + 1 = omega arith in
    (next.0, subst (λ (n : ℕ). AreCounted (drop (at + b.size) text) (drop n bs)) further (subst (λ (t : List ℕ). AreCounted t (drop (suc i) bs)) (drop-drop b.size at text) next.1))

-- one character further
pub none_more : (text rest rest2 : List ℕ) (m : Mark) (from to c : ℕ) (place : Position) → IsUtf8 text → IsMark text m → IsCut text m.at rest → rest ≡ encode_utf8 c ++ rest2
    → to ≡ m.at + length (encode_utf8 c) → IsBefore m.place place → HasNone text place from m.at → HasNone text place from to
none_more text rest rest2 m from to c place u mark cut step is before none n boundary le less = by (cases_order n m.at)
  where
    by : (n ≡ m.at) ⊎ ((n < m.at) ⊎ (m.at < n)) → position_of text n ≢ place
    by (inl same) = λ e. not_before m.place place (mark.place ∙ ap (position_of text) (sym same) ∙ e) before
    by (inr (inl earlier)) = none n boundary le earlier
    by (inr (inr later)) = absurd (no_boundary text rest rest2 m.at to c n u cut step is later less boundary)

-- a text is cut where a character begins
pub cut_here : (text : List ℕ) (at : ℕ) → IsUtf8 text → IsCharBoundary text at → IsCut text at (drop at text)
cut_here text at u b = record {
  split = sym (take-append-drop at text);
  place = omega (arith, length-take at text, b.0);
  seen_utf8 = IsUtf8-take text at u b;
  rest_utf8 = IsUtf8-drop text at u b;
}
