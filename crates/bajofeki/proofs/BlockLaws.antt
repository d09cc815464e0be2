-- What is told of pieces and of blocks without their text, and what it says of them in a text.
use Rattle.std.proofs.Common.{◌≡◌, ℕ, zero, suc, ◌+◌, ◌<◌, ◌≤◌, get_or, List, [], ◌∷◌, ◌++◌, length, take, drop, arith, refl, sym, ap, subst, ◌∙◌, append_assoc, length-append}
use Rattle.std.specs.Prelude.{slice_get, Some}
use Rattle.std.proofs.lemmas.Option.{none-some}
use Rattle.std.proofs.lemmas.List.{take_all, take_more, take_at, drop_at, take-append-drop, take-take, drop-take, append-nil, length-take-le}
use Rattle.bajofeki_rules.specs.Stack.{Stack}
use Rattle.lalrpop_rules.specs.Modes.{ModeRules}
use Rattle.bajofeki.specs.Internal.Kept.{KeptUpTo, AreWithin, after_kept, reach_of}
use Rattle.bajofeki.specs.declared.kept.Kept.{Kept}
use Rattle.bajofeki.specs.declared.block.Block.{Block}
use Rattle.bajofeki.specs.Internal.Blocks.{IsBlock, AreBlocks, pieces_in, sizes, after_pieces, IsMarked, AreMarked, pieces_at, IsSpot}
use Rattle.bajofeki.proofs.KeptLaws.{kept_join, kept_split, within_behind}

-- ---- pieces

pub sizes_join : (ks ls : List Kept) → sizes (ks ++ ls) ≡ sizes ks + sizes ls
sizes_join [] ls = omega arith
sizes_join (k ∷ ks) ls = omega (arith, sizes_join ks ls)

pub after_join : (r : ModeRules) (ks ls : List Kept) (s : Stack) → after_pieces r (ks ++ ls) s ≡ after_pieces r ls (after_pieces r ks s)
after_join r [] ls s = refl
after_join r (k ∷ ks) ls s = after_join r ks ls (after_kept r k s)

-- pieces of a text end where their sizes say, with the stack after them
pub kept_sizes : (r : ModeRules) (text : List ℕ) (at : ℕ) (s : Stack) (ks : List Kept) (to : ℕ) (t : Stack) → KeptUpTo r text at s ks to t
    → (to ≡ at + sizes ks) × (t ≡ after_pieces r ks s)
kept_sizes r text at s [] to t here = (omega (arith, here.0), sym here.1)
kept_sizes r text at s (k ∷ ks) to t are =
    let later = kept_sizes r text (at + k.size) (after_kept r k s) ks to t are.1 in (omega (arith, later.0), later.1)

pub kept_at : (r : ModeRules) (text : List ℕ) (at : ℕ) (s : Stack) (ks : List Kept) (to : ℕ) (t : Stack) → KeptUpTo r text at s ks to t
    → KeptUpTo r text at s ks (at + sizes ks) (after_pieces r ks s)
kept_at r text at s ks to t are =
    let e = kept_sizes r text at s ks to t are in
    subst (λ (a : ℕ). KeptUpTo r text at s ks a (after_pieces r ks s)) e.0 (subst (λ (v : Stack). KeptUpTo r text at s ks to v) e.1 are)

-- ---- blocks

pub pieces_join : (bs cs : List Block) → pieces_in (bs ++ cs) ≡ pieces_in bs ++ pieces_in cs
pieces_join [] cs = refl
pieces_join (b ∷ bs) cs = ap (λ (ks : List Kept). b.pieces.items ++ ks) (pieces_join bs cs) ∙ sym (append_assoc b.pieces.items (pieces_in bs) (pieces_in cs))

-- the pieces before a block, those of the block, and those after it
pub pieces_around : (bs : List Block) (n : ℕ) → pieces_in bs ≡ pieces_in (take n bs) ++ (pieces_at bs n ++ pieces_in (drop (suc n) bs))
pieces_around [] zero = refl
pieces_around [] (suc n) = refl
pieces_around (b ∷ bs) zero = refl
pieces_around (b ∷ bs) (suc n) =
    ap (λ (ks : List Kept). b.pieces.items ++ ks) (pieces_around bs n) ∙ sym (append_assoc b.pieces.items (pieces_in (take n bs)) (pieces_at bs n ++ pieces_in (drop (suc n) bs)))

pub marked_join : (r : ModeRules) (s : Stack) (bs cs : List Block) → AreMarked r s bs → AreMarked r (after_pieces r (pieces_in bs) s) cs → AreMarked r s (bs ++ cs)
marked_join r s [] cs are more = more
marked_join r s (b ∷ bs) cs are more =
    (are.0, marked_join r (after_pieces r b.pieces.items s) bs cs are.1 (subst (λ (v : Stack). AreMarked r v cs) (after_join r b.pieces.items (pieces_in bs) s) more))

pub marked_split : (r : ModeRules) (s : Stack) (bs cs : List Block) → AreMarked r s (bs ++ cs) → AreMarked r s bs × AreMarked r (after_pieces r (pieces_in bs) s) cs
marked_split r s [] cs are = (tt, are)
marked_split r s (b ∷ bs) cs are =
    let later = marked_split r (after_pieces r b.pieces.items s) bs cs are.1 in
    ((are.0, later.0), subst (λ (v : Stack). AreMarked r v cs) (sym (after_join r b.pieces.items (pieces_in bs) s)) later.1)

-- the blocks of a text have its pieces, and what they say of those is true
pub blocks_kept : (r : ModeRules) (text : List ℕ) (at : ℕ) (s : Stack) (bs : List Block) (to : ℕ) (t : Stack) → AreBlocks r text at s bs to t
    → KeptUpTo r text at s (pieces_in bs) to t
blocks_kept r text at s [] to t here = here
blocks_kept r text at s (b ∷ bs) to t are =
    kept_join r text at s b.pieces.items (at + b.size) are.0 (pieces_in bs) to t are.1.0.pieces (blocks_kept r text (at + b.size) are.0 bs to t are.1.1)

-- how far pieces reach, from the place where they begin on
pub from_place : (n at : ℕ) (ks : List Kept) → AreWithin (at + n) at ks → AreWithin n 0 ks
from_place n at ks within = subst (λ (m : ℕ). AreWithin m 0 ks) (omega arith) (within_behind at 0 ks n within)

pub to_place : (n at : ℕ) (ks : List Kept) → AreWithin n 0 ks → AreWithin (at + n) at ks
to_place n at ks within = within_behind 0 at ks n (subst (λ (m : ℕ). AreWithin m 0 ks) (omega arith) within)

block_marked : (r : ModeRules) (text : List ℕ) (at : ℕ) (s u : Stack) (b : Block) → IsBlock r text at s b u → IsMarked s b × (u ≡ after_pieces r b.pieces.items s)
block_marked r text at s u b is =
    let e = kept_sizes r text at s b.pieces.items (at + b.size) u is.pieces in
    (record { stack = is.stack; size = omega (arith, e.0); within = from_place b.reach at b.pieces.items is.within; least = λ n w. is.least n (to_place n at b.pieces.items w) }, e.1)

pub blocks_marked : (r : ModeRules) (text : List ℕ) (at : ℕ) (s : Stack) (bs : List Block) (to : ℕ) (t : Stack) → AreBlocks r text at s bs to t → AreMarked r s bs
blocks_marked r text at s [] to t here = tt
blocks_marked r text at s (b ∷ bs) to t are =
    let m = block_marked r text at s are.0 b are.1.0 in
    (m.0, subst (λ (v : Stack). AreMarked r v bs) m.1 (blocks_marked r text (at + b.size) are.0 bs to t are.1.1))

-- and the other way round
pub marked_blocks : (r : ModeRules) (text : List ℕ) (at : ℕ) (s : Stack) (bs : List Block) (to : ℕ) (t : Stack) → AreMarked r s bs
    → KeptUpTo r text at s (pieces_in bs) to t → AreBlocks r text at s bs to t
marked_blocks r text at s [] to t marked here = here
marked_blocks r text at s (b ∷ bs) to t marked are =
    let p = kept_split r text at s b.pieces.items (pieces_in bs) to t are in
    let e = kept_sizes r text at s b.pieces.items p.0 p.1.0 p.1.1.0 in
    let ends : p.0 ≡ at + b.size = omega (arith, e.0, marked.0.size) in (
      p.1.0,
      (
        record {
          stack = marked.0.stack;
          pieces = subst (λ (a : ℕ). KeptUpTo r text at s b.pieces.items a p.1.0) ends p.1.1.0;
          within = to_place b.reach at b.pieces.items marked.0.within;
          least = λ n w. marked.0.least n (from_place n at b.pieces.items w);
        },
        marked_blocks r text (at + b.size) p.1.0 bs to t (subst (λ (v : Stack). AreMarked r v bs) (sym e.1) marked.1)
            (subst (λ (a : ℕ). KeptUpTo r text a p.1.0 (pieces_in bs) to t) ends p.1.1.1),
      ),
    )

-- ---- a loop over pieces

pub split_run : (n m : ℕ) (ks : List Kept) → take (n + m) ks ≡ take n ks ++ take m (drop n ks)
split_run n m ks =
    sym (take-append-drop n (take (n + m) ks)) ∙ ap (λ (ls : List Kept). ls ++ drop n (take (n + m) ks)) (take-take n (n + m) ks (omega arith))
    ∙ ap (λ (ls : List Kept). take n ks ++ ls) (drop-take n m ks)

pub sizes_front : (n : ℕ) (ks : List Kept) → sizes (take n ks) ≤ sizes ks
sizes_front n ks = omega (arith, sizes_join (take n ks) (drop n ks), ap sizes (take-append-drop n ks))

pub sizes_more : (ks : List Kept) (i : ℕ) (d : Kept) → i < length ks → sizes (take (i + 1) ks) ≡ sizes (take i ks) + (get_or ks i d).size
sizes_more ks i d lt = ap sizes (take_more ks i d lt) ∙ sizes_join (take i ks) (get_or ks i d ∷ []) ∙ omega arith

pub after_more : (r : ModeRules) (ks : List Kept) (i : ℕ) (d : Kept) (s : Stack) → i < length ks
    → after_pieces r (take (i + 1) ks) s ≡ after_kept r (get_or ks i d) (after_pieces r (take i ks) s)
after_more r ks i d s lt = ap (λ (ls : List Kept). after_pieces r ls s) (take_more ks i d lt) ∙ after_join r (take i ks) (get_or ks i d ∷ []) s

pub within_push : (n at : ℕ) (ks : List Kept) (k : Kept) → AreWithin n at ks → at + sizes ks + reach_of k ≤ n → AreWithin n at (ks ++ k ∷ [])
within_push n at [] k are le = (omega (arith, le), tt)
within_push n at (l ∷ ks) k are le = (are.0, within_push n (at + l.size) ks k are.1 (omega (arith, le)))

pub within_pushed : (n at : ℕ) (ks : List Kept) (k : Kept) → AreWithin n at (ks ++ k ∷ []) → AreWithin n at ks × (at + sizes ks + reach_of k ≤ n)
within_pushed n at [] k are = (tt, omega (arith, are.0))
within_pushed n at (l ∷ ks) k are = let later = within_pushed n (at + l.size) ks k are.1 in ((are.0, later.0), omega (arith, later.1))

pub within_before : (n at : ℕ) (ks : List Kept) (i : ℕ) (d : Kept) → i < length ks → AreWithin n at (take (i + 1) ks)
    → AreWithin n at (take i ks) × (at + sizes (take i ks) + reach_of (get_or ks i d) ≤ n)
within_before n at ks i d lt are = within_pushed n at (take i ks) (get_or ks i d) (subst (AreWithin n at) (take_more ks i d lt) are)

pub within_next : (n at : ℕ) (ks : List Kept) (i : ℕ) (d : Kept) → i < length ks → AreWithin n at (take i ks)
    → at + sizes (take i ks) + reach_of (get_or ks i d) ≤ n → AreWithin n at (take (i + 1) ks)
within_next n at ks i d lt are le = subst (AreWithin n at) (sym (take_more ks i d lt)) (within_push n at (take i ks) (get_or ks i d) are le)

-- ---- places among the pieces of blocks

-- the piece with a number, and the first one from there on
pub got_behind : (ks : List Kept) (n : ℕ) → slice_get ks n ≡ slice_get (drop n ks) 0
got_behind ks zero = refl
got_behind [] (suc n) = refl
got_behind (k ∷ ks) (suc n) = got_behind ks n

pub got_front : (ks ls : List Kept) (k : Kept) → slice_get ks 0 ≡ Some k → slice_get (ks ++ ls) 0 ≡ Some k
got_front [] ls k at = absurd (none-some k at)
got_front (l ∷ ks) ls k at = at

-- what lies in front of a place, and after it
pub around : (front ks behind : List Kept) (n : ℕ) → front ++ (ks ++ behind) ≡ (front ++ take n ks) ++ (drop n ks ++ behind)
around front ks behind n =
    ap (λ (ls : List Kept). front ++ (ls ++ behind)) (sym (take-append-drop n ks))
    ∙ ap (λ (ls : List Kept). front ++ ls) (append_assoc (take n ks) (drop n ks) behind)
    ∙ sym (append_assoc front (take n ks) (drop n ks ++ behind))

module _ (bs : List Block) (block piece count : ℕ) (spot : IsSpot bs block piece count) where
  spot_around : pieces_in bs ≡ (pieces_in (take block bs) ++ take piece (pieces_at bs block)) ++ (drop piece (pieces_at bs block) ++ pieces_in (drop (suc block) bs))
  spot_around = pieces_around bs block ∙ around (pieces_in (take block bs)) (pieces_at bs block) (pieces_in (drop (suc block) bs)) piece

  spot_length : length (pieces_in (take block bs) ++ take piece (pieces_at bs block)) ≡ count
  spot_length =
      omega (arith, length-append (pieces_in (take block bs)) (take piece (pieces_at bs block)), length-take-le piece (pieces_at bs block) spot.piece_in, spot.count_is)

  pub spot_front : take count (pieces_in bs) ≡ pieces_in (take block bs) ++ take piece (pieces_at bs block)
  spot_front =
      ap (take count) spot_around
      ∙ take_at (pieces_in (take block bs) ++ take piece (pieces_at bs block)) (drop piece (pieces_at bs block) ++ pieces_in (drop (suc block) bs)) count spot_length

  pub spot_behind : drop count (pieces_in bs) ≡ drop piece (pieces_at bs block) ++ pieces_in (drop (suc block) bs)
  spot_behind =
      ap (drop count) spot_around
      ∙ drop_at (pieces_in (take block bs) ++ take piece (pieces_at bs block)) (drop piece (pieces_at bs block) ++ pieces_in (drop (suc block) bs)) count spot_length

  pub spot_within : count ≤ length (pieces_in bs)
  spot_within =
      omega (arith, spot_length, ap length spot_around, length-append (pieces_in (take block bs) ++ take piece (pieces_at bs block)) (drop piece (pieces_at bs block) ++ pieces_in (drop (suc block) bs)))

-- after the last block there are no pieces
pub none_at : (bs : List Block) (n : ℕ) → length bs ≤ n → pieces_at bs n ≡ []
none_at [] n le = refl
none_at (b ∷ bs) zero le = absurd (omega arith)
none_at (b ∷ bs) (suc n) le = none_at bs n (omega arith)

pub block_at : (bs : List Block) (n : ℕ) (d : Block) → n < length bs → pieces_at bs n ≡ (get_or bs n d).pieces.items
block_at [] n d lt = absurd (omega arith)
block_at (b ∷ bs) zero d lt = refl
block_at (b ∷ bs) (suc n) d lt = block_at bs n d (omega arith)

-- one block further
pub pieces_more : (bs : List Block) (n : ℕ) (d : Block) → n < length bs → pieces_in (take (n + 1) bs) ≡ pieces_in (take n bs) ++ (get_or bs n d).pieces.items
pieces_more bs n d lt =
    ap pieces_in (take_more bs n d lt) ∙ pieces_join (take n bs) (get_or bs n d ∷ []) ∙ ap (λ (ks : List Kept). pieces_in (take n bs) ++ ks) (append-nil (get_or bs n d).pieces.items)

pub marked_at : (r : ModeRules) (s : Stack) (bs : List Block) (n : ℕ) (d : Block) → n < length bs → AreMarked r s bs
    → IsMarked (after_pieces r (pieces_in (take n bs)) s) (get_or bs n d)
marked_at r s [] n d lt are = absurd (omega arith)
marked_at r s (b ∷ bs) zero d lt are = are.0
marked_at r s (b ∷ bs) (suc n) d lt are =
    subst (λ (v : Stack). IsMarked v (get_or bs n d)) (sym (after_join r b.pieces.items (pieces_in (take n bs)) s))
    (marked_at r (after_pieces r b.pieces.items s) bs n d (omega arith) are.1)

-- the blocks in front have some of the pieces
pub pieces_front : (bs : List Block) (n : ℕ) → pieces_in bs ≡ pieces_in (take n bs) ++ pieces_in (drop n bs)
pieces_front bs n = ap pieces_in (sym (take-append-drop n bs)) ∙ pieces_join (take n bs) (drop n bs)

-- a place that is told from the pieces in front of it is told the same way from one piece further
module _ (bs : List Block) (block piece count : ℕ) (spot : IsSpot bs block piece count) where
  pub spot_room : piece < length (pieces_at bs block) → count < length (pieces_in bs)
  spot_room lt =
      omega (
        arith,
        lt,
        spot.count_is,
        ap length (pieces_around bs block),
        length-append (pieces_in (take block bs)) (pieces_at bs block ++ pieces_in (drop (suc block) bs)),
        length-append (pieces_at bs block) (pieces_in (drop (suc block) bs)),
      )

  -- the next piece is the next of its block
  pub spot_next : (k : Kept) → slice_get (pieces_at bs block) piece ≡ Some k → slice_get (pieces_in bs) count ≡ Some k
  spot_next k at =
      got_behind (pieces_in bs) count ∙ ap (λ (ks : List Kept). slice_get ks 0) (spot_behind bs block piece count spot)
      ∙ got_front (drop piece (pieces_at bs block)) (pieces_in (drop (suc block) bs)) k (sym (got_behind (pieces_at bs block) piece) ∙ at)

  pub spot_end : length bs ≤ block → count ≡ length (pieces_in bs)
  spot_end le =
      omega (arith, le, spot.count_is, spot.piece_in, ap length (none_at bs block le), ap length (ap pieces_in (take_all block bs le)))

  pub spot_further : (b : Block) → b ≡ get_or bs block b → block < length bs → piece ≡ length b.pieces.items → IsSpot bs (block + 1) 0 count
  spot_further b is lt end = record {
    block_in = omega (arith, lt);
    piece_in = omega arith;
    count_is =
        omega (arith, spot.count_is, end, ap length (pieces_more bs block b lt), length-append (pieces_in (take block bs)) (get_or bs block b).pieces.items, ap (λ (x : Block). length x.pieces.items) is);
  }
