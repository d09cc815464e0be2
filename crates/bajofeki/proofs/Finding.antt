-- Blocks and pieces that are found by a byte.
use Rattle.std.proofs.Common.{◌≡◌, ℕ, zero, suc, ◌+◌, ◌<◌, ◌≤◌, List, [], ◌∷◌, ◌++◌, length, take, drop, arith, sym, ap, subst, ◌∙◌, append_assoc}
use Rattle.std.specs.Prelude.{Some, slice_get}
use Rattle.std.specs.Str.{IsUtf8, IsCharBoundary}
use Rattle.std.proofs.lemmas.List.{take-append-drop}
use Rattle.std.proofs.lemmas.Option.{same_Some, slice_get_within, get_or_from_slice_get}
use Rattle.bajofeki_rules.specs.Stack.{Stack, start}
use Rattle.lalrpop_rules.specs.Modes.{ModeRules}
use Rattle.lalrpop_rules.specs.Pieces.{IsSame}
use Rattle.lalrpop_rules.specs.declared.piece.Piece.{Piece}
use Rattle.bajofeki.specs.Internal.Blocks.{AreBlocks, AreMarked, IsBlockAt, IsPieceAt, pieces_in, size_in, sizes}
use Rattle.bajofeki.specs.Internal.KeptPieces.{AddsHolding, item_at, items_from}
use Rattle.bajofeki.specs.Internal.Kept.{KeptUpTo}
use Rattle.bajofeki.specs.Lexed.{ArePiecesIn}
use Rattle.bajofeki.specs.declared.block.Block.{Block}
use Rattle.bajofeki.specs.declared.kept.Kept.{Kept}
use Rattle.bajofeki.proofs.BlockLaws.{blocks_kept, blocks_marked, kept_sizes, marked_at, marked_split, pieces_join, pieces_more, sizes_join}
use Rattle.bajofeki.proofs.Holding.{adds_none, adds_on, adds_one, all_within, are_in}
use Rattle.bajofeki.proofs.LineLaws.{kept_boundaries, marked_sizes, some_boundaries}

-- what lies in front of an element, the element, and what lies after it
split_at : {X : Type 0} (xs : List X) (n : ℕ) (x : X) → slice_get xs n ≡ Some x → xs ≡ take n xs ++ x ∷ drop (suc n) xs
split_at [] n x e = absurd (cc)
split_at {X} (y ∷ xs) zero x e = ap (λ (z : X). z ∷ xs) (same_Some y x e)
split_at {X} (y ∷ xs) (suc n) x e = ap (λ (zs : List X). y ∷ zs) (split_at xs n x e)

size_in_more : (bs : List Block) (n : ℕ) (b : Block) → slice_get bs n ≡ Some b → size_in (take (suc n) bs) ≡ size_in (take n bs) + b.size
size_in_more [] n b e = absurd (cc)
size_in_more (c ∷ bs) zero b e = let same : c.size ≡ b.size = ap (λ (x : Block). x.size) (same_Some c b e) in omega (arith, same)
size_in_more (c ∷ bs) (suc n) b e = omega (arith, size_in_more bs n b e)

-- one block more
pub block_passed : (bs : List Block) (n : ℕ) (b : Block) (begins : ℕ) → slice_get bs n ≡ Some b → begins ≡ size_in (take n bs)
    → begins + b.size ≡ size_in (take (n + 1) bs)
block_passed bs n b begins there e =
    let more : size_in (take (n + 1) bs) ≡ size_in (take (suc n) bs) = ap (λ (m : ℕ). size_in (take m bs)) (let o : n + 1 ≡ suc n = omega arith in o) in
    omega (arith, more, size_in_more bs n b there, e)

module _ (r : ModeRules) (text : List ℕ) (bs : List Block) (t : Stack) (are : AreBlocks r text 0 start bs (length text) t) (u : IsUtf8 text) where
  pub kept : KeptUpTo r text 0 start (pieces_in bs) (length text) t
  kept = blocks_kept r text 0 start bs (length text) t are

  marked : AreMarked r start bs
  marked = blocks_marked r text 0 start bs (length text) t are

  -- the blocks have the bytes of the text
  pub all_bytes : size_in bs ≡ length text
  all_bytes = omega (arith, marked_sizes r start bs marked, (kept_sizes r text 0 start (pieces_in bs) (length text) t kept).0)

  module _ (n : ℕ) (b : Block) (there : slice_get bs n ≡ Some b) where
    front_bytes : size_in (take n bs) ≡ sizes (pieces_in (take n bs))
    front_bytes = marked_sizes r start (take n bs) (marked_split r start (take n bs) (drop n bs) (subst (AreMarked r start) (sym (take-append-drop n bs)) marked)).0

    around_block : pieces_in bs ≡ pieces_in (take n bs) ++ (b.pieces.items ++ pieces_in (drop (suc n) bs))
    around_block = ap pieces_in (split_at bs n b there) ∙ pieces_join (take n bs) (b ∷ drop (suc n) bs)

    -- a block has the bytes of its pieces
    pub block_bytes : b.size ≡ sizes b.pieces.items
    block_bytes =
        let same = get_or_from_slice_get bs n b b there in
        omega (
          arith,
          (marked_at r start bs n b (slice_get_within bs n b there) marked).size,
          ap (λ (x : Block). x.size) same,
          ap (λ (x : Block). sizes x.pieces.items) same,
        )

    -- where its pieces end, characters do
    pub block_bounds : (m : ℕ) → IsCharBoundary text (size_in (take n bs) + sizes (take m b.pieces.items))
    block_bounds m =
        subst (λ (a : ℕ). IsCharBoundary text (a + sizes (take m b.pieces.items))) (sym front_bytes)
        (some_boundaries text (pieces_in (take n bs)) b.pieces.items (pieces_in (drop (suc n) bs))
        (λ (i : ℕ). subst (λ (ks : List Kept). IsCharBoundary text (sizes (take i ks))) around_block (kept_boundaries r text (pieces_in bs) (length text) t u kept i)) m)

    -- so does the block
    pub block_ends : size_in (take n bs) + b.size ≤ length text
    block_ends = omega (arith, all_within text (size_in (take n bs)) b.pieces.items block_bounds, block_bytes)

    -- those of its pieces that hold a byte of the range come after those of the blocks in front
    pub block_adds : (from to : ℕ) (old new : List Piece) → AddsHolding from to [] old (items_from r.skips text 0 (pieces_in (take n bs)))
        → AddsHolding from to old new (items_from r.skips text (size_in (take n bs)) b.pieces.items)
        → AddsHolding from to [] new (items_from r.skips text 0 (pieces_in (take (n + 1) bs)))
    block_adds from to old new first later =
        let more : pieces_in (take (n + 1) bs) ≡ pieces_in (take n bs) ++ b.pieces.items =
        pieces_more bs n b (slice_get_within bs n b there) ∙ ap (λ (x : Block). pieces_in (take n bs) ++ x.pieces.items) (get_or_from_slice_get bs n b b there) in
        let place : size_in (take n bs) ≡ 0 + sizes (pieces_in (take n bs)) = omega (arith, front_bytes) in
        subst (λ (ks : List Kept). AddsHolding from to [] new (items_from r.skips text 0 ks)) (sym more)
        (adds_on from to r.skips text [] old new 0 (pieces_in (take n bs)) b.pieces.items first
        (subst (λ (a : ℕ). AddsHolding from to old new (items_from r.skips text a b.pieces.items)) place later))

  -- ---- the piece that holds a byte

  module _ (b : Block) (from at : ℕ) (f : IsBlockAt bs b from at) where
    -- the pieces of the block reach after the byte
    pub block_reaches : at < from + sizes b.pieces.items
    block_reaches = omega (arith, f.behind, block_bytes f.number b f.there)

    module _ (k : Kept) (begins : ℕ) (g : IsPieceAt b.pieces.items from k begins at) where
      front : List Kept
      front = pieces_in (take f.number bs) ++ take g.number b.pieces.items

      behind : List Kept
      behind = drop (suc g.number) b.pieces.items ++ pieces_in (drop (suc f.number) bs)

      around_piece : pieces_in bs ≡ front ++ k ∷ behind
      unfolding front behind
      around_piece =
          let outer = pieces_in (take f.number bs) in
          let inner = take g.number b.pieces.items in
          let last = pieces_in (drop (suc f.number) bs) in
          around_block f.number b f.there ∙ ap (λ (ks : List Kept). outer ++ (ks ++ last)) (split_at b.pieces.items g.number k g.there)
          ∙ ap (λ (ks : List Kept). outer ++ ks) (append_assoc inner (k ∷ drop (suc g.number) b.pieces.items) last)
          ∙ sym (append_assoc outer inner (k ∷ behind))

      place_is : begins ≡ sizes front
      unfolding front
      place_is =
          omega (arith, g.begins_is, f.begins_is, front_bytes f.number b f.there, sizes_join (pieces_in (take f.number bs)) (take g.number b.pieces.items))

      all_sizes : begins + (k.size + sizes behind) ≡ length text
      all_sizes =
          omega (
            arith,
            place_is,
            (kept_sizes r text 0 start (pieces_in bs) (length text) t kept).0,
            ap sizes around_piece,
            sizes_join front (k ∷ behind),
          )

      -- it lies on characters of the text
      pub held_bounds : IsCharBoundary text begins × IsCharBoundary text (begins + k.size)
      held_bounds =
          let each : (i : ℕ) → IsCharBoundary text (sizes front + sizes (take i (k ∷ []))) =
          some_boundaries text front (k ∷ []) behind
          (λ (i : ℕ). subst (λ (ks : List Kept). IsCharBoundary text (sizes (take i ks))) around_piece (kept_boundaries r text (pieces_in bs) (length text) t u kept i)) in
          let begin : sizes front + 0 ≡ begins = omega (arith, place_is) in
          let end : sizes front + (k.size + 0) ≡ begins + k.size = omega (arith, place_is) in
          (subst (IsCharBoundary text) begin (each 0), subst (IsCharBoundary text) end (each 1))

      -- it is the one piece of the text that holds the byte
      pub held_piece : (x : Piece) → IsSame x (item_at r.skips text begins k) → ArePiecesIn (record { rules = r; text = text }) at (at + 1) (x ∷ [])
      held_piece x same =
          let place : begins ≡ 0 + sizes front = omega (arith, place_is) in
          let there = subst (λ (a : ℕ). IsSame x (item_at r.skips text a k)) place same in
          let one = adds_one at (at + 1) r.skips text [] (0 + sizes front) k x (omega (arith, place, all_sizes)) (omega (arith, place, g.before, g.behind)) there in
          let none = adds_none at (at + 1) r.skips text (x ∷ []) ((0 + sizes front) + sizes (k ∷ [])) behind (omega (arith, place, all_sizes)) (omega (arith, place, g.behind)) in
          let before = adds_none at (at + 1) r.skips text [] 0 front (omega (arith, place, all_sizes)) (omega (arith, place, g.before)) in
          are_in at (at + 1) (record { rules = r; text = text }) (x ∷ []) (pieces_in bs) t kept
          (subst (λ (ks : List Kept). AddsHolding at (at + 1) [] (x ∷ []) (items_from r.skips text 0 ks)) (sym around_piece)
          (adds_on at (at + 1) r.skips text [] [] (x ∷ []) 0 front (k ∷ behind) before
          (adds_on at (at + 1) r.skips text [] (x ∷ []) (x ∷ []) (0 + sizes front) (k ∷ []) behind one none)))
