use Rattle.std.proofs.Common.{◌≡◌, ℕ, ◌+◌, ◌-◌, ◌++◌, [], ◌∷◌, List, take, drop, arith, sym, ap, subst, ◌∙◌}
use Rattle.bajofeki.specs.declared.kept.Kept.{Kept}
use Rattle.bajofeki.specs.declared.block.Block.{Block}
use Rattle.std.specs.Str.{IsCharBoundary}
use Rattle.std.proofs.lemmas.List.{append-nil, drop-drop}
use Rattle.bajofeki.specs.Internal.Blocks.{pieces_in, size_in, sizes, after_pieces, IsMarked, AreMarked}
use Rattle.bajofeki.proofs.BlockLaws.{sizes_join, after_join, sizes_front, pieces_join, marked_join, split_run}
use Rattle.bajofeki.specs.Internal.BlockPlaces.{AreCounted, IsCounted}
use Rattle.bajofeki.proofs.LineLaws.{counted_join, marked_sizes}
use Rattle.bajofeki.proofs.block.blocks_of.Goals as goal

pub block_of-requires : goal.block_of-requires
block_of-requires c =
    let ks = c.args.pieces.now in
    let from = c.loop-from.from in
    let n = c.loop-from.from + c.share.result - c.loop-from.from in
    let inv = c.loop-from.invariant in
    let text = c.args.text.now in
    let ends : c.args.place.now.at + sizes (take (from + n) ks) ≡ c.loop-from.place.at + sizes (take n (drop from ks)) =
    omega (arith, inv.at, ap sizes (split_run from n ks), sizes_join (take from ks) (take n (drop from ks))) in
    record {
      fits = omega (arith, ends, c.requires.fits, sizes_front (from + n) ks);
      begins = subst (IsCharBoundary text) (sym inv.at) (c.requires.boundaries from);
      ends = subst (IsCharBoundary text) ends (c.requires.boundaries (from + n));
    }

pub loop-from-preserved : goal.loop-from-preserved
loop-from-preserved c =
    let r = c.args.lexer.now in
    let ks = c.args.pieces.now in
    let from = c.loop-from.from in
    let n = c.loop-from.from + c.share.result - c.loop-from.from in
    let inv = c.loop-from.invariant in
    let made = c.in_ok-block.ensures in
    let s = c.args.place.now.stack in
    let run : take (c.loop-from.from + c.share.result) ks ≡ take from ks ++ take n (drop from ks) =
    ap (λ (m : ℕ). take m ks) (omega arith) ∙ split_run from n ks in
    let before : IsMarked (after_pieces r (pieces_in c.loop-from.blocks.items) s) c.in_ok-block.block =
    subst (λ (v : _). IsMarked v c.in_ok-block.block) (inv.stack ∙ ap (λ (ls : List Kept). after_pieces r ls s) (sym inv.pieces)) made.marked in
    let front : drop c.loop-from.place.at c.args.text.now ≡ drop (size_in c.loop-from.blocks.items) (drop c.args.place.now.at c.args.text.now) =
    ap (λ (m : ℕ). drop m c.args.text.now) (omega (arith, inv.at, marked_sizes r s c.loop-from.blocks.items inv.marked, ap sizes inv.pieces))
    ∙ sym (drop-drop (size_in c.loop-from.blocks.items) c.args.place.now.at c.args.text.now) in
    record {
      within = omega (arith, c.share.ensures.within, c.loop-from-test.true);
      at = omega (arith, made.at, inv.at, ap sizes run, sizes_join (take from ks) (take n (drop from ks)));
      stack =
          made.stack ∙ ap (after_pieces r (take n (drop from ks))) inv.stack ∙ sym (after_join r (take from ks) (take n (drop from ks)) s)
          ∙ ap (λ (ls : List Kept). after_pieces r ls s) (sym run);
      marked =
          subst (λ (bs : List Block). AreMarked r s bs) (sym c.in_ok-push.ensures.items)
          (marked_join r s c.loop-from.blocks.items (c.in_ok-block.block ∷ []) inv.marked (before, tt));
      pieces =
          ap pieces_in c.in_ok-push.ensures.items ∙ pieces_join c.loop-from.blocks.items (c.in_ok-block.block ∷ [])
          ∙ ap (λ (ls : List Kept). pieces_in c.loop-from.blocks.items ++ ls) (append-nil c.in_ok-block.block.pieces.items ∙ made.pieces)
          ∙ ap (λ (ls : List Kept). ls ++ take n (drop from ks)) inv.pieces ∙ sym run;
      counted =
          subst (λ (bs : List Block). AreCounted (drop c.args.place.now.at c.args.text.now) bs) (sym c.in_ok-push.ensures.items)
          (counted_join (drop c.args.place.now.at c.args.text.now) c.loop-from.blocks.items (c.in_ok-block.block ∷ []) inv.counted
          (subst (λ (t : List ℕ). IsCounted t c.in_ok-block.block) front made.counted, tt));
    }
