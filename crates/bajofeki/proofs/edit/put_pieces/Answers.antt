use Rattle.std.proofs.Common.{◌≡◌, ℕ, suc, ◌+◌, ◌≤◌, ◌⊎◌, ◌++◌, List, length, take, drop, inl, inr, arith, sym, ap, subst, ◌∙◌}
use Rattle.bajofeki.specs.declared.block.Block.{Block}
use Rattle.bajofeki.specs.declared.kept.Kept.{Kept}
use Rattle.std.specs.Str.{IsCharBoundary}
use Rattle.std.proofs.lemmas.Result.{on_ok_weaker}
use Rattle.bajofeki_rules.specs.Stack.{Stack, start}
use Rattle.bajofeki.specs.Internal.Blocks.{pieces_in, pieces_at, sizes, after_pieces, AreMarked}
use Rattle.bajofeki.specs.Internal.BlockPlaces.{AreCounted}
use Rattle.bajofeki.proofs.LineLaws.{joined_all, joined_counted, some_boundaries}
use Rattle.bajofeki.proofs.Relexing.{joined_fit, joined_pieces, joined_marked, ends_same}
use Rattle.bajofeki.proofs.edit.put_pieces.Goals as goal
use Rattle.bajofeki.proofs.edit.put_pieces.Goals.{then-last-len, else-last-len}

pub blocks_of-requires : goal.blocks_of-requires
blocks_of-requires c =
    let bs = c.args.blocks.now.items in
    let f = c.args.first.now in
    let l = c.args.last.now in
    let cut = c.args.cut.now in
    let items = c.deref-2.ensures.value ∙ c.in_ok-pieces.ensures.pieces
    ∙ ap (λ (xs : List Block). take f.piece (pieces_at xs f.block) ++ (cut ++ drop l.piece (pieces_at xs l.block))) c.deref.ensures.value in
    record {
      fits = omega (arith, c.requires.at, ap sizes items, joined_fit bs cut f.block f.piece f.count l.block l.piece l.count c.requires.first c.requires.last, c.requires.fits);
      boundaries = λ n.
          subst (λ (m : ℕ). IsCharBoundary c.args.text.now m)
          (ap (λ (m : ℕ). m + sizes (take n (take f.piece (pieces_at bs f.block) ++ (cut ++ drop l.piece (pieces_at bs l.block))))) (sym c.requires.at)
          ∙ ap (λ (ks : List Kept). c.args.begin.now.at + sizes (take n ks)) (sym items))
          (some_boundaries c.args.text.now (pieces_in (take f.block bs)) (take f.piece (pieces_at bs f.block) ++ (cut ++ drop l.piece (pieces_at bs l.block)))
          (pieces_in (drop (suc l.block) bs))
          (subst (λ (ks : List Kept). (m : ℕ) → IsCharBoundary c.args.text.now (sizes (take m ks)))
          (joined_all bs cut f.block f.piece f.count l.block l.piece l.count c.requires.first c.requires.last) c.requires.boundaries) n);
    }

pub returns-clause-marked : goal.returns-clause-marked
returns-clause-marked c =
    let r = c.args.lexer.now in
    let bs = c.args.blocks.now.items in
    let made = c.in_ok-made.made.items in
    let f = c.args.first.now in
    let l = c.args.last.now in
    let cut = c.args.cut.now in
    let e = c.if-last-len.to in
    let items = c.in_ok-made.ensures.pieces ∙ c.deref-2.ensures.value ∙ c.in_ok-pieces.ensures.pieces
    ∙ ap (λ (xs : List Block). take f.piece (pieces_at xs f.block) ++ (cut ++ drop l.piece (pieces_at xs l.block))) c.deref.ensures.value in
    let cases : (e ≡ l.block + 1) ⊎ ((length bs ≤ l.block) × (length bs ≤ e)) =
    elim c.if-last-len.branch [ then-last-len w ↦ inl (omega arith) | else-last-len w ↦ inr (omega (arith, c.args.blocks.now.ok.0), omega (arith, c.args.blocks.now.ok.0)) ] in
    let met : (length bs ≤ l.block) ⊎ (after_pieces r (take f.count (pieces_in bs) ++ cut) start ≡ after_pieces r (take l.count (pieces_in bs)) start) =
    elim c.requires.met [ inl is ↦ inl (omega (arith, is)) | inr same ↦ inr same ] in
    let here : AreMarked r (after_pieces r (pieces_in (take f.block bs)) start) made = subst (λ (s : Stack). AreMarked r s made) c.requires.stack c.in_ok-made.ensures.marked in
    on_ok_weaker c.put_blocks.result
    (λ is.
    subst (AreMarked r start) (sym is)
    (joined_marked bs made cut f.block f.piece f.count l.block l.piece l.count e c.requires.first c.requires.last (ends_same bs l.block e cases) items r c.requires.marked here met))
    c.put_blocks.ensures.items

pub returns-clause-counted : goal.returns-clause-counted
returns-clause-counted c =
    let r = c.args.lexer.now in
    let bs = c.args.blocks.now.items in
    let made = c.in_ok-made.made.items in
    let f = c.args.first.now in
    let l = c.args.last.now in
    let cut = c.args.cut.now in
    let e = c.if-last-len.to in
    let text = c.args.text.now in
    let items = c.in_ok-made.ensures.pieces ∙ c.deref-2.ensures.value ∙ c.in_ok-pieces.ensures.pieces
    ∙ ap (λ (xs : List Block). take f.piece (pieces_at xs f.block) ++ (cut ++ drop l.piece (pieces_at xs l.block))) c.deref.ensures.value in
    let cases : (e ≡ l.block + 1) ⊎ ((length bs ≤ l.block) × (length bs ≤ e)) =
    elim c.if-last-len.branch [ then-last-len w ↦ inl (omega arith) | else-last-len w ↦ inr (omega (arith, c.args.blocks.now.ok.0), omega (arith, c.args.blocks.now.ok.0)) ] in
    let here : AreCounted (drop (sizes (pieces_in (take f.block bs))) text) made = subst (λ (n : ℕ). AreCounted (drop n text) made) c.requires.at c.in_ok-made.ensures.counted in
    on_ok_weaker c.put_blocks.result
    (λ is before are same.
    subst (AreCounted text) (sym is)
    (joined_counted r bs made cut f.block f.piece f.count l.block l.piece l.count e c.requires.first c.requires.last (ends_same bs l.block e cases) items c.requires.marked c.args.begin.now.stack
    c.in_ok-made.ensures.marked before text are same here))
    c.put_blocks.ensures.items

pub returns-clause-pieces : goal.returns-clause-pieces
returns-clause-pieces c =
    let bs = c.args.blocks.now.items in
    let made = c.in_ok-made.made.items in
    let f = c.args.first.now in
    let l = c.args.last.now in
    let cut = c.args.cut.now in
    let e = c.if-last-len.to in
    let items = c.in_ok-made.ensures.pieces ∙ c.deref-2.ensures.value ∙ c.in_ok-pieces.ensures.pieces
    ∙ ap (λ (xs : List Block). take f.piece (pieces_at xs f.block) ++ (cut ++ drop l.piece (pieces_at xs l.block))) c.deref.ensures.value in
    let cases : (e ≡ l.block + 1) ⊎ ((length bs ≤ l.block) × (length bs ≤ e)) =
    elim c.if-last-len.branch [ then-last-len w ↦ inl (omega arith) | else-last-len w ↦ inr (omega (arith, c.args.blocks.now.ok.0), omega (arith, c.args.blocks.now.ok.0)) ] in
    on_ok_weaker c.put_blocks.result
    (λ is.
    ap pieces_in is
    ∙ joined_pieces bs made cut f.block f.piece f.count l.block l.piece l.count e c.requires.first c.requires.last (ends_same bs l.block e cases) items)
    c.put_blocks.ensures.items
