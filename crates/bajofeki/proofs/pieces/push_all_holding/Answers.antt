use Rattle.std.proofs.Common.{◌≡◌, ◌+◌, get_or, List, take, ap, sym, subst, arith}
use Rattle.std.specs.Str.{IsCharBoundary}
use Rattle.bajofeki.specs.declared.kept.Kept.{Kept}
use Rattle.bajofeki.specs.Internal.Blocks.{sizes}
use Rattle.bajofeki.specs.Internal.KeptPieces.{AddsHolding, items_from}
use Rattle.bajofeki.proofs.BlockLaws.{sizes_more}
use Rattle.bajofeki.proofs.Holding.{adds_next, adds_none, all_within}
use Rattle.bajofeki.proofs.pieces.push_all_holding.Goals as goal

pub overflow_add-at : goal.overflow_add-at
overflow_add-at c =
    omega (arith, all_within c.args.text.now c.args.at c.args.block.now.pieces.items c.requires.boundaries, c.requires.size, c.type_inv.text)

pub returns-then-max-min : goal.returns-then-max-min
returns-then-max-min c =
    let ks = c.args.block.now.pieces.items in
    let within = all_within c.args.text.now c.args.at ks c.requires.boundaries in
    record {
      items =
          adds_none c.args.range.now.start c.args.range.now.end c.args.lexer.now.skips c.args.text.now c.args.items.now.items c.args.at ks within
          (omega (arith, c.if-max-min.true, c.max.ensures, c.min.ensures, c.requires.size));
    }

pub push_holding-requires-clause-ends : goal.push_holding-requires-clause-ends
push_holding-requires-clause-ends c =
    let d : Kept = record { rule = 0; size = 0; past = 0 } in
    let ks = c.deref-piece-items.result.now in
    let i = c.loop-piece.piece-index in
    let same = c.deref-piece-items.ensures.value in
    let next : c.args.at + sizes (take (i + 1) c.args.block.now.pieces.items) ≡ c.loop-piece.begins + (get_or ks i d).size =
    omega (arith, c.loop-piece.invariant.begins, sizes_more ks i d c.loop-piece-test.true, ap (λ (ls : List Kept). sizes (take i ls)) same, ap (λ (ls : List Kept). sizes (take (i + 1) ls)) same) in
    subst (IsCharBoundary c.args.text.now) next (c.requires.boundaries (i + 1))

pub loop-piece-preserved : goal.loop-piece-preserved
loop-piece-preserved c =
    let d : Kept = record { rule = 0; size = 0; past = 0 } in
    let skips = c.args.lexer.now.skips in
    let text = c.args.text.now in
    let at = c.args.at in
    let from = c.args.range.now.start in
    let to = c.args.range.now.end in
    let old = c.args.items.now.items in
    let mid = c.loop-piece.items.items in
    let new = c.push_holding.new.items.items in
    let ks = c.deref-piece-items.result.now in
    let i = c.loop-piece.piece-index in
    let inv = c.loop-piece.invariant in
    let same = c.deref-piece-items.ensures.value in
    let here = ap (λ (ls : List Kept). sizes (take i ls)) same in
    let first = subst (λ (ls : List Kept). AddsHolding from to old mid (items_from skips text at (take i ls))) (sym same) inv.adds in
    let all = adds_next from to skips text old mid new at c.loop-piece.begins ks i d c.loop-piece-test.true (omega (arith, inv.begins, here)) first c.in_ok-push_holding.ensures.items in
    record {
      begins = omega (arith, inv.begins, sizes_more ks i d c.loop-piece-test.true, here, ap (λ (ls : List Kept). sizes (take (i + 1) ls)) same);
      adds = subst (λ (ls : List Kept). AddsHolding from to old new (items_from skips text at (take (i + 1) ls))) same all;
    }
