use Rattle.std.proofs.Common.{◌+◌, ℕ, List, [], length, take, refl, sym, subst, arith}
use Rattle.std.specs.Str.{IsCharBoundary}
use Rattle.std.proofs.lemmas.List.{take_all}
use Rattle.std.proofs.lemmas.Option.{slice_get_read}
use Rattle.bajofeki.specs.declared.block.Block.{Block}
use Rattle.bajofeki.specs.Internal.Blocks.{pieces_in, sizes}
use Rattle.bajofeki.specs.Internal.KeptPieces.{AddsHolding, items_from}
use Rattle.bajofeki.proofs.Finding.{block_adds, block_bounds, block_bytes, block_ends, block_passed, kept}
use Rattle.bajofeki.proofs.Holding.{are_in}
use Rattle.bajofeki.proofs.pieces.pieces_holding.Goals as goal

pub push_all_holding-requires-clause-size : goal.push_all_holding-requires-clause-size
push_all_holding-requires-clause-size c =
    let bs = c.args.blocks.now in
    let b = c.block-item.result in
    let there = slice_get_read bs (length bs) c.loop-block.block-index b refl c.loop-block-test.true c.block-item.is in
    block_bytes c.args.lexer.now c.args.text.now bs c.requires.blocks.0 c.requires.blocks.1 c.utf8.text c.loop-block.block-index b there

pub push_all_holding-requires-clause-boundaries : goal.push_all_holding-requires-clause-boundaries
push_all_holding-requires-clause-boundaries c = λ n.
    let bs = c.args.blocks.now in
    let b = c.block-item.result in
    let there = slice_get_read bs (length bs) c.loop-block.block-index b refl c.loop-block-test.true c.block-item.is in
    subst (λ (m : ℕ). IsCharBoundary c.args.text.now (m + sizes (take n b.pieces.items))) (sym c.loop-block.invariant.begins)
    (block_bounds c.args.lexer.now c.args.text.now bs c.requires.blocks.0 c.requires.blocks.1 c.utf8.text c.loop-block.block-index b there n)

pub overflow_add-begins : goal.overflow_add-begins
overflow_add-begins c =
    let bs = c.args.blocks.now in
    let b = c.block-item.result in
    let there = slice_get_read bs (length bs) c.loop-block.block-index b refl c.loop-block-test.true c.block-item.is in
    let ends = block_ends c.args.lexer.now c.args.text.now bs c.requires.blocks.0 c.requires.blocks.1 c.utf8.text c.loop-block.block-index b there in
    omega (arith, ends, c.loop-block.invariant.begins, c.type_inv.text)

pub loop-block-preserved : goal.loop-block-preserved
loop-block-preserved c =
    let r = c.args.lexer.now in
    let text = c.args.text.now in
    let bs = c.args.blocks.now in
    let n = c.loop-block.block-index in
    let b = c.block-item.result in
    let inv = c.loop-block.invariant in
    let from = c.args.range.now.start in
    let to = c.args.range.now.end in
    let new = c.push_all_holding.new.items.items in
    let there = slice_get_read bs (length bs) n b refl c.loop-block-test.true c.block-item.is in
    let adds = subst (λ (m : ℕ). AddsHolding from to c.loop-block.items.items new (items_from r.skips text m b.pieces.items)) inv.begins c.in_ok-push_all_holding.ensures.items in
    record {
      begins = block_passed bs n b c.loop-block.begins there inv.begins;
      adds = block_adds r text bs c.requires.blocks.0 c.requires.blocks.1 c.utf8.text n b there from to c.loop-block.items.items new inv.adds adds;
    }

pub returns : goal.returns
returns c =
    let r = c.args.lexer.now in
    let text = c.args.text.now in
    let bs = c.args.blocks.now in
    let from = c.args.range.now.start in
    let to = c.args.range.now.end in
    let items = c.loop-block.items.items in
    let adds =
    subst (λ (cs : List Block). AddsHolding from to [] items (items_from r.skips text 0 (pieces_in cs))) (take_all c.loop-block.block-index bs c.loop-block-test.false)
    c.loop-block.invariant.adds in
    record { pieces = are_in from to (record { rules = r; text = text }) items (pieces_in bs) c.requires.blocks.0 (kept r text bs c.requires.blocks.0 c.requires.blocks.1 c.utf8.text) adds }
