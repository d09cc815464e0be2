use Rattle.std.proofs.Common.{◌≤◌, List, length, arith, ap, subst}
use Rattle.std.specs.Prelude.{Option, Some, None, IfNone}
use Rattle.bajofeki.specs.declared.kept.Kept.{Kept}
use Rattle.bajofeki.specs.Internal.Blocks.{IsPieceAt, sizes}
use Rattle.bajofeki.proofs.Finding.{all_bytes, block_reaches, held_bounds, held_piece}
use Rattle.bajofeki.proofs.pieces.piece_holding.Goals as goal

if_none : {T : Type 0} (o : Option T) (P : Type 0) → P → IfNone o P
if_none None P p = p
if_none (Some x) P p = tt

pub returns-in_err-block-clause-none : goal.returns-in_err-block-clause-none
returns-in_err-block-clause-none c =
    let all = all_bytes c.args.lexer.now c.args.text.now c.args.blocks.now c.requires.blocks.0 c.requires.blocks.1 c.utf8.text in
    if_none _ (length c.args.text.now ≤ c.args.at) (omega (arith, all, c.in_err-block.ensures.none))

pub returns-in_err-piece-clause-none : goal.returns-in_err-piece-clause-none
returns-in_err-piece-clause-none c =
    let reaches = block_reaches c.args.lexer.now c.args.text.now c.args.blocks.now c.requires.blocks.0 c.requires.blocks.1 c.utf8.text
    c.in_ok-block.block.now c.in_ok-block.start c.args.at c.in_ok-block.ensures.found in
    absurd (omega (arith, c.in_err-piece.ensures.none, reaches, ap sizes c.deref.ensures.value))

pub piece_of-requires-clause-begins : goal.piece_of-requires-clause-begins
piece_of-requires-clause-begins c =
    let piece = subst (λ (ks : List Kept). IsPieceAt ks c.in_ok-block.start c.in_ok-piece.piece c.in_ok-piece.start c.args.at) c.deref.ensures.value c.in_ok-piece.ensures.found in
    (held_bounds c.args.lexer.now c.args.text.now c.args.blocks.now c.requires.blocks.0 c.requires.blocks.1 c.utf8.text
    c.in_ok-block.block.now c.in_ok-block.start c.args.at c.in_ok-block.ensures.found c.in_ok-piece.piece c.in_ok-piece.start piece).0

pub piece_of-requires-clause-ends : goal.piece_of-requires-clause-ends
piece_of-requires-clause-ends c =
    let piece = subst (λ (ks : List Kept). IsPieceAt ks c.in_ok-block.start c.in_ok-piece.piece c.in_ok-piece.start c.args.at) c.deref.ensures.value c.in_ok-piece.ensures.found in
    (held_bounds c.args.lexer.now c.args.text.now c.args.blocks.now c.requires.blocks.0 c.requires.blocks.1 c.utf8.text
    c.in_ok-block.block.now c.in_ok-block.start c.args.at c.in_ok-block.ensures.found c.in_ok-piece.piece c.in_ok-piece.start piece).1

pub returns-clause-piece : goal.returns-clause-piece
returns-clause-piece c =
    let piece = subst (λ (ks : List Kept). IsPieceAt ks c.in_ok-block.start c.in_ok-piece.piece c.in_ok-piece.start c.args.at) c.deref.ensures.value c.in_ok-piece.ensures.found in
    held_piece c.args.lexer.now c.args.text.now c.args.blocks.now c.requires.blocks.0 c.requires.blocks.1 c.utf8.text
    c.in_ok-block.block.now c.in_ok-block.start c.args.at c.in_ok-block.ensures.found c.in_ok-piece.piece c.in_ok-piece.start piece c.piece_of.result c.piece_of.ensures.piece
