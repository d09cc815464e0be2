use Rattle.std.proofs.Common.{sym, ◌∙◌}
use Rattle.bajofeki.proofs.BlockLaws.{none_at, block_at}
use Rattle.bajofeki.proofs.edit.pieces_of.Goals as goal

pub returns-then-number-blocks : goal.returns-then-number-blocks
returns-then-number-blocks c = record {
  pieces = c.deref.ensures.value ∙ sym (block_at c.args.blocks.now c.args.number c.index-blocks-number.result c.if-number-blocks.true);
}

pub returns : goal.returns
returns c = record { pieces = sym (none_at c.args.blocks.now c.args.number c.if-number-blocks.false) }
