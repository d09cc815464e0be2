use Rattle.std.proofs.Common.{refl, ◌∙◌}
use Rattle.lalrpop_build.proofs.build.block.Block.label.Goals as goal

pub returns : goal.returns
returns c = c.new-2.ensures.value ∙ rw (c.new.ensures.start, c.new.ensures.end) refl
