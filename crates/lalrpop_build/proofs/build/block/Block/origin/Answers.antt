use Rattle.lalrpop_build.proofs.build.block.Block.origin.Goals as goal

pub returns : goal.returns
returns c = c.new.ensures
