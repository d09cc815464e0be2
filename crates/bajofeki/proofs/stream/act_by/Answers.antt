use Rattle.bajofeki.proofs.Chunking.{there_either_way}
use Rattle.bajofeki.proofs.stream.act_by.Goals as goal

pub returns-else-is_empty-clause-there : goal.returns-else-is_empty-clause-there
returns-else-is_empty-clause-there c =
    there_either_way c.act_all.result c.args.lexer.now.modes c.actions-actions.result.now c.args.stack.now c.act_all.new.self c.act_all.ensures.acted c.act_all.ensures.refused
    c.actions-actions.ensures.within
