use Rattle.lalrpop_build.proofs.Inserting.{set_added}
use Rattle.lalrpop_build.proofs.worklist.BTreeSetItemSeen.add.Goals as goal

pub returns-clause-added : goal.returns-clause-added
returns-clause-added c = set_added c.args.self.now c.insert.new.self c.args.item _ c.in_ok-insert.ensures.updates c.in_ok-insert.ensures.ordered c.in_ok-insert.ensures.added c.in_ok-insert.ensures.len
