use Rattle.std.proofs.Common.{refl}
use Rattle.lalrpop_build.proofs.Inserting.{inserted_one}
use Rattle.lalrpop_build.proofs.worklist.Worklist.insert.Goals as goal

pub returns-in_ok-push-clause-inserted : goal.returns-in_ok-push-clause-inserted
returns-in_ok-push-clause-inserted g c = inserted_one _ c.args.item c.in_ok-add.field-0 _ _ _ c.in_ok-add.ensures.added (rw c.if-branch.true c.in_ok-push.ensures.items)

pub returns-else-branch-clause-inserted : goal.returns-else-branch-clause-inserted
returns-else-branch-clause-inserted g c = inserted_one _ c.args.item c.in_ok-add.field-0 _ _ _ c.in_ok-add.ensures.added (rw c.if-branch.false refl)
