use Rattle.std.proofs.Common.{subst}
use Rattle.std.specs.Result.{IfOk}
use Rattle.lalrpop_build.specs.Internal.Expansion.{IsAdded}
use Rattle.lalrpop_build.proofs.build.sets.Sets.successor_in_order.Goals as goal

pub returns-clause-added : goal.returns-clause-added
returns-clause-added c =
    subst (λ t. IfOk c.add.result (λ j. IsAdded c.args.self.now c.args.origin t j c.add.new.self)) (c.in_ok-target.ensures c.args.origin.1 c.requires.transitions) c.add.ensures.added
