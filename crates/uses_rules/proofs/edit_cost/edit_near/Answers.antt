use Rattle.uses_rules.proofs.EditCosts.{within_stretch}
use Rattle.uses_rules.proofs.edit_cost.edit_near.Goals as goal

pub returns-clause-cost : goal.returns-clause-cost
returns-clause-cost c = λ none.
    within_stretch c.edit_counted.new.self c.in_ok-change.change c.args.steps.now c.edit_counted.new.steps none c.in_ok-change.ensures.cost
