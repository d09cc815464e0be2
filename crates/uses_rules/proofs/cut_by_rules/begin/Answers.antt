use Rattle.std.proofs.Common.{[], refl}
use Rattle.std.proofs.lemmas.Result.{IfOk-weaker}
use Rattle.uses_rules.proofs.cut_by_rules.begin.Goals as goal

pub returns-clause-cost : goal.returns-clause-cost
returns-clause-cost c = IfOk-weaker c.pieces.result _ _ (λ s cost. cost [] s refl) c.pieces.ensures.cost
