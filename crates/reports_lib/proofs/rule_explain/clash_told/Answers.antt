use Rattle.std.proofs.Common.{append_assoc}
use Rattle.std.proofs.lemmas.Result.{IfOk-weaker}
use Rattle.reports_lib.proofs.rule_explain.clash_told.Goals as goal

pub returns : goal.returns
returns c = record { told = IfOk-weaker c.format.result _ _ (λ message e. simp append_assoc at e) c.format.ensures.ok }
