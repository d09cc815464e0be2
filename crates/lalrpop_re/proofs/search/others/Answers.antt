use Rattle.std.proofs.lemmas.Result.{IfOk-weaker}
use Rattle.lalrpop_hir.specs.Range.{Covered}
use Rattle.lalrpop_hir.specs.Runs.{IsCanon}
use Rattle.lalrpop_re.proofs.Rows.{canon-others}
use Rattle.lalrpop_re.proofs.search.others.Goals as goal

pub returns : goal.returns
returns c = IfOk-weaker c.complement.result _ (IsCanon (λ k. ¬ Covered c.args.ranges.items k)) (λ class k. canon-others c.args.ranges.items _ class c.in_ok-class.ensures.runs k) c.complement.ensures.runs
