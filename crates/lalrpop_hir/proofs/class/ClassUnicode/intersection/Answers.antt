use Rattle.std.proofs.lemmas.Result.{IfOk-weaker}
use Rattle.lalrpop_hir.specs.Range.{Covered}
use Rattle.lalrpop_hir.specs.Runs.{IsCanon, InBoth}
use Rattle.lalrpop_hir.proofs.Complements.{both-canon}
use Rattle.lalrpop_hir.proofs.class.ClassUnicode.intersection.Goals as goal

pub returns : goal.returns
returns c =
    record {
      runs = IfOk-weaker c.complement-4.result (λ r. IsCanon (λ k. ¬ Covered c.in_ok-union.field-0 k) r) (λ r. IsCanon (InBoth c.args.self.now c.args.other.now) r)
          (λ r k. both-canon c.args.self.now c.args.other.now c.in_ok-outside.outside c.in_ok-outside_other.outside_other c.in_ok-union.field-0 r c.in_ok-outside.ensures.runs c.in_ok-outside_other.ensures.runs c.in_ok-union.ensures.runs k) c.complement-4.ensures.runs;
    }
