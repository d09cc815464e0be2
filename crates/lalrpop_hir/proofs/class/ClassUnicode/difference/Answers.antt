use Rattle.std.proofs.lemmas.Result.{IfOk-weaker}
use Rattle.lalrpop_hir.specs.Range.{Covered}
use Rattle.lalrpop_hir.specs.Runs.{IsCanon, InFirstAlone}
use Rattle.lalrpop_hir.proofs.Complements.{less-canon}
use Rattle.lalrpop_hir.proofs.class.ClassUnicode.difference.Goals as goal

pub returns : goal.returns
returns c =
    record {
      runs = IfOk-weaker c.complement-3.result (λ r. IsCanon (λ k. ¬ Covered c.in_ok-union.field-0 k) r) (λ r. IsCanon (InFirstAlone c.args.self.now c.args.other.now) r)
          (λ r k. less-canon c.args.self.now c.args.other.now c.in_ok-outside.outside c.in_ok-union.field-0 r c.in_ok-outside.ensures.runs c.in_ok-union.ensures.runs k) c.complement-3.ensures.runs;
    }
