use Rattle.std.proofs.Common.{◌≡◌, [], ◌∷◌, ap, arith}
use Rattle.std.proofs.lemmas.Result.{IfOk-weaker}
use Rattle.lalrpop_hir.specs.Range.{Range, Covered}
use Rattle.lalrpop_hir.specs.Runs.{IsCanon}
use Rattle.lalrpop_re.proofs.Rows.{canon-only}
use Rattle.lalrpop_re.proofs.search.only.Goals as goal

pub returns : goal.returns
returns c =
    let start : c.new.result.start ≡ c.args.c = omega (arith, ap (λ (x : Range). x.start) c.new.ensures.ends) in
    let stop : c.new.result.end ≡ c.args.c = omega (arith, ap (λ (x : Range). x.end) c.new.ensures.ends) in
    IfOk-weaker c.new-2.result (IsCanon (Covered (c.new.result ∷ []))) (IsCanon (λ d. d ≡ c.args.c)) (λ class k. canon-only c.new.result class c.args.c (start, stop) k) (rw c.in_ok-vec.ensures.items at c.new-2.ensures.runs)
