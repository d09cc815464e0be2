use Rattle.std.proofs.Common.{ℕ, get_or, take, sym, subst}
use Rattle.std.proofs.lemmas.List.{take_all, take_more}
use Rattle.std.proofs.lemmas.Result.{IfOk-weaker}
use Rattle.unicode.specs.Rows.{in_ranges}
use Rattle.lalrpop_hir.specs.Range.{Covered}
use Rattle.lalrpop_hir.specs.Runs.{IsCanon}
use Rattle.lalrpop_re.specs.CharacterSet.{HasRuns}
use Rattle.lalrpop_re.proofs.SpanLaws.{HasCodes, codes-pushed, codes-canon, range-at}
use Rattle.lalrpop_re.proofs.posix.class_of_ranges.Goals as goal

pub loop-low-preserved : goal.loop-low-preserved
loop-low-preserved c =
    let ps = c.args.pairs.now in
    let i = c.loop-low.low-index in
    let p : ℕ × ℕ = get_or ps i (0, 0) in
    let rs = c.loop-low.ranges.items in
    subst (λ l. HasCodes l c.push.new.self.items) (sym (take_more ps i (0, 0) c.loop-low-test.true))
    (rw (c.in_ok-push.ensures.items, c.new.ensures.ends)
    (codes-pushed (take i ps) rs p p.0 p.1 (range-at ps i (0, 0) c.requires c.loop-low-test.true).0 (λ d u. (λ h. h, λ h. h)) (λ d u. (λ h. h, λ h. h)) c.loop-low.invariant))

pub returns : goal.returns
returns c =
    let ps = c.args.pairs.now in
    let rs = c.loop-low.ranges.items in
    let codes : HasCodes ps rs = subst (λ l. HasCodes l rs) (take_all c.loop-low.low-index ps c.loop-low-test.false) c.loop-low.invariant in
    IfOk-weaker c.new-2.result (λ r. IsCanon (Covered rs) r) (λ r. HasRuns r (in_ranges ps)) (λ r k. codes-canon ps rs r codes k) c.new-2.ensures.runs
