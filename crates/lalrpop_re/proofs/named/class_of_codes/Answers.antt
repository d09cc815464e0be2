use Rattle.std.proofs.Common.{ℕ, get_or, take, sym, subst}
use Rattle.std.proofs.lemmas.List.{take_all, take_more}
use Rattle.std.proofs.lemmas.Result.{IfOk-weaker}
use Rattle.unicode.specs.Rows.{in_ranges}
use Rattle.lalrpop_hir.specs.Range.{Covered}
use Rattle.lalrpop_hir.specs.Runs.{IsCanon}
use Rattle.lalrpop_re.specs.CharacterSet.{HasRuns}
use Rattle.lalrpop_re.proofs.SpanLaws.{HasCodes, codes-pushed, codes-left_out, codes-canon}
use Rattle.lalrpop_re.proofs.named.class_of_codes.Goals as goal
use Rattle.lalrpop_re.proofs.named.class_of_codes.Goals.{then-low-high+in_ok-push, else-low-high}

pub loop-first-preserved : goal.loop-first-preserved
loop-first-preserved c =
    let ps = c.args.codes.now in
    let i = c.loop-first.first-index in
    let p : ℕ × ℕ = get_or ps i (0, 0) in
    let rs = c.loop-first.ranges.items in
    subst (λ l. HasCodes l c.if-low-high.ranges.items) (sym (take_more ps i (0, 0) c.loop-first-test.true))
    (elim c.if-low-high.branch [
      | then-low-high+in_ok-push w ↦ rw (w.ranges-is, w.in_ok-push.ensures.items, w.new.ensures.ends) (codes-pushed (take i ps) rs p _ _ w.if-low-high.true c.first_from-low.ensures c.last_to-high.ensures c.loop-first.invariant)
      | else-low-high w ↦ rw w.ranges-is (codes-left_out (take i ps) rs p _ _ w.if-low-high.false c.first_from-low.ensures c.last_to-high.ensures c.loop-first.invariant)
    ])

pub returns : goal.returns
returns c =
    let ps = c.args.codes.now in
    let rs = c.loop-first.ranges.items in
    let codes : HasCodes ps rs = subst (λ l. HasCodes l rs) (take_all c.loop-first.first-index ps c.loop-first-test.false) c.loop-first.invariant in
    IfOk-weaker c.new-2.result (λ r. IsCanon (Covered rs) r) (λ r. HasRuns r (in_ranges ps)) (λ r k. codes-canon ps rs r codes k) c.new-2.ensures.runs
