use Rattle.std.proofs.Common.{◌≡◌, ◌+◌, ◌<◌, ◌≤◌, length, rules, inl, inr, get_or, sym, ap, ◌∙◌, subst}
use Rattle.std.specs.Prelude.{Some, slice_get}
use Rattle.std.proofs.lemmas.Option.{slice_get-get_or}
use Rattle.lalrpop_review.proofs.Counting.{AreCounts, rule_counted, rule_passed}
use Rattle.lalrpop_review.proofs.kind_counts.kind_counts.Goals as goal
use Rattle.lalrpop_review.proofs.kind_counts.kind_counts.Goals.{then-kind-len+then-belongs, else-kind-len, else-kind-len-via-then-kind-len+else-belongs, else-kind-len-via-else-kind-len}

pub loop-index-preserved : goal.loop-index-preserved
loop-index-preserved c =
    let r = c.args.lexer.now in
    let kind = get_or c.kinds-kinds.result.now c.loop-index.index 0 in
    let at : slice_get r.kinds c.loop-index.index ≡ Some kind =
    ap (λ ks. slice_get ks c.loop-index.index) (sym c.kinds-kinds.ensures.kinds) ∙ slice_get-get_or c.kinds-kinds.result.now c.loop-index.index 0 c.loop-index-test.true in
    elim c.if-kind-len.branch [
      | then-kind-len+then-belongs w ↦
          (let within : kind < length c.loop-index.counts.items = search rules in
          rule_counted r c.args.mode c.loop-index.index kind c.loop-index.counts.items at c.loop-index.invariant c.if-kind-len.counts.items w.index_mut.result.now w.if-belongs.ensures within
          w.index_mut.ensures.value (ap (λ v. v.items) w.counts-is))
      | else-kind-len w ↦
          subst (λ v. AreCounts r c.args.mode (c.loop-index.index + 1) v.items) (sym w.counts-is)
          (elim w.else-kind-len.branch [
            | else-kind-len-via-then-kind-len+else-belongs x ↦ rule_passed r c.args.mode c.loop-index.index kind c.loop-index.counts.items at c.loop-index.invariant (inr x.if-belongs.ensures)
            | else-kind-len-via-else-kind-len x ↦ rule_passed r c.args.mode c.loop-index.index kind c.loop-index.counts.items at c.loop-index.invariant (inl (let past : length c.loop-index.counts.items ≤ kind = search rules in past))
          ])
    ]
