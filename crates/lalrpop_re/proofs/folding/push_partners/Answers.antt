use Rattle.std.proofs.Common.{◌≡◌, ℕ, get_or, take, sym, subst, inl, inr, arith}
use Rattle.std.proofs.lemmas.List.{take_all, take_more}
use Rattle.lalrpop_re.proofs.FoldLaws.{HasTaken, taken, not_taken, all_taken}
use Rattle.lalrpop_re.proofs.folding.push_partners.Goals as goal
use Rattle.lalrpop_re.proofs.folding.push_partners.Goals.{in-Some+in_ok-push, in_default}

pub loop-pair-preserved : goal.loop-pair-preserved
loop-pair-preserved c =
    let ps = c.pairs_from-pair-items.result.now in
    let i = c.loop-pair.pair-index in
    let p : ℕ × ℕ = get_or ps i (0, 0) in
    let base = c.args.ranges.now.items in
    let now = c.loop-pair.ranges.items in
    subst (λ l. HasTaken base l c.match-from_u32.ranges.items) (sym (take_more ps i (0, 0) c.loop-pair-test.true))
    (elim c.match-from_u32.branch [
      | in-Some+in_ok-push w ↦ rw (w.ranges-is, w.in_ok-push.ensures.items, w.new.ensures.ends, w.in-Some.ensures.value.1) (taken base now (take i ps) p c.loop-pair.invariant)
      | in_default w ↦ rw w.ranges-is (not_taken base now (take i ps) p (λ u. let out = w.in_default.ensures.cases in elim u [ inl h ↦ omega (arith, out) | inr h ↦ omega (arith, out) ]) c.loop-pair.invariant)
    ])

pub returns : goal.returns
returns c =
    let ps = c.pairs_from-pair-items.result.now in
    let all : take c.loop-pair.pair-index ps ≡ ps = take_all c.loop-pair.pair-index ps c.loop-pair-test.false in
    all_taken c.args.ranges.now.items c.loop-pair.ranges.items ps c.args.range.now
    (subst (λ l. HasTaken c.args.ranges.now.items l c.loop-pair.ranges.items) all c.loop-pair.invariant)
    (rw (← c.start.ensures.value, ← c.end.ensures.value) c.pairs_from-pair-items.ensures)
