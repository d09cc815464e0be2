use Rattle.std.proofs.Common.{◌≡◌, ◌<◌, arith, sym, subst, ◌∙◌}
use Rattle.std.proofs.lemmas.List.{append-nil}
use Rattle.lalrpop_hir.specs.Range.{Range, Covered}
use Rattle.lalrpop_hir.specs.Runs.{IsCanon}
use Rattle.lalrpop_hir.proofs.Joining.{IsAt}
use Rattle.lalrpop_hir.proofs.Gaps.{to, gaps, prev_scalar, here-canonical, gap-range, top-range, gaps-canon, IsLeavingOut-behind, IsLeavingOut-beside, IsLeavingOut-open, IsLeavingOut-closed}
use Rattle.lalrpop_hir.proofs.class.operations.character_gaps.Goals as goal
use Rattle.lalrpop_hir.proofs.class.operations.character_gaps.Goals.{then-low-start+in_ok-push, else-low-start, then-low-le1114111+in_ok-push-2, else-low-le1114111}

pub loop-run-preserved : goal.loop-run-preserved
loop-run-preserved c =
    let s : Range = c.run-item.result in
    let here : IsAt c.args.runs.now c.loop-run.run-index s = (c.loop-run-test.true, c.run-item.is) in
    let kept = here-canonical _ _ s here c.loop-run.invariant.canonical in
    elim c.if-low-start.branch [
      | then-low-start+in_ok-push w ↦
          let below : c.loop-run.low < s.start = omega (arith, w.if-low-start.true, c.start-start.ensures.value) in
          let gap : w.new.result ≡ to c.loop-run.low (prev_scalar s.start) =
          gap-range _ _ _ _ _ c.loop-run.invariant.place kept.1.0 below w.character.ensures w.character_before.ensures.scalar (w.character_before.ensures.before ∙ c.start-start.ensures.value) w.new.ensures.ends in
          rw (w.gaps-is, w.in_ok-push.ensures.items, c.code_after-low.ensures, c.end.ensures.value) (IsLeavingOut-behind _ _ _ _ s _ c.loop-run.invariant here below gap)
      | else-low-start w ↦
          rw (w.gaps-is, c.code_after-low.ensures, c.end.ensures.value) (IsLeavingOut-beside _ _ _ _ s c.loop-run.invariant here (omega (arith, w.if-low-start.false, c.start-start.ensures.value)))
    ]

pub returns : goal.returns
returns c =
    let all : c.if-low-le1114111.gaps.items ≡ gaps 0 c.args.runs.now =
    elim c.if-low-le1114111.branch [
      | then-low-le1114111+in_ok-push-2 w ↦
          let below : c.loop-run.low < 1114112 = omega (arith, w.if-low-le1114111.true) in
          let gap : w.new-then-low-le1114111.result ≡ to c.loop-run.low 1114111 =
          top-range _ _ _ w.character-then-low-le1114111.ensures below w.new-then-low-le1114111.ensures.ends in
          rw (w.gaps-is, w.in_ok-push-2.ensures.items, gap) (IsLeavingOut-open _ _ _ _ c.loop-run.invariant c.loop-run-test.false below)
      | else-low-le1114111 w ↦
          rw w.gaps-is (sym (append-nil _) ∙ IsLeavingOut-closed _ _ _ _ c.loop-run.invariant c.loop-run-test.false (omega (arith, w.if-low-le1114111.false)))
    ] in
    subst (IsCanon (λ k. ¬ Covered c.args.runs.now k)) (sym all) (gaps-canon c.args.runs.now c.requires)
