use Rattle.std.proofs.Common.{◌≡◌, get_or, ap, sym, subst, arith}
use Rattle.std.proofs.lemmas.List.{get_or_read}
use Rattle.std.proofs.lemmas.List.Elements.{All-push}
use Rattle.lalrpop_hir.specs.Fault.{fault}
use Rattle.lalrpop_hir.specs.Range.{Range}
use Rattle.lalrpop_hir.specs.Runs.{IsCanon}
use Rattle.lalrpop_re.specs.Internal.Steps.{IsStep}
use Rattle.lalrpop_re.specs.Internal.Edges.{IsSound, AreSound}
use Rattle.lalrpop_re.proofs.Rows.{below-one, leads-one, below-none, leads-not, all-steps}
use Rattle.lalrpop_re.proofs.search.add_steps.Goals as goal
use Rattle.lalrpop_re.proofs.search.add_steps.Goals.{then-next_state-i+in_ok-push+in_ok-only+in_ok-push-2, else-next_state-i}

pub loop-i-preserved : goal.loop-i-preserved
loop-i-preserved c =
    let end = c.args.end.now in
    let k = c.args.state in
    let i = c.loop-i.i in
    let n = c.next_state.result in
    let letter : c.index-end-i.result ≡ get_or end i 0 = get_or_read end i c.index-end-i.result (omega arith) c.index-end-i.is 0 in
    let s : IsStep end k (get_or end i 0) n = subst (λ d. IsStep end k d n) letter c.next_state.ensures in
    elim c.if-next_state-i.branch [
      | then-next_state-i+in_ok-push+in_ok-only+in_ok-push-2 w ↦
          let r = w.new.result in
          let start : r.start ≡ get_or end i 0 = omega (arith, ap (λ (x : Range). x.start) w.new.ensures.ends, letter) in
          let stop : r.end ≡ get_or end i 0 = omega (arith, ap (λ (x : Range). x.end) w.new.ensures.ends, letter) in
          let class = w.in_ok-only.field-0 in
          let canon : IsCanon (λ d. d ≡ get_or end i 0) class = subst (λ x. IsCanon (λ d. d ≡ x) class) letter w.in_ok-only.ensures in
          let x = w.step.ensures in
          rw (w.edges-is, w.ranges-is) (record {
            words = below-one end k i n s _ _ _ w.step.result class w.if-next_state-i.true x.from x.to x.tree canon w.in_ok-push-2.ensures.items c.loop-i.invariant.words;
            ranges = leads-one end k i n s _ _ r w.if-next_state-i.true (start, stop) w.in_ok-push.ensures.items c.loop-i.invariant.ranges;
            sound = λ h. subst AreSound (sym w.in_ok-push-2.ensures.items) (All-push IsSound _ w.step.result (c.loop-i.invariant.sound h) (ap fault x.tree));
          })
      | else-next_state-i w ↦ rw (w.edges-is, w.ranges-is) (record {
        words = below-none end k i n s _ _ w.if-next_state-i.false c.loop-i.invariant.words;
        ranges = leads-not end k i n s _ w.if-next_state-i.false c.loop-i.invariant.ranges;
        sound = c.loop-i.invariant.sound;
      })
    ]

pub returns-clause-words : goal.returns-clause-words
returns-clause-words c =
    let x = c.step-2.ensures in
    all-steps c.args.end.now c.args.state c.loop-i.i _ _ _ c.step-2.result c.loop-i.ranges.items c.in_ok-others.field-0 c.requires.there c.requires.scalars (omega arith) x.from x.to x.tree c.in_ok-others.ensures c.in_ok-push-3.ensures.items c.loop-i.invariant.words c.loop-i.invariant.ranges

pub returns-clause-sound : goal.returns-clause-sound
returns-clause-sound c = λ h. subst AreSound (sym c.in_ok-push-3.ensures.items) (All-push IsSound _ c.step-2.result (c.loop-i.invariant.sound h) (ap fault c.step-2.ensures.tree))
