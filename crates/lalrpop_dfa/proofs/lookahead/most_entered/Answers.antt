use Rattle.std.proofs.Common.{◌∙◌, ◌<◌, length, subst, sym, arith}
use Rattle.lalrpop_dfa.specs.Lookahead.{IsAccepting}
use Rattle.lalrpop_dfa.specs.Internal.Waits.{IsGreatest}
use Rattle.lalrpop_dfa.proofs.EdgeTargets.{the_some}
use Rattle.lalrpop_dfa.proofs.Marking.{marked_read, read_marked}
use Rattle.lalrpop_dfa.proofs.Ranked.{accepting_read, read_accepting}
use Rattle.lalrpop_dfa.proofs.Waiting.{most_by_max, most_end, most_past}
use Rattle.lalrpop_dfa.proofs.lookahead.most_entered.Goals as goal
use Rattle.lalrpop_dfa.proofs.lookahead.most_entered.Goals.{then-reached-number+then-is_accepting, else-reached-number, else-reached-number-via-then-reached-number+else-is_accepting, else-reached-number-via-else-reached-number}

pub loop-number-preserved : goal.loop-number-preserved
loop-number-preserved c =
    let d = c.args.dfa.now in
    let reached = c.args.reached.now in
    let numbers = c.args.numbers.now in
    let place = c.loop-number.number in
    let p = c.new-state.result in
    let h = c.loop-number.invariant in
    let in_reached : place < length reached = omega (arith, c.loop-number-test.true, c.requires.reached, c.requires.same_length) in
    elim c.if-reached-number.branch [
      | then-reached-number+then-is_accepting w ↦
          (let r = the_some _ _ w.state.ensures.at in
          let (i, e) = w.is_accepting.ensures.0 w.if-is_accepting.true in
          let accepts : IsAccepting d place = subst (IsAccepting d) c.new-state.ensures.value (accepting_read d p r.0 w.kind.result.now r.1.0 (w.kind.ensures.kind ∙ r.1.1.kind) i e) in
          let greatest : IsGreatest d numbers place w.greatest.result = subst (λ q. IsGreatest d numbers q w.greatest.result) c.new-state.ensures.value w.greatest.ensures in
          rw w.most-is
          (most_by_max d reached numbers place c.loop-number.most w.max-most.result w.greatest.result h (marked_read reached place in_reached w.if-reached-number.true) accepts greatest w.max-most.ensures))
      | else-reached-number w ↦
          rw w.most-is
          (most_past d reached numbers place c.loop-number.most h
          (elim w.else-reached-number.branch [
            | else-reached-number-via-then-reached-number+else-is_accepting v ↦
                (λ m a.
                (let r = the_some _ _ v.state.ensures.at in
                let told = read_accepting d p r.0 v.kind.result.now r.1.0 (v.kind.ensures.kind ∙ r.1.1.kind) (subst (IsAccepting d) (sym c.new-state.ensures.value) a) in
                let yes = v.is_accepting.ensures.1 told in
                let not = v.if-is_accepting.false in
                cc))
            | else-reached-number-via-else-reached-number v ↦ (λ m a. (let yes = read_marked reached place m in let not = v.if-reached-number.false in cc))
          ]))
    ]

pub returns : goal.returns
returns c =
    most_end c.args.dfa.now c.args.reached.now c.args.numbers.now c.loop-number.number c.loop-number.most
    (omega (arith, c.loop-number-test.false, c.loop-number.auto.number-end, c.requires.same_length)) c.loop-number.invariant
