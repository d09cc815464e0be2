use Rattle.std.proofs.Common.{inl, ap, ◌∙◌}
use Rattle.std.proofs.lemmas.List.{append-nil}
use Rattle.lalrpop_nfa.specs.Graph.{Lists}
use Rattle.lalrpop_nfa.proofs.BuildLemmas.{take_past, Extends-one_of}
use Rattle.lalrpop_nfa.proofs.Nfa.class_expr.Goals as goal
use Rattle.lalrpop_nfa.proofs.Nfa.class_expr.Goals.{in-Unicode+else-loop-range-test, in-Bytes+else-loop-range-2-test}

pub loop-range-init : goal.loop-range-init
loop-range-init c = record {
  pushed = simp append-nil;
  together = inl (ap (λ (e : Lists). e.tests) c.in_ok-state.ensures.bare);
}

pub loop-range-2-init : goal.loop-range-2-init
loop-range-2-init c = record {
  pushed = simp append-nil;
  together = inl (ap (λ (e : Lists). e.tests) c.in_ok-state.ensures.bare);
}

pub push_edge-requires-2-clause-together : goal.push_edge-requires-2-clause-together
push_edge-requires-2-clause-together c =
    let new = ap (λ (e : Lists). e.others) c.in_ok-state.ensures.bare in
    elim c.match-class.branch [
      | in-Unicode+else-loop-range-test w ↦ rw (w.self-is, w.loop-range.invariant.pushed) (inl new)
      | in-Bytes+else-loop-range-2-test w ↦ rw (w.self-is, w.loop-range-2.invariant.pushed) (inl new)
    ]

pub returns-clause-extended : goal.returns-clause-extended
returns-clause-extended c =
    let o = c.in_ok-state.ensures in
    elim c.match-class.branch [
      | in-Unicode+else-loop-range-test w ↦
          let rs = w.ranges-range-items.result.now in
          let pushed = rw (take_past w.loop-range.range-index rs w.loop-range-test.false) at w.loop-range.invariant.pushed in
          rw (w.in-Unicode.is, ← w.ranges-range-items.ensures.value)
          (Extends-one_of rs c.args.target c.in_ok-state.state c.args.self.now c.new_state.new.self c.match-class.self c.push_edge-2.new.self o.number o.added (w.self-is ∙ pushed)
          c.in_ok-push_edge.ensures.pushed)
      | in-Bytes+else-loop-range-2-test w ↦
          let rs = w.ranges-range-items-in-Bytes.result.now in
          let pushed = rw (take_past w.loop-range-2.range-index rs w.loop-range-2-test.false) at w.loop-range-2.invariant.pushed in
          rw (w.in-Bytes.is, ← w.ranges-range-items-in-Bytes.ensures.value)
          (Extends-one_of rs c.args.target c.in_ok-state.state c.args.self.now c.new_state.new.self c.match-class.self c.push_edge-2.new.self o.number o.added (w.self-is ∙ pushed)
          c.in_ok-push_edge.ensures.pushed)
    ]
