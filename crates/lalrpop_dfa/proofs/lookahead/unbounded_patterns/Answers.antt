use Rattle.std.proofs.Common.{◌≡◌, ℕ, ◌<◌, ◌↔◌, ◌∙◌, length, subst, arith}
use Rattle.std.specs.Prelude.{Some}
use Rattle.lalrpop_dfa.specs.Internal.Marks.{Marked, EntersBy}
use Rattle.lalrpop_dfa.proofs.Marking.{ever_marked, told_more}
use Rattle.lalrpop_dfa.proofs.lookahead.unbounded_patterns.Goals as goal

pub loop-number-preserved : goal.loop-number-preserved
loop-number-preserved c =
    let d = c.args.dfa.now in
    let marks = c.in_ok-marks.marks.items in
    let place = c.entering.result in
    let reached = c.in_ok-reached.reached.items in
    let at : (i : ℕ) → (place ≡ Some i) ↔ EntersBy d c.deref.result.now c.deref-in-loop-number.result.now i c.loop-number.number =
    subst (λ q. (i : ℕ) → (place ≡ Some i) ↔ EntersBy d c.deref.result.now c.deref-in-loop-number.result.now i q) c.new.ensures.value c.entering.ensures in
    let here : (i : ℕ) → (place ≡ Some i) ↔ EntersBy d reached marks i c.loop-number.number =
    rw (c.deref.ensures.value, c.deref-in-loop-number.ensures.value) at at in
    record {
      same_length = c.mark.ensures.same_length ∙ c.loop-number.invariant.same_length;
      each =
          told_more (EntersBy d reached marks) c.loop-number.found.items c.mark.new.marks.items c.args.count c.loop-number.number place
          c.loop-number.invariant.same_length c.loop-number.invariant.each here c.mark.ensures.marked;
    }

pub returns-clause-each : goal.returns-clause-each
returns-clause-each c =
    let d = c.args.dfa.now in
    let marks = c.in_ok-marks.marks.items in
    let ever = c.in_ok-marks.ensures.marks in
    let all : c.loop-number.number ≡ length d = omega (arith, c.loop-number-test.false, c.loop-number.auto.number-end, c.len-number-end.ensures, ever.1.1.0.same_length) in
    ever_marked d c.in_ok-marks.ensures.well_formed c.in_ok-reached.reached.items marks c.loop-number.found.items c.args.count c.in_ok-reached.ensures ever
    (subst (λ k. (i : ℕ) → i < c.args.count → Marked c.loop-number.found.items i ↔ ((p : ℕ) × ((p < k) × EntersBy d c.in_ok-reached.reached.items marks i p))) all c.loop-number.invariant.each)
