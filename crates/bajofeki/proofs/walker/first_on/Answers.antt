use Rattle.std.proofs.Common.{◌≡◌, ℕ, ◌+◌, ◌<◌, ◌≤◌, ◌⊎◌, inl, inr, ap, sym, subst, arith, ⊎_elim, true}
use Rattle.std.proofs.lemmas.Bool.{cases_lt, iff_false}
use Rattle.lalrpop_dfa.specs.Dfa.{IsReject}
use Rattle.lalrpop_dfa.specs.Stored.{EndBefore}
use Rattle.lalrpop_dfa.proofs.EdgeTargets.{at_place}
use Rattle.lalrpop_dfa.proofs.Marking.{row_tests, test_in}
use Rattle.bajofeki.proofs.Walking.{edges_of, by_others_last, by_others_before, its_first, reject_before, reject_through, passed_through}
use Rattle.bajofeki.proofs.walker.first_on.Goals as goal

pub rejects-requires : goal.rejects-requires
rejects-requires c =
    let tests = c.test_edges-test-items in
    let r = row_tests c.args.dfa.now c.args.state tests.result.now tests.ensures.tests in
    let at = at_place tests.result.now c.loop-test.test-index c.loop-test-item.result c.loop-test-test.true c.loop-test-item.is in
    record { within = test_in c.args.dfa.now c.args.state r.0 c.loop-test.test-index c.loop-test-item.result tests.ensures.well_formed r.1.0 (rw r.1.1 at at) }

pub returns-then-not-others_reject-clause-some : goal.returns-then-not-others_reject-clause-some
returns-then-not-others_reject-clause-some c =
    let d = c.args.dfa.now in
    let p = c.args.state in
    let ts = c.test_edges-test-items.result.now in
    let k = c.loop-test.test-index in
    let t = c.loop-test-item.result in
    let other = c.other_edge.result in
    let edges = edges_of d p ts other c.state.result.now c.state.ensures.well_formed c.state.ensures.at c.other_edge.ensures.other c.test_edges-test-items.ensures.tests in
    let at = at_place ts k t c.loop-test-test.true c.loop-test-item.is in
    let there = by_others_before d p ts other edges k c.loop-test.next c.loop-test.invariant.passed t at c.loop-test.next (omega arith) (omega (arith, c.if-next-start.true, c.start-start.ensures.value)) in (
      λ reject. iff_false c.rejects-others_reject.ensures c.if-not-others_reject.true (subst (IsReject d) there reject),
      c.loop-test.invariant.rejects,
    )

pub returns-then-not-rejects-clause-some : goal.returns-then-not-rejects-clause-some
returns-then-not-rejects-clause-some c =
    let d = c.args.dfa.now in
    let p = c.args.state in
    let ts = c.test_edges-test-items.result.now in
    let k = c.loop-test.test-index in
    let t = c.loop-test-item.result in
    let other = c.other_edge.result in
    let edges = edges_of d p ts other c.state.result.now c.state.ensures.well_formed c.state.ensures.at c.other_edge.ensures.other c.test_edges-test-items.ensures.tests in
    let at = at_place ts k t c.loop-test-test.true c.loop-test-item.is in
    let there = its_first d p ts other edges k c.loop-test.next c.loop-test.invariant.passed t at c.start-start.result c.start-start.ensures.value in
    let way : IsReject d other ⊎ (t.0.start ≤ c.loop-test.next) =
    ⊎_elim (λ (x : (c.loop-test.next < c.start-start.result) × (c.rejects-others_reject.result ≡ true)). inl (c.rejects-others_reject.ensures.0 x.1))
    (λ (x : c.start-start.result ≤ c.loop-test.next). inr (omega (arith, x, c.start-start.ensures.value)))
    c.else-next-start.either in (
      λ reject. iff_false c.rejects.ensures c.if-not-rejects.true (subst (IsReject d) there reject),
      λ n less. reject_before d p ts other edges k c.loop-test.next c.loop-test.invariant.passed t at c.loop-test.invariant.rejects way n (omega (arith, less, c.start-start.ensures.value)),
    )

pub loop-test-preserved : goal.loop-test-preserved
loop-test-preserved c =
    let d = c.args.dfa.now in
    let p = c.args.state in
    let ts = c.test_edges-test-items.result.now in
    let k = c.loop-test.test-index in
    let t = c.loop-test-item.result in
    let other = c.other_edge.result in
    let next = c.loop-test.next in
    let edges = edges_of d p ts other c.state.result.now c.state.ensures.well_formed c.state.ensures.at c.other_edge.ensures.other c.test_edges-test-items.ensures.tests in
    let at = at_place ts k t c.loop-test-test.true c.loop-test-item.is in
    let way : IsReject d other ⊎ (t.0.start ≤ next) =
    ⊎_elim (λ (x : (next < c.start-start.result) × (c.rejects-others_reject.result ≡ true)). inl (c.rejects-others_reject.ensures.0 x.1))
    (λ (x : c.start-start.result ≤ next). inr (omega (arith, x, c.start-start.ensures.value)))
    c.else-next-start.either in
    let end : t.0.end + 1 ≡ c.end.result + 1 = ap (λ (n : ℕ). n + 1) (sym c.end.ensures.value) in
    record {
      passed = subst (EndBefore ts (k + 1)) end (passed_through d p ts other edges k next c.loop-test.invariant.passed t at);
      rejects = λ n less.
          reject_through d p ts other edges k next c.loop-test.invariant.passed t at
          (reject_before d p ts other edges k next c.loop-test.invariant.passed t at c.loop-test.invariant.rejects way)
          (c.rejects.ensures.0 c.if-not-rejects.false) n (omega (arith, less, end));
    }

pub returns-then-others_reject-clause-none : goal.returns-then-others_reject-clause-none
returns-then-others_reject-clause-none c =
    let d = c.args.dfa.now in
    let p = c.args.state in
    let ts = c.test_edges-test-items.result.now in
    let k = c.loop-test.test-index in
    let other = c.other_edge.result in
    let next = c.loop-test.next in
    let edges = edges_of d p ts other c.state.result.now c.state.ensures.well_formed c.state.ensures.at c.other_edge.ensures.other c.test_edges-test-items.ensures.tests in
    λ n. ⊎_elim (λ (x : n < next). c.loop-test.invariant.rejects n x)
    (λ (x : next ≤ n).
    subst (IsReject d) (sym (by_others_last d p ts other edges k next c.loop-test.invariant.passed n c.loop-test-test.false x)) (c.rejects-others_reject.ensures.0 c.if-others_reject.true))
    (cases_lt n next)

pub returns-else-others_reject-clause-some : goal.returns-else-others_reject-clause-some
returns-else-others_reject-clause-some c =
    let d = c.args.dfa.now in
    let p = c.args.state in
    let ts = c.test_edges-test-items.result.now in
    let k = c.loop-test.test-index in
    let other = c.other_edge.result in
    let next = c.loop-test.next in
    let edges = edges_of d p ts other c.state.result.now c.state.ensures.well_formed c.state.ensures.at c.other_edge.ensures.other c.test_edges-test-items.ensures.tests in (
      λ reject. iff_false c.rejects-others_reject.ensures c.if-others_reject.false
          (subst (IsReject d) (by_others_last d p ts other edges k next c.loop-test.invariant.passed next c.loop-test-test.false (omega arith)) reject),
      c.loop-test.invariant.rejects,
    )
