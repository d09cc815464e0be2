use Rattle.std.proofs.Common.{◌≡◌, ℕ, ◌<◌, ◌↔◌, ◌∙◌, length, subst, arith}
use Rattle.std.specs.Prelude.{Some}
use Rattle.lalrpop_dfa.specs.Internal.Fitting.{RunsOnFrom}
use Rattle.lalrpop_dfa.specs.Internal.Marks.{Marked}
use Rattle.lalrpop_dfa.proofs.Following.{from_runs, runs_from}
use Rattle.lalrpop_dfa.proofs.Marking.{told_more}
use Rattle.lalrpop_dfa.proofs.follow.running_on.Goals as goal

pub loop-number-preserved : goal.loop-number-preserved
loop-number-preserved c =
    let d = c.args.dfa.now in
    let reached = c.in_ok-reached.reached.items in
    let live = c.in_ok-live.live.items in
    let toward = c.in_ok-toward.toward.items in
    let place = c.running_on_from.result in
    let from = RunsOnFrom d c.deref.result.now c.deref-in-loop-number.result.now c.deref-in-loop-number-2.result.now in
    let at : (i : ℕ) → (place ≡ Some i) ↔ from i c.loop-number.number =
    subst (λ q. (i : ℕ) → (place ≡ Some i) ↔ from i q) c.new-state.ensures.value c.running_on_from.ensures in
    let here : (i : ℕ) → (place ≡ Some i) ↔ RunsOnFrom d reached live toward i c.loop-number.number =
    rw (c.deref.ensures.value, c.deref-in-loop-number.ensures.value, c.deref-in-loop-number-2.ensures.value) at at in
    record {
      same_length = c.mark.ensures.same_length ∙ c.loop-number.invariant.same_length;
      each =
          told_more (RunsOnFrom d reached live toward) c.loop-number.found.items c.mark.new.marks.items c.args.count c.loop-number.number place
          c.loop-number.invariant.same_length c.loop-number.invariant.each here c.mark.ensures.marked;
    }

pub returns-clause-each : goal.returns-clause-each
returns-clause-each c =
    let d = c.args.dfa.now in
    let j = c.args.second in
    let reached = c.in_ok-reached.reached.items in
    let live = c.in_ok-live.live.items in
    let toward = c.in_ok-toward.toward.items in
    let alive = c.in_ok-live.ensures.marks in
    let well = c.in_ok-live.ensures.well_formed in
    let all : c.loop-number.number ≡ length d = omega (arith, c.loop-number-test.false, c.loop-number.auto.number-end, c.len-number-end.ensures, alive.same_length) in
    let each : (i : ℕ) → i < c.args.count → Marked c.loop-number.found.items i ↔ ((p : ℕ) × ((p < length d) × RunsOnFrom d reached live toward i p)) =
    subst (λ k. (i : ℕ) → i < c.args.count → Marked c.loop-number.found.items i ↔ ((p : ℕ) × ((p < k) × RunsOnFrom d reached live toward i p))) all c.loop-number.invariant.each in
    λ i l. (
      λ m. (let (p, (b, runs)) = (each i l).0 m in runs_from d well reached live toward i j c.in_ok-reached.ensures alive c.in_ok-toward.ensures p runs),
      λ runs. (each i l).1 (from_runs d well reached live toward i j c.in_ok-reached.ensures alive c.in_ok-toward.ensures runs),
    )
