use Rattle.std.proofs.Common.{sym, subst}
use Rattle.lalrpop_dfa.proofs.AfterLaws.{after_within}
use Rattle.lalrpop_dfa.specs.Internal.Ranks.{AreNearest, IsGreedy, IsGoal, StaysFor}
use Rattle.lalrpop_dfa.proofs.Walks.{goal_reached, no_witness, witness_of}
use Rattle.lalrpop_dfa.proofs.witness.lookahead_witness.Goals as goal

pub open_values-requires-clause-within : goal.open_values-requires-clause-within
open_values-requires-clause-within c =
    rw c.in_ok-word-in-Some.ensures.state (after_within c.args.dfa.now c.in_ok-word-in-Some.word.items c.in_ok-distances.ensures.well_formed)

pub open_values-requires-clause-goal : goal.open_values-requires-clause-goal
open_values-requires-clause-goal c =
    let d = c.args.dfa.now in
    let n = c.args.count in
    let k = c.in-Some.distances.nearest in
    let h : AreNearest d n k c.in-Some.distances.states.items = rw c.in-Some.is at c.in_ok-distances.ensures.found in
    let at = subst (AreNearest d n k) (sym c.deref-in-Some.ensures.value) h in
    let g = c.in_ok-word-in-Some.ensures.word n at in
    subst (IsGoal d n) (sym c.in_ok-word-in-Some.ensures.state) (goal_reached d n k c.deref-in-Some.result.now c.in_ok-word-in-Some.word.items at g)

pub returns-in-Some-clause-least : goal.returns-in-Some-clause-least
returns-in-Some-clause-least c =
    let d = c.args.dfa.now in
    let n = c.args.count in
    let k = c.in-Some.distances.nearest in
    let h : AreNearest d n k c.in-Some.distances.states.items = rw c.in-Some.is at c.in_ok-distances.ensures.found in
    let at = subst (AreNearest d n k) (sym c.deref-in-Some.ensures.value) h in
    let g = c.in_ok-word-in-Some.ensures.word n at in
    witness_of d n k c.deref-in-Some.result.now c.in_ok-word-in-Some.word.items c.in_ok-after-in-Some.after.items at g
    (subst (λ p. IsGreedy d (StaysFor d) n p c.in_ok-after-in-Some.after.items) c.in_ok-word-in-Some.ensures.state c.in_ok-after-in-Some.ensures)

pub returns-clause-none : goal.returns-clause-none
returns-clause-none c = no_witness c.args.dfa.now c.args.count c.in_ok-distances.ensures.well_formed (rw c.in-None.is at c.in_ok-distances.ensures.none)
