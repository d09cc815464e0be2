use Rattle.std.proofs.Common.{◌≡◌, List, sym, subst}
use Rattle.std.specs.List.Sorted.{IsSorted, IsPermutation}
use Rattle.lalrpop_build.specs.Internal.Transitions.{transition_cmp}
use Rattle.lalrpop_build.specs.declared.transitions.Transition.{Transition}
use Rattle.lalrpop_build.proofs.TransitionMoves.{takes_sorted}
use Rattle.lalrpop_build.proofs.Adding.{sorted_by_test}
use Rattle.lalrpop_build.proofs.build.sets.Sets.successor.Goals as goal

pub successor_in_order-requires-clause-sorted : goal.successor_in_order-requires-clause-sorted
successor_in_order-requires-clause-sorted c = sorted_by_test c.args.transitions.now c.if-is_sorted.ensures.cases

pub successor_in_order-requires-2-clause-sorted : goal.successor_in_order-requires-2-clause-sorted
successor_in_order-requires-2-clause-sorted c = subst (λ (ls : List Transition). IsSorted transition_cmp ls) (sym c.deref.ensures.value) c.in_ok-sort.ensures.sorted

pub successor_in_order-requires-2-clause-transitions : goal.successor_in_order-requires-2-clause-transitions
successor_in_order-requires-2-clause-transitions c =
    let copy : c.in_ok-sorted.sorted.items ≡ c.args.transitions.now = c.in_ok-sorted.ensures.items_if_clones_equal (λ x y e. e) in
    let same : IsPermutation c.args.transitions.now c.deref.result.now = rw (c.deref.ensures.value, ← copy) c.in_ok-sort.ensures.permutation in
    takes_sorted c.args.automata.now.graphs c.args.set.now c.args.origin.1 c.args.transitions.now c.deref.result.now same c.requires.transitions
