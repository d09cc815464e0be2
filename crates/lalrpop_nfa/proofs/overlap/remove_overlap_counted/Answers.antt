use Rattle.std.proofs.Common.{rules, ◌≡◌, ℕ, ◌≤◌, length, ◌+◌, ◌<◌, arith, inl, inr, get_or}
use Rattle.std.proofs.lemmas.List.Sorted.{IsNonDecreasingBy-from_sort}
use Rattle.lalrpop_nfa.specs.Internal.Sweep.{starts_of, ends_of}
use Rattle.lalrpop_nfa.proofs.Sweep.{IsSortOf, Turn, swept_none, swept_start, swept_end, swept_blocks, swept_count, swept_spent, swept_spent_before}
use Rattle.lalrpop_nfa.proofs.overlap.remove_overlap_counted.Goals as goal
use Rattle.lalrpop_nfa.proofs.overlap.remove_overlap_counted.Goals.{then-from-boundary+then-ended-begun+in_ok-push, else-from-boundary, else-from-boundary-via-then-from-boundary+else-ended-begun, else-from-boundary-via-else-from-boundary}

pub loop-ended-init : goal.loop-ended-init
loop-ended-init c =
    let s : IsSortOf (starts_of c.args.ranges.now.keys) c.sort_unstable.new.self.items = record {
      permutation = (rw c.in_ok-starts.ensures.starts at c.sort_unstable.ensures.permutation);
      ascending = IsNonDecreasingBy-from_sort (λ (x : ℕ). x) c.sort_unstable.new.self.items c.sort_unstable.ensures.sorted;
    } in
    let e : IsSortOf (ends_of c.args.ranges.now.keys) c.sort_unstable-2.new.self.items = record {
      permutation = (rw c.in_ok-starts.ensures.ends at c.sort_unstable-2.ensures.permutation);
      ascending = IsNonDecreasingBy-from_sort (λ (x : ℕ). x) c.sort_unstable-2.new.self.items c.sort_unstable-2.ensures.sorted;
    } in
    record { swept = rw c.new-blocks.ensures.items (swept_none _ _ _ s e); spent = search rules }

pub loop-ended-preserved-then-is_start : goal.loop-ended-preserved-then-is_start
loop-ended-preserved-then-is_start c =
    let turn : Turn c.loop-ended.blocks.items c.if-from-boundary.blocks.items c.loop-ended.begun c.loop-ended.ended c.loop-ended.from c.next_boundary-boundary.result.0 =
    elim c.if-from-boundary.branch [
      | then-from-boundary+then-ended-begun+in_ok-push w ↦ inl (w.if-from-boundary.true, w.if-ended-begun.true, search rules)
      | else-from-boundary w ↦
          inr (
            elim w.else-from-boundary.branch [
              | else-from-boundary-via-then-from-boundary+else-ended-begun v ↦ (λ x. v.if-ended-begun.false)
              | else-from-boundary-via-else-from-boundary v ↦ (λ x. absurd (omega (arith, v.if-from-boundary.false)))
            ],
            search rules,
          )
    ] in
    let more : c.loop-ended.begun < length c.sort_unstable.new.self.items = search rules in
    let is : c.next_boundary-boundary.result.0 ≡ get_or c.sort_unstable.new.self.items c.loop-ended.begun 0 = search rules in
    let least : c.next_boundary-boundary.result.0 ≤ get_or c.sort_unstable-2.new.self.items c.loop-ended.ended 0 + 1 = search rules in
    record { swept = swept_start _ _ _ _ _ _ _ _ _ c.loop-ended.invariant.swept turn more is least; spent = search rules }

pub loop-ended-preserved : goal.loop-ended-preserved
loop-ended-preserved c =
    let turn : Turn c.loop-ended.blocks.items c.if-from-boundary.blocks.items c.loop-ended.begun c.loop-ended.ended c.loop-ended.from c.next_boundary-boundary.result.0 =
    elim c.if-from-boundary.branch [
      | then-from-boundary+then-ended-begun+in_ok-push w ↦ inl (w.if-from-boundary.true, w.if-ended-begun.true, search rules)
      | else-from-boundary w ↦
          inr (
            elim w.else-from-boundary.branch [
              | else-from-boundary-via-then-from-boundary+else-ended-begun v ↦ (λ x. v.if-ended-begun.false)
              | else-from-boundary-via-else-from-boundary v ↦ (λ x. absurd (omega (arith, v.if-from-boundary.false)))
            ],
            search rules,
          )
    ] in
    let more : c.loop-ended.ended < length c.sort_unstable-2.new.self.items = search rules in
    let is : c.next_boundary-boundary.result.0 ≡ get_or c.sort_unstable-2.new.self.items c.loop-ended.ended 0 + 1 = search rules in
    let least : c.loop-ended.begun < length c.sort_unstable.new.self.items → c.next_boundary-boundary.result.0 ≤ get_or c.sort_unstable.new.self.items c.loop-ended.begun 0 = λ x. search rules in
    record { swept = swept_end _ _ _ _ _ _ _ _ _ c.loop-ended.invariant.swept turn more is least; spent = search rules }

pub returns-clause-partition : goal.returns-clause-partition
returns-clause-partition c =
    let past : length c.sort_unstable-2.new.self.items ≤ c.loop-ended.ended = search rules in
    swept_blocks _ _ _ _ _ _ _ c.loop-ended.invariant.swept past

pub returns-clause-count : goal.returns-clause-count
returns-clause-count c = swept_count _ _ _ _ _ _ _ c.loop-ended.invariant.swept

pub returns-in_err-push-clause-cost : goal.returns-in_err-push-clause-cost
returns-in_err-push-clause-cost c =
    let more : c.loop-ended.ended < length c.sort_unstable-2.new.self.items = search rules in
    omega (arith, swept_spent_before _ _ _ _ _ _ _ c.loop-ended.invariant.swept more, c.loop-ended.invariant.spent, c.tick.ensures.counted)

pub returns-clause-cost : goal.returns-clause-cost
returns-clause-cost c = omega (arith, swept_spent _ _ _ _ _ _ _ c.loop-ended.invariant.swept, c.loop-ended.invariant.spent)
