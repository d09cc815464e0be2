use Rattle.std.proofs.Common.{◌≡◌, ◌++◌, ◌≤◌, ◌⊎◌, ◌↔◌, inl, inr, length, drop, sym, subst, ap, ◌∙◌, append_assoc}
use Rattle.std.specs.List.Sorted.{IsNonDecreasingBy}
use Rattle.lalrpop_hir.specs.Range.{Covered}
use Rattle.lalrpop_hir.proofs.Merging.{merge, merge-order, merge-covers, IsMerging-end, tail-left}
use Rattle.lalrpop_hir.proofs.class.operations.merge_characters.Goals as goal
use Rattle.lalrpop_hir.proofs.class.operations.merge_characters.Goals.{then-loop-i-test+else-j-right, else-loop-i-test}

pub returns : goal.returns
returns c =
    let a = c.args.left.now in
    let b = c.args.right.now in
    let at_end : (length a ≤ c.loop-i.i) ⊎ (length b ≤ c.loop-i.j) =
    elim c.loop-i-test.branch [ then-loop-i-test+else-j-right w ↦ inr w.if-j-right.false | else-loop-i-test w ↦ inl w.loop-i-test.false ] in
    let all : c.extend_from_slice-2.new.self.items ≡ merge a b =
    (c.in_ok-extend_from_slice-2.ensures.items ∙ ap (λ l. c.extend_from_slice.new.self.items ++ l) (tail-left c.loop-i.j b)) ∙ (ap (λ l. l ++ drop c.loop-i.j b) (c.in_ok-extend_from_slice.ensures.items ∙ ap (λ l. c.loop-i.ranges.items ++ l) (tail-left c.loop-i.i a)) ∙ (append_assoc c.loop-i.ranges.items (drop c.loop-i.i a) (drop c.loop-i.j b) ∙ IsMerging-end a b _ _ _ c.loop-i.invariant at_end)) in
    record {
      ascending = subst (IsNonDecreasingBy (λ range. range.start)) (sym all) (merge-order a b c.requires.left_canonical c.requires.right_canonical);
      covers = λ k. subst (λ l. (Covered a k ⊎ Covered b k) ↔ Covered l k) (sym all) (merge-covers a b k);
    }
