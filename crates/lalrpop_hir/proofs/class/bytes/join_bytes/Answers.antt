use Rattle.std.proofs.Common.{◌≡◌, ◌<◌, ◌≤◌, subst, sym, ap, ◌∙◌, get_or, ◌∷◌}
use Rattle.std.specs.List.Sorted.{IsNonDecreasingBy}
use Rattle.lalrpop_hir.specs.Range.{Range}
use Rattle.lalrpop_hir.specs.Runs.{IsByte, next_byte}
use Rattle.lalrpop_hir.proofs.Canons.{byte_steps}
use Rattle.lalrpop_hir.proofs.Joining.{IsJoining-start, IsJoining-behind, IsJoining-beside, IsJoining-end, IsAt, IsProper, IsProper-bytes}
use Rattle.lalrpop_hir.proofs.class.bytes.join_bytes.Goals as goal
use Rattle.lalrpop_hir.proofs.class.bytes.join_bytes.Goals.{then-byte_after-range+in_ok-push, else-byte_after-range}

pub loop-range-init : goal.loop-range-init
loop-range-init c =
    rw c.new-runs.ensures.items (IsJoining-start next_byte IsByte _ _ (IsProper-bytes _ c.first.ranges.0.1 c.first.ranges.1.0.1 c.first.invariant))

pub loop-range-preserved : goal.loop-range-preserved
loop-range-preserved c =
    let s : Range = record { start = c.range.inside.start; end = c.range.inside.end } in
    let here : IsAt c.in-Some.rest.now c.loop-range.range-index s =
    (c.loop-range-test.true, subst (λ x. x ≡ get_or c.in-Some.rest.now c.loop-range.range-index x) (sym c.range.view_is) c.range-item.is) in
    let proper : IsProper IsByte s =
    IsProper-bytes s c.range.ranges.0.1 c.range.ranges.1.0.1 c.range.invariant in
    elim c.if-byte_after-range.branch [
      | then-byte_after-range+in_ok-push w ↦
          rw (w.runs-is, w.start-is, w.end-is, w.in_ok-push.ensures.items) (IsJoining-behind next_byte IsByte _ _ _ _ _ _ c.loop-range.invariant here proper (subst (λ n. n < s.start) c.byte_after.ensures w.if-byte_after-range.true))
      | else-byte_after-range w ↦
          rw (w.runs-is, w.start-is, w.end-is, w.max-end.ensures) (IsJoining-beside next_byte IsByte _ _ _ _ _ _ c.loop-range.invariant here proper (subst (λ n. s.start ≤ n) c.byte_after.ensures w.if-byte_after-range.false))
    ]

pub returns : goal.returns
returns c =
    let s : Range = record { start = c.first.inside.start; end = c.first.inside.end } in
    let proper : IsProper IsByte s = IsProper-bytes s c.first.ranges.0.1 c.first.ranges.1.0.1 c.first.invariant in
    let all : c.args.ranges.now ≡ s ∷ c.in-Some.rest.now =
    c.in-Some.ensures.cases.0 ∙ ap (λ x. x ∷ c.in-Some.rest.now) (sym c.first.view_is) in
    rw (all, c.in_ok-push-2.ensures.items)
    (IsJoining-end next_byte IsByte _ _ _ _ _ byte_steps proper (subst (IsNonDecreasingBy (λ x. x.start)) all c.requires) c.loop-range.invariant c.loop-range-test.false)
