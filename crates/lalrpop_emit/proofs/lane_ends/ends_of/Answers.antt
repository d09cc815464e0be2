use Rattle.std.proofs.Common.{◌≡◌, ◌↔◌, ℕ, ◌<◌, ◌≤◌, ◌+◌, ◌-◌, ◌*◌, slice_index, subst, ap, ◌∙◌, arith}
use Rattle.std.specs.Int.{bit_at}
use Rattle.lalrpop_emit.proofs.FlagBits.{index_in_part}
use Rattle.lalrpop_emit.proofs.LaneEnds.{AreBitsOfSixteens, sixteen_more}
use Rattle.lalrpop_emit.proofs.lane_ends.ends_of.Goals as goal

pub loop-k-preserved : goal.loop-k-preserved
loop-k-preserved c =
    let rows = c.args.rows.now in
    let k = c.loop-k.k in
    let from = 64 - 16 * k in
    let next : k - 1 + 1 ≡ k + 1 - 1 = omega (arith, c.loop-k.auto.k) in
    let size : 80 - 16 * k - from ≡ 16 = omega (arith, c.loop-k-test.true) in
    let there : from ≡ 48 - (k - 1) * 16 = omega (arith, c.loop-k-test.true, c.loop-k.auto.k) in
    let is : (i : ℕ) → i < 16 → ((bit_at c.some_ends.result i ≡ 1) ↔ (c.args.least ≤ slice_index rows (48 - (k - 1) * 16 + i))) =
    λ i l. subst (λ (x : ℕ). (bit_at c.some_ends.result i ≡ 1) ↔ (c.args.least ≤ x))
    (index_in_part rows from (80 - 16 * k - from) i (omega (arith, size, l)) ∙ ap (λ (n : ℕ). slice_index rows (n + i)) there) (c.some_ends.ensures.are i l) in
    subst (λ (n : ℕ). AreBitsOfSixteens c.args.least rows n (c.loop-k.bits * 65536 + c.some_ends.result)) next
    (sixteen_more c.args.least rows (k - 1) c.loop-k.bits c.some_ends.result (omega (arith, c.loop-k-test.true, c.loop-k.auto.k)) c.some_ends.ensures.small is c.loop-k.invariant)
