use Rattle.std.proofs.Common.{◌≡◌, ℕ, ◌<◌, ◌+◌, ◌-◌, ◌*◌, drop, slice_index, subst, ap, ◌∙◌, arith}
use Rattle.std.specs.Int.{bit_at}
use Rattle.std.proofs.lemmas.List.{length-take-le, length-drop}
use Rattle.lalrpop_emit.proofs.FlagBits.{AreBitsOfEights, no_eights, eight_more, index_in_part}
use Rattle.lalrpop_emit.proofs.flag_ends.bits_of.Goals as goal

pub loop-k-init : goal.loop-k-init
loop-k-init c = no_eights c.args.flags.now

pub overflow_mul-bits : goal.overflow_mul-bits
overflow_mul-bits c = omega (arith, c.loop-k.invariant.room (omega (arith, c.loop-k-test.true, c.loop-k.auto.k)))

pub overflow_add-bits : goal.overflow_add-bits
overflow_add-bits c = omega (arith, c.eight_bits.ensures.small, c.loop-k.invariant.room (omega (arith, c.loop-k-test.true, c.loop-k.auto.k)))

pub eight_bits-requires : goal.eight_bits-requires
eight_bits-requires c =
    let flags = c.args.flags.now in
    let from = 64 - 8 * c.loop-k.k in
    let size : 72 - 8 * c.loop-k.k - from ≡ 8 = omega (arith, c.loop-k-test.true) in
    record {
      eight = length-take-le (72 - 8 * c.loop-k.k - from) (drop from flags) (omega (arith, length-drop from flags, c.requires.long, c.loop-k-test.true)) ∙ size;
      flags = λ i l. omega (arith, index_in_part flags from (72 - 8 * c.loop-k.k - from) i (omega (arith, size, l)), c.requires.flags (from + i) (omega (arith, l, c.loop-k.auto.k)));
    }

pub loop-k-preserved : goal.loop-k-preserved
loop-k-preserved c =
    let flags = c.args.flags.now in
    let k = c.loop-k.k in
    let from = 64 - 8 * k in
    let next : k - 1 + 1 ≡ k + 1 - 1 = omega arith in
    let size : 72 - 8 * k - from ≡ 8 = omega (arith, c.loop-k-test.true) in
    let there : from ≡ 56 - (k - 1) * 8 = omega (arith, c.loop-k-test.true, c.loop-k.auto.k) in
    let is : (i : ℕ) → i < 8 → bit_at c.eight_bits.result i ≡ slice_index flags (56 - (k - 1) * 8 + i) =
    λ i l. c.eight_bits.ensures.bits i l ∙ index_in_part flags from (72 - 8 * k - from) i (omega (arith, size, l)) ∙ ap (λ (n : ℕ). slice_index flags (n + i)) there in
    subst (λ (n : ℕ). AreBitsOfEights flags n (c.loop-k.bits * 256 + c.eight_bits.result)) next
    (eight_more flags (k - 1) c.loop-k.bits c.eight_bits.result (omega (arith, c.loop-k-test.true, c.loop-k.auto.k)) c.eight_bits.ensures.small is c.loop-k.invariant)

pub returns : goal.returns
returns c = λ i l.
    let all : c.loop-k.k - 1 ≡ 8 = omega (arith, c.loop-k-test.false, c.loop-k.invariant.few) in
    let place : 64 - (c.loop-k.k - 1) * 8 + i ≡ i = omega (arith, all) in
    c.loop-k.invariant.are i (omega (arith, all, l)) ∙ ap (slice_index c.args.flags.now) place
