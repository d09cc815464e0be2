use Rattle.std.proofs.Common.{◌≡◌, ◌+◌, ◌-◌, ◌<◌, ◌≤◌, ℕ, true, nat_lt, take, drop, length, slice_index, bit_or, subst, arith, ⊎_elim}
use Rattle.std.proofs.lemmas.Bool.{cases_lt, OnTrue_from}
use Rattle.std.proofs.lemmas.List.{length-take-le, length-drop}
use Rattle.std.proofs.lemmas.Nat.{le_or_l, le_or_r}
use borrow.Author.Tests.{ltb-true}
use Rattle.lalrpop_emit.proofs.FlagBits.{index_in_part}
use Rattle.lalrpop_emit.proofs.ahead_columns.is_ascii_run.Goals as goal

pub loop-byte-preserved : goal.loop-byte-preserved
loop-byte-preserved c = λ i high.
    let run = take (c.args.at + 32 - c.args.at) (drop c.args.at c.args.text.now) in
    let here = c.loop-byte.byte-index in
    let all = bit_or c.loop-byte.all (slice_index run here) in
    ⊎_elim
    (λ (before : i < here). omega (arith, c.loop-byte.invariant i before, le_or_l c.loop-byte.all (slice_index run here)))
    (λ (behind : here ≤ i).
    let same : here ≡ i = omega (arith, high) in
    subst (λ (n : ℕ). slice_index run n ≤ all) same (le_or_r c.loop-byte.all (slice_index run here)))
    (cases_lt i here)

pub returns : goal.returns
returns c =
    let text = c.args.text.now in
    let at = c.args.at in
    let size : at + 32 - at ≡ 32 = omega arith in
    let left : at + 32 ≤ length text = omega (arith, c.if-text-lt-RUN.false, c.if-at-text.false) in
    let long : length (take (at + 32 - at) (drop at text)) ≡ at + 32 - at = length-take-le (at + 32 - at) (drop at text) (omega (arith, length-drop at text)) in
    OnTrue_from (nat_lt c.loop-byte.all 128) ((k : ℕ) → at ≤ k → k < at + 32 → (k < length text) × (slice_index text k < 128)) (λ (low : nat_lt c.loop-byte.all 128 ≡ true) (k : ℕ) (from : at ≤ k) (to : k < at + 32).
    let place : at + (k - at) ≡ k = omega (arith, from) in
    let most = c.loop-byte.invariant (k - at) (omega (arith, c.loop-byte-test.false, long, from, to)) in
    let same = index_in_part text at (at + 32 - at) (k - at) (omega (arith, from, to)) in
    let byte : slice_index text (at + (k - at)) < 128 = omega (arith, most, same, ltb-true c.loop-byte.all 128 low) in
    (omega (arith, left, to), subst (λ (n : ℕ). slice_index text n < 128) place byte))
