use Rattle.std.proofs.Common.{◌≡◌, ◌-◌, ◌*◌, ◌/◌, ◌%◌, ◌^◌, ◌<◌, ℕ, length, slice_index, refl, sym, ap, ◌∙◌, arith}
use Rattle.std.specs.Int.{bit_at}
use Rattle.std.proofs.lemmas.List.{get_or_read}
use Rattle.std.proofs.lemmas.Nat.Bits.{shr_and_one}
use Rattle.lalrpop_emit.proofs.RunTokens.{serves_again}
use Rattle.lalrpop_emit.proofs.ahead_driver.resume.Goals as goal

pub returns-then-index-place-eq1-clause-serves : goal.returns-then-index-place-eq1-clause-serves
returns-then-index-place-eq1-clause-serves c = λ a t text block.
    let run = c.args.run.now in
    let place = c.args.at - run.base in
    let shift = place % 64 in
    let x = c.index-then-index-place-eq1.result.now in
    let within : place / 64 < length run.ends.items = omega (arith, c.if-place-run.true, c.requires.room.length, c.requires.room.ends) in
    let tested = get_or_read run.ends.items (place / 64) c.index.result.now within c.index.ensures 0 in
    let read = get_or_read run.ends.items (place / 64) x within c.index-then-index-place-eq1.ensures 0 in
    let set : bit_at (slice_index run.ends.items (place / 64)) shift ≡ 1 =
    sym (ap (λ (n : ℕ). bit_at n shift) tested) ∙ sym (shr_and_one c.index.result.now shift) ∙ c.if-index-place-eq1.true in
    serves_again a t text run c.args.at (place / 64) ((x / 2 ^ shift - 1) * 2 ^ shift % 2 ^ 64) (block c.if-mode-run.true) c.requires.behind c.if-place-run.true set refl
    (ap (λ (n : ℕ). (n / 2 ^ shift - 1) * 2 ^ shift % 2 ^ 64) read)
