use Rattle.std.proofs.Common.{◌≤◌, ◌∙◌, ℕ, length, arith, ap}
use Rattle.std.specs.List.{count_by}
use Rattle.std.proofs.lemmas.List.{take_all}
use Rattle.lalrpop_hir.specs.Starts.{is_start}
use Rattle.lalrpop_hir.proofs.StartLaws.{count_starts}
use Rattle.lalrpop_hir.proofs.characters.char_count.Goals as goal

pub returns : goal.returns
returns c = record {
  count =
      let all : length c.args.text.now ≤ c.loop-byte.byte-index = omega (arith, c.loop-byte-test.false, c.loop-byte.auto.byte-index-end, ap (length {A = ℕ}) c.as_bytes-byte-items.ensures.value) in
      c.loop-byte.invariant.count ∙ ap (count_by is_start) (take_all c.loop-byte.byte-index c.args.text.now all) ∙ count_starts c.args.text.now c.utf8.text;
}
