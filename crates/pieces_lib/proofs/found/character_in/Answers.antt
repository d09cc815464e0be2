use Rattle.std.proofs.Common.{ap, length, sym, ◌∙◌}
use Rattle.std.specs.Str.Lossy.{utf8_valid_len}
use Rattle.pieces_lib.proofs.FoundLaws.{none_found, some_found}
use Rattle.pieces_lib.proofs.found.character_in.Goals as goal

pub returns-clause-some : goal.returns-clause-some
returns-clause-some c =
    some_found c.args.bytes.now c.valid.result.now _ c.chars.result c.next-2.new.self c.next-2.result c.next-2.ensures.steps c.chars.ensures.rest c.valid.utf8
    (sym c.utf8_chunks.ensures.rest ∙ (rw (sym c.valid.ensures) at c.in_ok-chunk.ensures.steps.0))

pub returns-clause-none : goal.returns-clause-none
returns-clause-none c =
    none_found c.args.bytes.now c.valid.result.now c.chars.result c.next-2.new.self c.next-2.result c.next-2.ensures.steps c.chars.ensures.rest
    (ap length c.valid.ensures ∙ c.in_ok-chunk.ensures.steps.3.0 ∙ ap utf8_valid_len c.utf8_chunks.ensures.rest)
