use Rattle.std.proofs.Common.{ap, arith}
use Rattle.std.specs.Prelude.{length}
use Rattle.std.proofs.lemmas.List.Sums.{length-filter}
use Rattle.bajofeki.specs.Lexed.{holds_byte}
use Rattle.uses_rules.proofs.edit_a_text.count_between.Goals as goal

pub returns : goal.returns
returns c =
    let are = c.in_ok-pieces.ensures.pieces in
    let held = length-filter (holds_byte c.args.range.start c.args.range.end) are.0 in
    record { count = (are.0, (are.1.0, omega (arith, held, ap length are.1.1, c.len.ensures, c.in_ok-pieces.pieces.ok.0))) }
