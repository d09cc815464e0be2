use Rattle.std.proofs.Common.{length, ap, arith}
use Rattle.bajofeki.proofs.Holding.{holds_it}
use Rattle.uses_rules.proofs.edit_a_text.length_at.Goals as goal

pub returns-in-Some : goal.returns-in-Some
returns-in-Some c =
    let held = holds_it c.args.lexed.now c.args.at c.in-Some.piece c.in-Some.ensures.piece in
    record { some = λ within. omega (arith, held.0, held.1, ap length c.slice.ensures.slice) }
