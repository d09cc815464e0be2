use Rattle.std.proofs.Common.{◌+◌, ◌≤◌, arith}
use Rattle.uses_lexer.proofs.look_ahead.to_read.Goals as goal

pub returns-in-Some : goal.returns-in-Some
returns-in-Some c = record {
  settled = λ e v x z some m long none more.
      let few : c.in-Some.number + 1 ≤ c.in-Some.number =
      c.in-Some.ensures.answer.0 (c.in-Some.number + 1) (v, x, record { some = some; word = m; long = long; none = none; later = (z, more) }) in
      omega arith;
}
