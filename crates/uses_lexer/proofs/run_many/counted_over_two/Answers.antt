use Rattle.std.proofs.Common.{length}
use Rattle.std.specs.Str.{chars}
use Rattle.uses_lexer.proofs.Counted.{counted_on, read_on}
use Rattle.uses_lexer.proofs.run_many.counted_over_two.Goals as goal

pub returns-clause-looked : goal.returns-clause-looked
returns-clause-looked c = λ n most.
    counted_on (λ m. length (chars m.1.now)) c.interpret_counted-2.result _ _ _ _ n c.interpret_counted.ensures.cost (c.interpret_counted-2.ensures.looked n most)

pub returns-clause-read : goal.returns-clause-read
returns-clause-read c = read_on (λ m. length (chars m.1.now)) c.interpret_counted-2.result _ _ _ c.interpret_counted.ensures.never_falls c.interpret_counted-2.ensures.read
