use Rattle.std.proofs.Common.{refl}
use Rattle.uses_lexer.proofs.match_a_text.match_of.Goals as goal

pub returns-in-Some-clause-found : goal.returns-in-Some-clause-found
returns-in-Some-clause-found c =
    let longest = rw c.in-Some.is at c.in_ok-found.ensures.longest in
    let strongest = rw c.in-Some.is at c.in_ok-found.ensures.strongest in
    rw c.index.ensures.value (c.in-Some.found.1.now, (refl, (longest, strongest)))
