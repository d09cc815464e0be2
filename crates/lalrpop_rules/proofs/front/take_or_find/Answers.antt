use Rattle.lalrpop_rules.proofs.Waiting.{front_met}
use Rattle.lalrpop_rules.proofs.front.take_or_find.Goals as goal

pub returns-in-None-clause-front : goal.returns-in-None-clause-front
returns-in-None-clause-front c =
    let found = c.next_or_pass in
    rw c.in-None.is
    (λ text at w. front_met text at found.result c.args.matches.now found.new.matches w found.ensures.answer found.ensures.passes)
