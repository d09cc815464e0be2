use Rattle.lalrpop_verdicts.proofs.VerdictLaws.{are_winners, own_stays}
use Rattle.lalrpop_verdicts.proofs.verdict.winners.Goals as goal

pub returns-clause-winners : goal.returns-clause-winners
returns-clause-winners c = λ ts ps h.
    (let own = c.in_ok-own.ensures.own in
    are_winners c.args.regexs.now c.args.index c.in_ok-own.own own c.args.dfa.now ts ps h c.in_ok-found.found.items
    (c.in_ok-found.ensures.words (own_stays c.args.regexs.now c.args.index c.in_ok-own.own own)))
