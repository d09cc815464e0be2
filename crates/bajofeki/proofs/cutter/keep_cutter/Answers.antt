use Rattle.bajofeki.proofs.cutter.keep_cutter.Goals as goal

pub returns-in_ok-new-clause-ready : goal.returns-in_ok-new-clause-ready
returns-in_ok-new-clause-ready c at text kept = c.in_ok-new.ensures.ready at text
