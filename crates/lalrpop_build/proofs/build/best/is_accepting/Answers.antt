use Rattle.lalrpop_build.proofs.Bests.{accepting_told}
use Rattle.lalrpop_build.proofs.build.best.is_accepting.Goals as goal

pub returns : goal.returns
returns c =
    accepting_told c.args.nfas.now c.args.item c.nfa.result.now c.state.result c.is_accepting_state.result c.requires.automata c.nfa.ensures c.state.ensures c.is_accepting_state.ensures.answer
