use Rattle.std.proofs.Common.{subst, sym}
use Rattle.std.proofs.lemmas.Result.{IfOk-weaker}
use Rattle.lalrpop_nfa.specs.Automata.{AreCompiled}
use Rattle.lalrpop_dfa.proofs.Recognized.{on_words}
use Rattle.lalrpop_build.specs.Internal.Given.{AreAutomata}
use Rattle.lalrpop_build.proofs.build.build_dfa.Goals as goal

pub build-requires-clause-automata : goal.build-requires-clause-automata
build-requires-clause-automata c = subst AreAutomata (sym c.deref.ensures.value) (c.args.regexs.now, c.in_ok-nfas.ensures.ok.1, c.in_ok-nfas.ensures.fixed)

pub returns-clause-ok : goal.returns-clause-ok
returns-clause-ok c =
    let ts = c.args.regexs.now in
    let compiled = subst (AreCompiled ts) (sym c.deref.ensures.value) c.in_ok-nfas.ensures.ok.1 in
    IfOk-weaker c.build.result _ _ (λ dfa stands. (c.in_ok-nfas.ensures.ok.0, (stands ts compiled).0, on_words _ _ _ (stands ts compiled).1)) c.build.ensures.stands
