use Rattle.std.proofs.Common.{map, subst, sym}
use Rattle.std.specs.Global.{Vec}
use Rattle.std.proofs.lemmas.Result.{IfOk-weaker}
use Rattle.lalrpop_hir.specs.Clashes.{Entry}
use Rattle.lalrpop_nfa.specs.Automata.{AreCompiled}
use Rattle.lalrpop_build.specs.Internal.Given.{AreAutomata}
use Rattle.lalrpop_build.proofs.ClashListLaws.{empty_is_no_clash, first_entry_is_clash}
use Rattle.lalrpop_build.proofs.all_clashes.clashes.Goals as goal

pub clashes_of-requires-clause-automata : goal.clashes_of-requires-clause-automata
clashes_of-requires-clause-automata c = subst AreAutomata (sym c.deref.ensures.value) (c.args.regexs.now, c.in_ok-nfas.ensures.ok.1, c.in_ok-nfas.ensures.fixed)

pub returns-clause-empty : goal.returns-clause-empty
returns-clause-empty c =
    let ts = c.args.regexs.now in
    let compiled = subst (AreCompiled ts) (sym c.deref.ensures.value) c.in_ok-nfas.ensures.ok.1 in
    IfOk-weaker _ _ _ (λ (found : Vec Entry) all. empty_is_no_clash ts (map (λ p. p.0) c.args.precedences.now) found.items (all ts compiled)) c.clashes_of.ensures.ok

pub returns-clause-first : goal.returns-clause-first
returns-clause-first c =
    let ts = c.args.regexs.now in
    let compiled = subst (AreCompiled ts) (sym c.deref.ensures.value) c.in_ok-nfas.ensures.ok.1 in
    IfOk-weaker _ _ _ (λ (found : Vec Entry) all. first_entry_is_clash ts (map (λ p. p.0) c.args.precedences.now) found.items (all ts compiled)) c.clashes_of.ensures.ok
