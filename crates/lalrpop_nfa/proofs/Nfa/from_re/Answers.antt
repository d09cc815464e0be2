use Rattle.std.proofs.Common.{sym, subst}
use Rattle.lalrpop_nfa.specs.Graph.{Graph}
use Rattle.lalrpop_nfa.specs.Compiled.{IsCompiled, HasFixedEdges}
use Rattle.lalrpop_nfa.proofs.BuildLemmas.{compiled_extended}
use Rattle.lalrpop_nfa.proofs.CompiledTree.{compiled_is_compiled, compiled_fixed}
use Rattle.lalrpop_nfa.proofs.Nfa.from_re.Goals as goal

pub returns-clause-ok : goal.returns-clause-ok
returns-clause-ok c =
    let t = c.args.regex.now in
    let o = c.in_ok-entry.ensures in
    let is = compiled_extended t c.in_ok-nfa.nfa c.expr.new.self c.push_edge.new.self c.in_ok-entry.entry c.in_ok-nfa.ensures.fresh o.extended c.in_ok-push_edge.ensures.pushed in
    (o.no_fault, subst (IsCompiled t) (sym is) (compiled_is_compiled t o.valid o.no_fault))

pub returns-clause-fixed_edges : goal.returns-clause-fixed_edges
returns-clause-fixed_edges c =
    let t = c.args.regex.now in
    let is = compiled_extended t c.in_ok-nfa.nfa c.expr.new.self c.push_edge.new.self c.in_ok-entry.entry c.in_ok-nfa.ensures.fresh c.in_ok-entry.ensures.extended c.in_ok-push_edge.ensures.pushed in
    subst (λ (g : Graph). HasFixedEdges g.edges) (sym is) (compiled_fixed t)
