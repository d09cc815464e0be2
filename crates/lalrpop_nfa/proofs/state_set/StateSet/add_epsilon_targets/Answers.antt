use Rattle.std.proofs.Common.{sym, ◌∙◌, subst}
use Rattle.lalrpop_nfa.specs.Internal.StateSets.{IsEpsilonEdge}
use Rattle.lalrpop_nfa.proofs.StateSetLemmas.{Ends, IsGoing, going_start, going_more, going_end, grown_iff, ends_epsilon, epsilon_ends}
use Rattle.lalrpop_nfa.proofs.state_set.StateSet.add_epsilon_targets.Goals as goal

pub loop-edge-init : goal.loop-edge-init
loop-edge-init c =
    subst (λ rest. IsGoing c.args.from c.args.nfa.now.edges.noops rest (λ x. Unit {0}) c.args.self.now c.args.self.now)
    (sym (c.into_iter-edge-iterator.ensures.into_iter_gives ∙ c.edges-edge-items.ensures.edges))
    (going_start c.args.from c.args.nfa.now.edges.noops (λ x. Unit {0}) c.args.self.now)

pub loop-edge-preserved : goal.loop-edge-preserved
loop-edge-preserved c =
    going_more c.args.from c.args.nfa.now.edges.noops c.loop-edge.edge-iterator c.next.new.self (λ x. Unit {0}) c.args.self.now c.loop-edge.self c.in-Some.edge.now
    c.insert.new.self c.loop-edge.invariant c.in-Some.ensures.steps tt c.in_ok-insert.ensures.grown

pub returns : goal.returns
returns c =
    let e = c.args.nfa.now.edges in
    grown_iff c.args.self.now c.loop-edge.self (Ends e.noops c.args.from (λ x. Unit {0})) (IsEpsilonEdge e c.args.from)
    (going_end c.args.from e.noops c.loop-edge.edge-iterator (λ x. Unit {0}) c.args.self.now c.loop-edge.self c.loop-edge.invariant c.in-None.ensures.steps.0)
    (ends_epsilon e c.args.from) (epsilon_ends e c.args.from)
