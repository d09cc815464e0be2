use Rattle.lalrpop_build.proofs.EdgeGroupLaws.{states_more, grown_more}
use Rattle.lalrpop_build.proofs.alphabet.groups.Lists.states_of.Goals as goal

pub loop-number-preserved : goal.loop-number-preserved
loop-number-preserved c = record {
  states = states_more c.loop-number.self c.edge_groups_of.new.self c.args.nfa.now c.loop-number.number c.loop-number.states.items c.push.new.self.items (record { edge_groups = c.in_ok-edge_groups.edge_groups }) c.loop-number.invariant.states c.in_ok-edge_groups.ensures.grown (rw c.new.ensures.value at c.in_ok-edge_groups.ensures.edge_groups) c.in_ok-push.ensures.items;
  grown = grown_more c.args.self.now c.loop-number.self c.edge_groups_of.new.self c.loop-number.invariant.grown c.in_ok-edge_groups.ensures.grown;
}
