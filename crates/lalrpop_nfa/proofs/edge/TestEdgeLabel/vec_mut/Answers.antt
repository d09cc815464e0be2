use Rattle.std.proofs.Common.{rules}
use Rattle.lalrpop_nfa.proofs.edge.TestEdgeLabel.vec_mut.Goals as goal

pub returns : goal.returns
returns c = search rules
