use Rattle.lalrpop_build.proofs.EdgeGroupLaws.{AreNfasTo}
use Rattle.lalrpop_build.proofs.alphabet.groups.groups_of.Given as goal

abbrev pub invariant-loop-nfa : goal.invariant-loop-nfa
invariant-loop-nfa l = AreNfasTo l.lists l.fn.nfas l.nfa-index l.edge_groups.items
