use Rattle.std.specs.List.{filter}
use Rattle.lalrpop_nfa.specs.Walk.{leaves}
use Rattle.lalrpop_build.proofs.EdgeGroupLaws.{IsReading}
use Rattle.lalrpop_build.proofs.alphabet.groups.Lists.edge_groups_of.Given as goal

abbrev pub invariant-loop-edge : goal.invariant-loop-edge
invariant-loop-edge l = IsReading l.fn.self l.self l.edge_groups.items l.run.labels.list.items l.run.to (filter (leaves l.fn.state) l.fn.nfa.edges.tests) l.edge-iterator
