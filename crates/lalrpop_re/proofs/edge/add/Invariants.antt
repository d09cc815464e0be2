use Rattle.std.proofs.Common.{◌≡◌}
use Rattle.lalrpop_re.proofs.edge.add.Given as goal

abbrev pub invariant-loop-edge : goal.invariant-loop-edge
invariant-loop-edge l = l.edge-items ≡ l.initial.edge-items
