use Rattle.std.proofs.Common.{take}
use Rattle.std.specs.Prelude.{slice_get, slice_index, IsSomeAnd}
use Rattle.lalrpop_verdicts.specs.Internal.ClassRows.{AreJoined}
use Rattle.lalrpop_verdicts.proofs.smallest.joined_edges.Given as goal

abbrev pub invariant-loop-test : goal.invariant-loop-test
invariant-loop-test l = IsSomeAnd (slice_get l.dfa l.fn.state) (λ r. AreJoined (slice_index l.classes) r.other (take l.test-index l.test-items) l.edges.items)
