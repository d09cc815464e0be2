use Rattle.std.proofs.Common.{take}
use Rattle.lalrpop_build.specs.Internal.Boundaries.{HasAllOf}
use Rattle.lalrpop_build.proofs.alphabet.cells.insert_labels.Given as goal

abbrev pub invariant-loop-label : goal.invariant-loop-label
invariant-loop-label l = HasAllOf l.fn.labels.keys (take l.label-index l.list) l.labels.keys
