use Rattle.std.proofs.Common.{take}
use Rattle.bajofeki_rules.specs.EnteredModes.{OneLeadsInto}
use Rattle.bajofeki_rules.specs.Internal.Marks.{HasMarked}
use Rattle.bajofeki_rules.proofs.entered.mark_targets.Given as goal

abbrev pub invariant-loop-action : goal.invariant-loop-action
invariant-loop-action l = HasMarked l.initial.marks (OneLeadsInto (take l.action-index l.actions)) l.marks l.is_any
