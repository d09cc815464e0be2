use Rattle.std.proofs.Common.{ℕ, ◌<◌, take}
use Rattle.bajofeki_rules.specs.EnteredModes.{OneLeadsInto}
use Rattle.lalrpop_rules.proofs.missing.missing_target.Given as goal

abbrev pub invariant-loop-action : goal.invariant-loop-action
invariant-loop-action l = (m : ℕ) → OneLeadsInto (take l.action-index l.actions) m → m < l.modes
