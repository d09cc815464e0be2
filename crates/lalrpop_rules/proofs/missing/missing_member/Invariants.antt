use Rattle.std.proofs.Common.{◌<◌, take}
use Rattle.lalrpop_rules.specs.Modes.{AllOf}
use Rattle.lalrpop_rules.proofs.missing.missing_member.Given as goal

abbrev pub invariant-loop-mode : goal.invariant-loop-mode
invariant-loop-mode l = AllOf (λ m. m < l.modes) (take l.mode-index l.members)
