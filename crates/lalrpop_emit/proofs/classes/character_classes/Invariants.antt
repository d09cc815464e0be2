use Rattle.std.proofs.Common.{◌≤◌, ◌-◌, length}
use Rattle.lalrpop_emit.specs.EmitErrors.{AreToldApart}
use Rattle.lalrpop_emit.proofs.Told.{AreClassed}
use Rattle.lalrpop_emit.proofs.classes.character_classes.Given as goal

-- the characters so far are in classes
abbrev pub invariant-runs : goal.invariant-runs
invariant-runs l = record {
  apart : AreToldApart l.dfa l.firsts.items;
  few : length l.firsts.items ≤ 255;
  some : l.value ≤ 1114112;
  classed : AreClassed l.dfa l.firsts.items l.classes.items l.value;
}

abbrev pub decreases-runs : goal.decreases-runs
decreases-runs l = 1114112 - l.value
