use Rattle.std.proofs.Common.{◌-◌, length}
use Rattle.lalrpop_emit.specs.ByteCut.{IsCutOf, place_of}
use Rattle.rules_tests.proofs.emit.add_cut.Given as goal

abbrev pub invariant-pieces : goal.invariant-pieces
invariant-pieces l = IsCutOf l.numbers l.text l.cutter

abbrev pub decreases-pieces : goal.decreases-pieces
decreases-pieces l = length l.text - place_of l.cutter
