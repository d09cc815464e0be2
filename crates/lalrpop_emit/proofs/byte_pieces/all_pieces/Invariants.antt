use Rattle.std.proofs.Common.{◌-◌, length}
use Rattle.lalrpop_rules.specs.Modes.{ModeRules}
use Rattle.bajofeki_rules.specs.Stack.{start}
use Rattle.lalrpop_emit.specs.ByteCut.{IsCutOf, place_of, stack_in}
use Rattle.lalrpop_emit.specs.BytePieces.{AreBytePiecesTo}
use Rattle.lalrpop_emit.specs.NumberedRules.{AreNumbersOf}
use Rattle.lalrpop_emit.proofs.byte_pieces.all_pieces.Given as goal

-- the pieces up to the place are known
abbrev pub invariant-pieces : goal.invariant-pieces
invariant-pieces l = record {
  cut : IsCutOf l.numbers l.text l.cutter;
  pieces : (r : ModeRules) → AreNumbersOf r l.numbers → AreBytePiecesTo r l.numbers.kinds 1024 l.text 0 start l.pieces.items (place_of l.cutter) (stack_in l.cutter);
}

abbrev pub decreases-pieces : goal.decreases-pieces
decreases-pieces l = length l.text - place_of l.cutter
