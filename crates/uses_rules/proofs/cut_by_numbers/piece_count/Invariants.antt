use Rattle.std.proofs.Common.{◌≡◌, ◌-◌, ◌≤◌, List, length}
use Rattle.lalrpop_emit.specs.ByteCut.{IsCutOf, place_of, stack_in}
use Rattle.lalrpop_emit.specs.BytePieces.{AreBytePiecesTo}
use Rattle.lalrpop_emit.specs.NumberedRules.{AreNumbersOf}
use Rattle.lalrpop_emit.specs.declared.numbered_piece.NumberedPiece.{NumberedPiece}
use Rattle.lalrpop_rules.specs.Modes.{ModeRules}
use Rattle.bajofeki_rules.specs.Stack.{start}
use Rattle.uses_rules.proofs.cut_by_numbers.piece_count.Given as goal

-- so many pieces lead to the place of the cut; each has a byte at least
abbrev pub invariant-pieces : goal.invariant-pieces
invariant-pieces l = record {
  cut : IsCutOf l.numbers l.text l.cutter;
  few : l.count ≤ place_of l.cutter;
  pieces : (r : ModeRules) → AreNumbersOf r l.numbers
      → (pieces : List NumberedPiece) × (AreBytePiecesTo r l.numbers.kinds 1024 l.text 0 start pieces (place_of l.cutter) (stack_in l.cutter) × (l.count ≡ length pieces));
}

abbrev pub decreases-pieces : goal.decreases-pieces
decreases-pieces l = length l.text - place_of l.cutter
