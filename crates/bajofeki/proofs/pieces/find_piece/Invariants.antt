use Rattle.std.proofs.Common.{◌≡◌, ◌+◌, ◌≤◌, take}
use Rattle.bajofeki.specs.Internal.Blocks.{sizes}
use Rattle.bajofeki.proofs.pieces.find_piece.Given as goal

abbrev pub invariant-loop-piece : goal.invariant-loop-piece
invariant-loop-piece l = (l.begins ≡ l.start + sizes (take l.piece-index l.pieces)) × (l.begins ≤ l.at)
