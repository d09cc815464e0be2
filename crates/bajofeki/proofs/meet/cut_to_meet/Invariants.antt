use Rattle.std.proofs.Common.{◌≡◌, ℕ, ◌≤◌, ◌-◌, ◌+◌, ◌<◌, List, true, length, drop}
use Rattle.std.specs.Str.{IsCharBoundary}
use Rattle.lalrpop_rules.specs.Modes.{EachMode}
use Rattle.bajofeki.specs.Internal.Kept.{KeptUpTo}
use Rattle.bajofeki.specs.Internal.Blocks.{pieces_in}
use Rattle.bajofeki.specs.Internal.Noted.{IsCutter}
use Rattle.bajofeki.specs.Internal.Meeting.{IsOldPlace, NoneMet}
use Rattle.bajofeki.specs.Internal.Paying.{IsCutPaid}
use Rattle.bajofeki.proofs.meet.cut_to_meet.Given as goal

-- the pieces that were cut lead from the start to where the text is cut, and the notes pay for them; and the old place only goes forward
abbrev pub invariant-cut : goal.invariant-cut
invariant-cut l = record {
  old : IsOldPlace l.lexer l.blocks l.old;
  block : l.fn.old.spot.block ≤ l.old.spot.block;
  count : l.fn.old.spot.count ≤ l.old.spot.count;
  cut : KeptUpTo l.lexer l.text l.fn.cut.place.at l.fn.cut.place.stack l.cut.pieces.items l.cut.place.at l.cut.place.stack;
  boundary : IsCharBoundary l.text l.cut.place.at;
  none : NoneMet l.lexer l.edit (pieces_in l.blocks) l.fn.old.spot.count l.old.spot.count l.fn.cut.place.at l.fn.cut.place.stack l.cut.pieces.items;
  there : EachMode (λ m. m < l.lexer.modes) l.cut.place.stack;
  cutter : IsCutter l.lexer l.cutter l.cut.place.at (drop l.cut.place.at l.text);
  walkers : l.cutter.walkers.items ≡ l.fn.cutter.walkers.items;
  paid : l.cutter.memo.is_whole ≡ true
      → (news : List (ℕ × (ℕ × ℕ))) × ((far : ℕ) × IsCutPaid l.lexer l.cutter l.text l.fn.cut.place l.cut.place l.fn.steps l.steps news far);
  never_falls : l.fn.steps ≤ l.steps;
}

abbrev pub decreases-cut : goal.decreases-cut
decreases-cut l = (length l.text - l.cut.place.at) + (length (pieces_in l.blocks) - l.old.spot.count)
