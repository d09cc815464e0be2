use Rattle.std.proofs.Common.{◌<◌, ◌-◌, drop, length}
use Rattle.std.specs.Str.{IsCharBoundary}
use Rattle.bajofeki_rules.specs.Stack.{start}
use Rattle.lalrpop_rules.specs.Modes.{EachMode}
use Rattle.bajofeki.specs.Internal.Ahead.{LeadOnAfter}
use Rattle.bajofeki.specs.Internal.Kept.{KeptUpTo}
use Rattle.bajofeki.specs.Internal.Noted.{IsCutter}
use Rattle.bajofeki.proofs.whole.kept_pieces.Given as goal

-- the text is cut up to the place
abbrev pub invariant-cutting : goal.invariant-cutting
invariant-cutting l = record {
  pieces : KeptUpTo l.lexer l.text 0 start l.pieces.items l.place.at l.place.stack;
  boundary : IsCharBoundary l.text l.place.at;
  there : EachMode (λ m. m < l.lexer.modes) l.place.stack;
  cutter : IsCutter l.lexer l.cutter l.place.at (drop l.place.at l.text);
  ahead : LeadOnAfter l.lexer l.place.stack.mode (drop l.place.at l.text) 0 l.ahead;
}

abbrev pub decreases-cutting : goal.decreases-cutting
decreases-cutting l = length l.text - l.place.at
