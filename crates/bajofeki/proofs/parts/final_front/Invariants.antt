use Rattle.std.proofs.Common.{◌+◌, ◌-◌, length}
use Rattle.std.specs.Prelude.{IfSome}
use Rattle.lalrpop_rules.specs.Modes.{trees_in}
use Rattle.bajofeki.specs.Internal.Held.{IsHeld}
use Rattle.bajofeki.specs.Internal.Noted.{IsCutter}
use Rattle.bajofeki.specs.Internal.Parts.{IsPart, text_in}
use Rattle.bajofeki.proofs.parts.final_front.Given as goal

abbrev pub invariant-parts : goal.invariant-parts
invariant-parts l = record {
  part : IsPart (trees_in l.lexer l.mode) l.bytes l.part;
  cutter : IsCutter l.lexer l.cutter (l.at + l.part.from) (text_in l.bytes l.part);
  run : IfSome l.held (IsHeld l.lexer l.mode (text_in l.bytes l.part));
}

abbrev pub decreases-parts : goal.decreases-parts
decreases-parts l = length l.bytes - l.part.from
