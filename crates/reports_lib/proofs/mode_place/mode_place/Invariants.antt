use Rattle.std.proofs.Common.{◌≡◌, ◌+◌, ◌≤◌, length}
use Rattle.bajofeki_rules.specs.Lines.{lines}
use Rattle.reports_lib.specs.Internal.ModePlaces.{place_from, section_at}
use Rattle.reports_lib.proofs.mode_place.mode_place.Given as goal

-- no line so far begins its section, and their number is no greater than that of the bytes
abbrev pub invariant-loop-line : goal.invariant-loop-line
invariant-loop-line l = record {
  same : place_from (l.number + 1) (lines l.rest) l.mode ≡ section_at (lines l.bytes) l.mode;
  room : l.number + length l.rest ≤ length l.bytes;
}

abbrev pub decreases-loop-line : goal.decreases-loop-line
decreases-loop-line l = length l.rest
