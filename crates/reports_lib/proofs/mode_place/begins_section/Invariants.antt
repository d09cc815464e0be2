use Rattle.std.proofs.Common.{◌≡◌, drop}
use Rattle.reports_lib.specs.Internal.ModePlaces.{begins_section}
use Rattle.reports_lib.proofs.mode_place.begins_section.Given as goal

-- only blanks stand before
abbrev pub invariant-loop-byte : goal.invariant-loop-byte
invariant-loop-byte l = begins_section (drop l.byte-index l.line) ≡ begins_section l.line
