use Rattle.std.proofs.Common.{◌≡◌, take}
use Rattle.bajofeki_rules.specs.Position.{byte_place}
use Rattle.bajofeki_rules.proofs.position.byte_place.Given as goal

abbrev pub invariant-loop-byte : goal.invariant-loop-byte
invariant-loop-byte l = record { place : l.place ≡ byte_place (take l.byte-index l.bytes) }
