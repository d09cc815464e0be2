-- cases: proofs/Cases/BytePositions.antt
-- The line and the column of a place in a text of bytes, which needn't be UTF-8.
use Rattle.std.specs.Prelude.{ℕ, List}
use Rattle.bajofeki_rules.specs.Position.{byte_place_of}
use Rattle.lalrpop_emit.specs.declared.byte_positions.BytePosition.{BytePosition}

-- the place of an offset, with its line and its column
abbrev pub byte_position_of : List ℕ → ℕ → BytePosition
byte_position_of text at = record { at = at; line = (byte_place_of text at).line; column = (byte_place_of text at).column }
