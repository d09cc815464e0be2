-- cases: proofs/Cases/Place.antt
-- The line and the column of a place.
use Rattle.std.specs.Prelude.{ℕ, List, length, min}
use Rattle.bajofeki_rules.specs.Position.{byte_place_of}
use Rattle.bajofeki_c.specs.declared.position.Place.{Place}

-- the place of an offset, or of the text's end if that is before it
abbrev pub place_in : List ℕ → ℕ → Place
place_in text at = record { at = min at (length text); line = (byte_place_of text at).line; column = (byte_place_of text at).column }
