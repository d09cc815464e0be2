-- The place after one more character, or byte.
use Rattle.std.specs.Prelude.{ℕ, ◌+◌, if◌then◌else◌}
use Rattle.bajofeki_rules.specs.Position.{is_line_feed}
use Rattle.bajofeki_rules.specs.declared.position.Position.{Position}
use Rattle.lalrpop_hir.specs.Starts.{is_start}

-- a line feed ends the line, and any other character moves on by one column
abbrev pub next_place : Position → ℕ → Position
next_place p c =
    if is_line_feed c then record { line = p.line + 1; column = 1 } else record { line = p.line; column = p.column + 1 }

-- the same for a byte: one with which no character begins changes nothing
abbrev pub place_after_byte : Position → ℕ → Position
place_after_byte p b =
    if is_line_feed b then record { line = p.line + 1; column = 1 } else record { line = p.line; column = p.column + (if is_start b then 1 else 0) }
