-- What the rows of a table stand for that runs ahead of a regular one.
use Rattle.std.specs.Prelude.{◌≡◌, ℕ, ◌+◌, ◌-◌, ◌*◌, ◌/◌, ◌<◌, List, [], ◌∷◌, ◌++◌, get_or, map}
use Rattle.std.specs.List.{range_with_len}
use Rattle.lalrpop_dense.specs.DenseTable.{TableNumbers}
use Rattle.lalrpop_emit.specs.Ahead.{Standing, Begin, Lost, Ended, In, Again, by_column, rule_at, rule_number}
use Rattle.lalrpop_emit.specs.declared.regular_ahead.Shape.{Shape}

-- the row of the table with this number among those that are live
abbrev pub live_row : Shape → ℕ → ℕ
live_row s k = (s.dead + k) * s.stride

-- one row for no token, one for each live row, one for the beginning, one for an end, and one for each live row again
abbrev pub standings_of : Shape → List Standing
standings_of s =
    Lost ∷ (map (λ k. In (live_row s k)) (range_with_len 0 s.live) ++ (Begin ∷ Ended ∷ map (λ k. Again (live_row s k)) (range_with_len 0 s.live)))

-- what the row with this number stands for
abbrev pub standing_at : Shape → ℕ → Standing
standing_at s k = get_or (standings_of s) k Lost

-- where each stands among them
abbrev pub place_in : Shape → Standing → ℕ
place_in s Lost = 0
place_in s Begin = s.live + 1
place_in s (In row) = row / s.stride - s.dead + 1
place_in s Ended = s.live + 2
place_in s (Again row) = row / s.stride - s.dead + s.live + 3

-- a row of it is a live one of the table
abbrev pub IsAmong : Shape → Standing → Type 0
IsAmong s (In row) = (k : ℕ) × (k < s.live) × (row ≡ live_row s k)
IsAmong s (Again row) = (k : ℕ) × (k < s.live) × (row ≡ live_row s k)
IsAmong s Lost = Unit {0}
IsAmong s Begin = Unit {0}
IsAmong s Ended = Unit {0}

-- where each column leads from the row that stands for this, and the rule
abbrev pub standing_cells : TableNumbers → Shape → ℕ → Standing → List ℕ
standing_cells t s width standing =
    map (λ column. place_in s (by_column t width standing column) * (width + 1)) (range_with_len 0 width) ++ (rule_number (rule_at t standing) ∷ [])
