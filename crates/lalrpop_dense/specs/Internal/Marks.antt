-- The ends of the tokens of a text.
use Rattle.std.specs.Prelude.{◌≡◌, ℕ, ◌+◌, ◌<◌, List, [], ◌∷◌, length, map, slice_index}
use Rattle.lalrpop_dfa.specs.Dfa.{Row}
use Rattle.lalrpop_dense.specs.Leading.{IsEnd}
use Rattle.lalrpop_dense.specs.Internal.Table.{numbers_of}
use Rattle.lalrpop_dense.specs.declared.table.Layout.{Layout}
use Rattle.lalrpop_dense.specs.declared.fused.Fused.{Fused}
use Rattle.lalrpop_dense.specs.declared.mark.Mark.{Mark}

-- the longest match of what is left from `begin` on ends at the mark's place, which counts from `base` on, by the pattern after the mark's row
pub record IsMark (f : Fused) (t : Layout) (d : List Row) (text : List ℕ) (base begin : ℕ) (m : Mark) : Type 0 where
  pub within : m.number + t.width < length (numbers_of f.cells)
  pub ends : IsEnd d text begin (slice_index (numbers_of f.cells) (m.number + t.width)) (base + m.place)

-- the marks lead from one place to another, token by token
abbrev pub AreMarks : Fused → Layout → List Row → List ℕ → ℕ → ℕ → ℕ → List Mark → Type 0
AreMarks f t d text base begin to [] = begin ≡ to
AreMarks f t d text base begin to (m ∷ ms) = IsMark f t d text base begin m × AreMarks f t d text base (base + m.place) to ms

-- the mark with the pattern that follows its row
abbrev pub named : List ℕ → ℕ → Mark → Mark
named cells width m = record { place = m.place; number = slice_index cells (m.number + width) }

-- of each mark that has its pattern, the pattern and where the token ends
abbrev pub ends_of : ℕ → List Mark → List (ℕ × ℕ)
ends_of base = map (λ m. (m.number, base + m.place))
