-- cases: proofs/Cases/Range.antt
-- Ranges of values.
use Rattle.std.specs.Prelude.{ℕ, ◌≤◌, ◌⊎◌, List, [], ◌∷◌}

-- the values from start to end, both included; none if start is above end
pub record Range : Type 0 where
  pub start : ℕ
  pub end : ℕ

-- the value lies in the range
abbrev pub Covers : Range → ℕ → Type 0
Covers r c = (r.start ≤ c) × (c ≤ r.end)

-- the value lies in some range of the list
abbrev pub Covered : List Range → ℕ → Type 0
Covered [] c = ⊥
Covered (r ∷ rs) c = Covers r c ⊎ Covered rs c
