-- Cases of specs/Range.antt.
use Rattle.std.proofs.Common.{ℕ, inl, inr, [], ◌∷◌, arith}
use Rattle.lalrpop_hir.specs.Range.{Range, Covers, Covered}

-- the range from the first value to the second
abbrev between : ℕ → ℕ → Range
between s e = record { start = s; end = e }

-- a-c covers its last value
range_covers_its_end : Covers (between 97 99) 99
range_covers_its_end = (omega arith, omega arith)

-- and not the next one
range_does_not_cover_the_value_after_it : ¬ Covers (between 97 99) 100
range_does_not_cover_the_value_after_it h = omega (arith, h.1)

-- the range from c down to a covers nothing
reversed_range_covers_nothing : (c : ℕ) → ¬ Covers (between 99 97) c
reversed_range_covers_nothing c h = omega (arith, h.0, h.1)

-- a-c and x-z have `x`
covered_by_a_later_range : Covered (between 97 99 ∷ between 120 122 ∷ []) 120
covered_by_a_later_range = inr (inl (omega arith, omega arith))

-- and not `d`, which lies between them
not_covered_between_ranges : ¬ Covered (between 97 99 ∷ between 120 122 ∷ []) 100
not_covered_between_ranges (inl h) = omega (arith, h.1)
not_covered_between_ranges (inr (inl h)) = omega (arith, h.0)
not_covered_between_ranges (inr (inr h)) = h

-- an empty list of ranges covers no value
nothing_is_covered_by_no_ranges : (c : ℕ) → ¬ Covered [] c
nothing_is_covered_by_no_ranges c h = h
