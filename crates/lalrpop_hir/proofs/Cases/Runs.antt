-- Cases of specs/Runs.antt.
use Rattle.std.proofs.Common.{◌≡◌, ℕ, ◌<◌, ◌≤◌, ◌⊎◌, inl, inr, List, [], ◌∷◌, refl, arith}
use Rattle.std.proofs.lemmas.Bool.{cases_lt}
use Rattle.lalrpop_hir.specs.Range.{Range, Covered}
use Rattle.lalrpop_hir.specs.Runs.{InEither, InBoth, InFirstAlone, InJustOne, IsScalar, IsByte, next_scalar, next_byte, AreApart, HaveEndsIn, IsCanonical, IsCanon, AreByteRuns, IsByteCanon}

-- the range from the first value to the second
abbrev between : ℕ → ℕ → Range
between s e = record { start = s; end = e }

-- a-c and b-d
abbrev low : List Range
low = between 97 99 ∷ []

abbrev high : List Range
high = between 98 100 ∷ []

-- `d` is in one of them, `b` in both, `a` in the first alone, and both `a` and `d` in just one
values_of_two_lists : InEither low high 100 × InBoth low high 98 × InFirstAlone low high 97 × InJustOne low high 97 × InJustOne low high 100
values_of_two_lists = (
  inr (inl (omega arith, omega arith)),
  (inl (omega arith, omega arith), inl (omega arith, omega arith)),
  (inl (omega arith, omega arith), below),
  inl (inl (omega arith, omega arith), below),
  inr (inl (omega arith, omega arith), above),
)
  where
    below : ¬ Covered high 97
    below (inl h) = omega (arith, h.0)
    below (inr h) = h

    above : ¬ Covered low 100
    above (inl h) = omega (arith, h.1)
    above (inr h) = h

-- `e` is in neither, `a` not in both, `b` not in the first alone, nor `c` in just one
values_outside_of_two_lists : (¬ InEither low high 101) × (¬ InBoth low high 97) × (¬ InFirstAlone low high 98) × (¬ InJustOne low high 99)
values_outside_of_two_lists = (in_either, in_both, λ h. h.1 (inl (omega arith, omega arith)), in_just_one)
  where
    in_either : ¬ InEither low high 101
    in_either (inl (inl h)) = omega (arith, h.1)
    in_either (inl (inr h)) = h
    in_either (inr (inl h)) = omega (arith, h.1)
    in_either (inr (inr h)) = h

    in_both : ¬ InBoth low high 97
    in_both (a, inl h) = omega (arith, h.0)
    in_both (a, inr h) = h

    in_just_one : ¬ InJustOne low high 99
    in_just_one (inl h) = h.1 (inl (omega arith, omega arith))
    in_just_one (inr h) = h.1 (inl (omega arith, omega arith))

-- the values beside the surrogates are scalar values
neighbours_of_surrogates_are_scalar : IsScalar 0xD7FF × IsScalar 0xE000
neighbours_of_surrogates_are_scalar = (inl (omega arith), inr (omega arith, omega arith))

-- the first and the last surrogate aren't
surrogates_are_not_scalar : (¬ IsScalar 0xD800) × (¬ IsScalar 0xDFFF)
surrogates_are_not_scalar = (first, last)
  where
    first : ¬ IsScalar 0xD800
    first (inl h) = omega arith
    first (inr h) = omega (arith, h.0)

    last : ¬ IsScalar 0xDFFF
    last (inl h) = omega arith
    last (inr h) = omega (arith, h.0)

-- U+10FFFF is the last scalar value
last_scalar_value : IsScalar 0x10FFFF
last_scalar_value = inr (omega arith, omega arith)

nothing_beyond_is_scalar : ¬ IsScalar 0x110000
nothing_beyond_is_scalar (inl h) = omega arith
nothing_beyond_is_scalar (inr h) = omega (arith, h.1)

-- 255 is the value of a byte, 256 isn't
greatest_byte : IsByte 255 × (¬ IsByte 256)
greatest_byte = (omega arith, λ h. omega arith)

-- what comes after `a`, and after the value before the surrogates
next_scalar_passes_over_surrogates : (next_scalar 97 ≡ 98) × (next_scalar 0xD7FF ≡ 0xE000)
next_scalar_passes_over_surrogates = (refl, refl)

next_byte_is_one_more : next_byte 127 ≡ 128
next_byte_is_one_more = refl

-- a-c and e-g leave out `d`
ranges_with_a_gap_are_apart : AreApart next_byte (between 97 99 ∷ between 101 103 ∷ [])
ranges_with_a_gap_are_apart = (omega arith, omega arith, omega arith)

-- a-c and d-g leave out nothing
neighbours_are_not_apart : ¬ AreApart next_byte (between 97 99 ∷ between 100 103 ∷ [])
neighbours_are_not_apart h = omega (arith, h.1)

-- e-g before a-c descends
descending_ranges_are_not_apart : ¬ AreApart next_byte (between 101 103 ∷ between 97 99 ∷ [])
descending_ranges_are_not_apart h = omega (arith, h.1)

-- a range without a value isn't in the list
empty_ranges_are_not_apart : ¬ AreApart next_byte (between 99 97 ∷ [])
empty_ranges_are_not_apart h = omega arith

-- U+D7FF and U+E000 are neighbours as scalar values, and not as numbers
neighbours_across_the_surrogates : AreApart next_byte (between 97 0xD7FF ∷ between 0xE000 0xFFFF ∷ [])
    × (¬ AreApart next_scalar (between 97 0xD7FF ∷ between 0xE000 0xFFFF ∷ []))
neighbours_across_the_surrogates = (
  (omega arith, omega arith, omega arith),
  λ h. let gap : 0xE000 < 0xE000 = h.1 in omega (arith, gap),
)

-- both ends of each range have to be in the set
ends_are_bytes : HaveEndsIn IsByte (between 0 9 ∷ between 97 255 ∷ [])
ends_are_bytes = (omega arith, omega arith, (omega arith, omega arith, tt))

end_is_no_byte : ¬ HaveEndsIn IsByte (between 0 9 ∷ between 97 256 ∷ [])
end_is_no_byte h = omega (arith, h.2.1)

-- a range may reach from below the surrogates to above them
range_over_the_surrogates_is_canonical : IsCanonical (between 0 0x10FFFF ∷ [])
range_over_the_surrogates_is_canonical = (omega arith, (inl (omega arith), inr (omega arith, omega arith), tt))

-- and doesn't end inside them
range_that_ends_at_a_surrogate_is_not_canonical : ¬ IsCanonical (between 0 0xD800 ∷ [])
range_that_ends_at_a_surrogate_is_not_canonical h = surrogates_are_not_scalar.0 h.1.1

-- from U+E000 on, and up to U+D7FF
abbrev halves : List Range
halves = between 0xE000 0x10FFFF ∷ between 0 0xD7FF ∷ []

-- the runs of all scalar values are one run
all_scalar_values_are_one_run : IsCanon (Covered halves) (between 0 0x10FFFF ∷ [])
all_scalar_values_are_one_run = ((omega arith, (inl (omega arith), inr (omega arith, omega arith), tt)), λ c s. (to_whole c s, to_halves c s))
  where
    to_whole : (c : ℕ) → IsScalar c → Covered halves c → Covered (between 0 0x10FFFF ∷ []) c
    to_whole c s (inl h) = inl (omega arith, omega (arith, h.1))
    to_whole c s (inr (inl h)) = inl (omega arith, omega (arith, h.1))
    to_whole c s (inr (inr h)) = absurd h

    to_halves : (c : ℕ) → IsScalar c → Covered (between 0 0x10FFFF ∷ []) c → Covered halves c
    to_halves c (inl l) h = inr (inl (omega arith, l))
    to_halves c (inr l) h = inl l

-- and not two
all_scalar_values_are_not_two_runs : ¬ IsCanon (Covered halves) (between 0 0xD7FF ∷ between 0xE000 0x10FFFF ∷ [])
all_scalar_values_are_not_two_runs h = let gap : next_scalar 0xD7FF < 0xE000 = h.0.0.1 in omega (arith, gap)

-- a-y is too little for a-z
runs_leave_nothing_out : ¬ IsCanon (Covered (between 97 122 ∷ [])) (between 97 121 ∷ [])
runs_leave_nothing_out h = by_case ((h.1 122 (inl (omega arith))).0 (inl (omega arith, omega arith)))
  where
    by_case : Covered (between 97 121 ∷ []) 122 → ⊥
    by_case (inl c) = omega (arith, c.1)
    by_case (inr c) = c

-- and a-z too much for a-y
runs_add_nothing : ¬ IsCanon (Covered (between 97 121 ∷ [])) (between 97 122 ∷ [])
runs_add_nothing h = by_case ((h.1 122 (inl (omega arith))).1 (inl (omega arith, omega arith)))
  where
    by_case : Covered (between 97 121 ∷ []) 122 → ⊥
    by_case (inl c) = omega (arith, c.1)
    by_case (inr c) = c

-- a class over bytes has all bytes, and nothing above
class_of_all_bytes : AreByteRuns (between 0 255 ∷ []) × (¬ AreByteRuns (between 0 256 ∷ []))
class_of_all_bytes = ((omega arith, (omega arith, omega arith, tt)), λ h. omega (arith, h.1.1))

-- the runs of c-d and a-b are a-d
byte_runs_are_joined : IsByteCanon (Covered (between 99 100 ∷ between 97 98 ∷ [])) (between 97 100 ∷ [])
byte_runs_are_joined = ((omega arith, (omega arith, omega arith, tt)), λ c b. (to_whole c, to_halves c (cases c)))
  where
    to_whole : (c : ℕ) → Covered (between 99 100 ∷ between 97 98 ∷ []) c → Covered (between 97 100 ∷ []) c
    to_whole c (inl h) = inl (omega (arith, h.0), h.1)
    to_whole c (inr (inl h)) = inl (h.0, omega (arith, h.1))
    to_whole c (inr (inr h)) = absurd h

    cases : (c : ℕ) → (c < 99) ⊎ (99 ≤ c)
    cases c = cases_lt c 99

    to_halves : (c : ℕ) → (c < 99) ⊎ (99 ≤ c) → Covered (between 97 100 ∷ []) c → Covered (between 99 100 ∷ between 97 98 ∷ []) c
    to_halves c (inl l) (inl h) = inr (inl (h.0, omega (arith, h.1)))
    to_halves c (inr l) (inl h) = inl (l, h.1)
    to_halves c o (inr h) = absurd h

-- and not a-b and c-d
byte_runs_are_not_apart : ¬ IsByteCanon (Covered (between 99 100 ∷ between 97 98 ∷ [])) (between 97 98 ∷ between 99 100 ∷ [])
byte_runs_are_not_apart h = omega (arith, h.0.0.1)
