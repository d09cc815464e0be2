-- Cases of specs/Ascending.antt.
use Rattle.std.proofs.Common.{◌≡◌, ◌≤◌, [], ◌∷◌, refl, arith}
use Rattle.std.specs.List.{Contains}
use Rattle.std.specs.List.Sorted.{IsStrictlySortedBy}
use Rattle.std.specs.declared.cmp.Ordering.TheVariants.{Less, Equal, Greater}
use Rattle.lalrpop_dfa.specs.Ascending.{Item, item_cmp, AreAscendingItems, AreByPattern}

-- the pattern decides, and the state if the patterns are equal
first_pattern_is_less : (item_cmp (0, 3) (1, 0) ≡ Less) × (item_cmp (1, 0) (0, 3) ≡ Greater)
first_pattern_is_less = (refl, refl)

first_state_is_less : (item_cmp (1, 2) (1, 3) ≡ Less) × (item_cmp (1, 3) (1, 2) ≡ Greater)
    × (item_cmp (1, 2) (1, 2) ≡ Equal)
first_state_is_less = (refl, refl, refl)

items_that_ascend : AreAscendingItems ((0, 1) ∷ (0, 3) ∷ (1, 0) ∷ [])
unfolding IsStrictlySortedBy
items_that_ascend = ((refl, (refl, tt)), ((refl, tt), (tt, tt)))

items_by_state_do_not_ascend : ¬ AreAscendingItems ((1, 0) ∷ (0, 3) ∷ [])
unfolding IsStrictlySortedBy
items_by_state_do_not_ascend h = let e = h.0.0 in absurd (cc)

item_that_stands_twice : ¬ AreAscendingItems ((0, 3) ∷ (0, 3) ∷ [])
unfolding IsStrictlySortedBy
item_that_stands_twice h = let e = h.0.0 in absurd (cc)

-- the states of one pattern may be in any order
items_by_pattern : AreByPattern ((0, 3) ∷ (0, 1) ∷ (1, 0) ∷ [])
items_by_pattern = ((λ y h. omega arith), ((λ y h. omega arith), (none_after, tt)))
  where
    none_after : (y : Item) → Contains [] y → 1 ≤ y.0
    none_after y h = absurd (omega (arith, h.1))

patterns_turned : ¬ AreByPattern ((1, 0) ∷ (0, 3) ∷ [])
patterns_turned h = omega (arith, h.0 (0, 3) (0, omega arith, refl))
