-- cases: proofs/Cases/Ascending.antt
-- Items, their order, and lists that keep it.
use Rattle.std.specs.Prelude.{ℕ, List, ◌≤◌, [], ◌∷◌}
use Rattle.std.specs.Ordering.{nat_cmp, ordering_then}
use Rattle.std.specs.List.Sorted.{IsStrictlySortedBy}
use Rattle.std.specs.declared.cmp.Ordering.{Ordering}
use Rattle.std.specs.List.{Contains}

-- the index of an automaton in a list, and a state of that automaton
abbrev pub Item : Type 0
Item = ℕ × ℕ

-- first by the automaton, then by the state
abbrev pub item_cmp : Item → Item → Ordering
item_cmp x y = ordering_then (nat_cmp x.0 y.0) (nat_cmp x.1 y.1)

-- each item is before all later items of the list
abbrev pub AreAscendingItems : List Item → Type 0
AreAscendingItems s = IsStrictlySortedBy item_cmp s

-- the items are in the order of their patterns
abbrev pub AreByPattern : List Item → Type 0
AreByPattern [] = Unit {0}
AreByPattern (x ∷ items) = ((y : Item) → Contains items y → x.0 ≤ y.0) × AreByPattern items
