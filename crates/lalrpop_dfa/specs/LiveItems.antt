-- cases: proofs/Cases/LiveItems.antt
-- The live items of a set, and the patterns that have failed in it.
use Rattle.std.specs.Prelude.{ℕ, Bool, not, ◌==◌, List, map}
use Rattle.std.specs.List.{filter}
use Rattle.lalrpop_hir.specs.States.{reject_state}
use Rattle.lalrpop_dfa.specs.Ascending.{Item}

-- the item is not a REJECT state
abbrev pub is_live : Item → Bool
is_live x = not (x.1 == reject_state)

-- the items that are not REJECT states
abbrev pub live_of : List Item → List Item
live_of s = filter is_live s

-- the patterns that have a REJECT item
abbrev pub rejects_of : List Item → List ℕ
rejects_of s = map (λ x. x.0) (filter (λ x. x.1 == reject_state) s)
