-- cases: proofs/Cases/ItemOrder.antt
-- Equality of items, the hash of a list of items, and the order of sets of items.
use Rattle.std.specs.Prelude.{ℕ, ◌+◌, ◌*◌, ◌%◌, ◌^◌, Bool, ◌&&◌, ◌==◌, List}
use Rattle.std.specs.List.{fold}
use Rattle.std.specs.Cmp.Lexicographic.{slice_cmp}
use Rattle.std.specs.Ordering.{nat_cmp, ordering_then, is_eq}
use Rattle.std.specs.declared.cmp.Ordering.{Ordering}
use Rattle.lalrpop_dfa.specs.Ascending.{Item, item_cmp}
use Rattle.lalrpop_dfa.specs.LiveItems.{live_of, rejects_of}

abbrev pub item_eq : Item → Item → Bool
item_eq x y = (x.0 == y.0) && (x.1 == y.1)

-- the set with the first REJECT item that isn't in both is the greater
abbrev pub rejects_cmp : List Item → List Item → Ordering
rejects_cmp s t = slice_cmp (λ i j. nat_cmp j i) (rejects_of s) (rejects_of t)

-- a number of 64 bits for an item, from its pattern and its state
abbrev pub item_hash : Item → ℕ
item_hash x = ((x.0 * 1442695040888963407) % 2 ^ 64 + x.1) % 2 ^ 64

-- the hash of a list, from the hash of the items before the last one
abbrev pub next_hash : ℕ → Item → ℕ
next_hash hash x = ((hash * 6364136223846793005) % 2 ^ 64 + item_hash x) % 2 ^ 64

-- a number of 64 bits computed from a list item by item, such that few lists share one
unfoldable pub hash_of : List Item → ℕ
hash_of items = fold next_hash 0 items

-- first by the live items, then by the patterns that have a REJECT item. Ascending sets that tie in both are equal
abbrev pub items_cmp : List Item → List Item → Ordering
items_cmp s t = ordering_then (ordering_then (slice_cmp item_cmp (live_of s) (live_of t)) (rejects_cmp s t)) (slice_cmp item_cmp s t)

-- first by the hashes of the live items, which differ for most sets, then by the items
abbrev pub set_cmp : List Item → List Item → Ordering
set_cmp s t = ordering_then (nat_cmp (hash_of (live_of s)) (hash_of (live_of t))) (items_cmp s t)

abbrev pub set_eq : List Item → List Item → Bool
set_eq s t = is_eq (set_cmp s t)
