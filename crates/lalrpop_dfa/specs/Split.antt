-- A set of items as its live items, which are not REJECT states, and its live patterns, which have no REJECT item.
use Rattle.std.specs.Prelude.{◌≡◌, ◌↔◌, ◌≢◌, ℕ, zero, suc, ◌<◌, not, ◌==◌, ◌&&◌, cond, List, [], ◌∷◌, ◌++◌, slice_get, Some}
use Rattle.std.specs.List.{Contains, filter, list_any}
use Rattle.std.specs.List.Sorted.{IsStrictlySortedBy}
use Rattle.std.specs.Ordering.{nat_cmp}
use Rattle.std.specs.declared.cmp.Ordering.TheVariants.{Less}
use Rattle.lalrpop_hir.specs.States.{accept_state, reject_state}
use Rattle.lalrpop_dfa.specs.Ascending.{Item, item_cmp, AreAscendingItems}
use Rattle.lalrpop_dfa.specs.ItemOrder.{hash_of}

-- the REJECT item of pattern i, unless the pattern is live
abbrev pub reject_of : List ℕ → ℕ → List Item
reject_of live_patterns i = cond (list_any (λ j. j == i) live_patterns) [] ((i, reject_state) ∷ [])

-- the items of pattern i: ACCEPT is state 0, and REJECT is state 1
abbrev pub items_of : List ℕ → List Item → ℕ → List Item
items_of live_patterns live i =
    filter (λ x. (x.0 == i) && (x.1 == accept_state)) live ++ (reject_of live_patterns i ++ filter (λ x. (x.0 == i) && not (x.1 == accept_state)) live)

-- the items of n patterns: the live ones, and the REJECT item of each pattern that isn't live
unfoldable pub full : ℕ → List ℕ → List Item → List Item
full zero live_patterns live = []
full (suc n) live_patterns live = full n live_patterns live ++ items_of live_patterns live n

-- the patterns that stay live: the items have no REJECT item of theirs
abbrev pub still_live : List Item → List ℕ → List ℕ
still_live items live_patterns = filter (λ i. not (list_any (λ x. (x.0 == i) && (x.1 == reject_state)) items)) live_patterns

-- the items at the places before this one are before x
abbrev pub AreBefore : List Item → ℕ → Item → Type 0
AreBefore items place x = (k : ℕ) (y : Item) → k < place → slice_get items k ≡ Some y → item_cmp y x ≡ Less

-- the items are of the first n patterns
abbrev pub AreWithin : ℕ → List Item → Type 0
AreWithin n items = (x : Item) → Contains items x → x.0 < n

-- the numbers ascend and are of the first n patterns
pub record AreLivePatterns (n : ℕ) (live_patterns : List ℕ) : Type 0 where
  pub rising : IsStrictlySortedBy nat_cmp live_patterns
  pub within : (i : ℕ) → Contains live_patterns i → i < n

-- the live items of n patterns, and the live patterns
pub record IsSplit (n : ℕ) (live_patterns : List ℕ) (live : List Item) : Type 0 where
  pub ascending : AreAscendingItems live
  pub alive : (x : Item) → Contains live x → x.1 ≢ reject_state
  pub within : AreWithin n live
  pub rising : AreLivePatterns n live_patterns

-- these live items and live patterns, and the hash of the live items
pub record IsHashed (n : ℕ) (live_patterns : List ℕ) (live : List Item) (hash : ℕ) : Type 0 where
  pub split : IsSplit n live_patterns live
  pub hashed : hash ≡ hash_of live

-- the two lists have the same numbers below n
abbrev pub AreAlikeBelow : ℕ → List ℕ → List ℕ → Type 0
AreAlikeBelow n left right = (j : ℕ) → j < n → Contains left j ↔ Contains right j
