-- Items inserted into a worklist: each once, in the list of observed items and in the list of pending ones.
use Rattle.std.specs.Prelude.{◌≡◌, ℕ, suc, ◌+◌, ◌≤◌, ◌⊎◌, Bool, false, cond, List, [], ◌∷◌, length, map, slice_index_or}
use Rattle.std.specs.List.{Contains, filter}
use Rattle.lalrpop_nfa.specs.Graph.{Graph}
use Rattle.lalrpop_dfa.specs.Ascending.{Item, AreAscendingItems}
use Rattle.lalrpop_build.specs.Internal.Subsets.{graph_at}
use Rattle.lalrpop_nfa.specs.Walk.{leaves}

-- after the item is added, the observed items have become observed2; they are one more if it is new
pub record IsAdded (observed : List Item) (item : Item) (is_new : Bool) (observed2 : List Item) : Type 0 where
  pub ordered : AreAscendingItems observed2
  pub kept : (x : Item) → Contains observed x → Contains observed2 x
  pub added : Contains observed2 item
  pub come : (x : Item) → Contains observed2 x → Contains observed x ⊎ (item ≡ x)
  pub there : is_new ≡ false → Contains observed item
  pub len : length observed2 ≡ length observed + cond is_new 1 0

-- after the items are inserted, observed and pending have become observed2 and pending2
pub record IsInserted (observed pending items observed2 pending2 : List Item) : Type 0 where
  pub ordered : AreAscendingItems observed → AreAscendingItems observed2
  pub kept : (x : Item) → Contains observed x → Contains observed2 x
  pub inserted : (x : Item) → Contains items x → Contains observed2 x
  pub come : (x : Item) → Contains observed2 x → Contains observed x ⊎ (Contains items x × Contains pending2 x)
  pub pending_kept : (x : Item) → Contains pending x → Contains pending2 x
  pub pending_come : (x : Item) → Contains pending2 x → Contains pending x ⊎ Contains items x
  pub more : length observed ≤ length observed2
  pub even : length pending2 + length observed ≡ length pending + length observed2

-- the items that x leads to by one edge that reads nothing
unfoldable pub epsilon_targets : List Graph → Item → List Item
epsilon_targets ns x = map (λ e. (x.0, e.to)) (filter (leaves x.1) (graph_at ns x.0).edges.noops)

-- the items of pattern i whose states have a mark, if the first mark is for state q
abbrev pub marked_from : ℕ → ℕ → List Bool → List Item
marked_from i q [] = []
marked_from i q (b ∷ marks) = cond b ((i, q) ∷ marked_from i (suc q) marks) (marked_from i (suc q) marks)

-- the items of pattern i whose states have a mark
unfoldable pub marked : ℕ → List Bool → List Item
marked i marks = marked_from i 0 marks

-- all items are of pattern i
abbrev pub AreOfPattern : ℕ → List Item → Type 0
AreOfPattern i items = (x : Item) → Contains items x → x.0 ≡ i

-- the pattern of the item at a place
abbrev pub pattern_at : List Item → ℕ → ℕ
pattern_at items k = (slice_index_or items k (0, 0)).0
