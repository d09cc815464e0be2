-- The targets of items by the test edges that are taken.
use Rattle.std.specs.Prelude.{◌≡◌, ◌≢◌, ℕ, ◌<◌, ◌≤◌, ◌⊎◌, ◌↔◌, List, length, map, slice_get, Some}
use Rattle.std.specs.List.{Contains}
use Rattle.lalrpop_nfa.specs.Graph.{Graph}
use Rattle.lalrpop_dfa.specs.Ascending.{Item}
use Rattle.lalrpop_build.specs.Internal.Subsets.{graph_at, default_targets, or_instead, targets}
use Rattle.lalrpop_build.specs.declared.transitions.Transition.{Transition}

-- from a place up to an end, and not at the end, the edges are those of the item x
pub record IsRunOf (leads : List Transition) (x : Item) (from end : ℕ) : Type 0 where
  pub behind : from ≤ end
  pub within : end ≤ length leads
  pub same : (k : ℕ) (l : Transition) → from ≤ k → k < end → slice_get leads k ≡ Some l → l.item ≡ x
  pub next : (l : Transition) → slice_get leads end ≡ Some l → l.item ≢ x

-- the items that x leads to, if these are its test edges that are taken
unfoldable pub targets_of_run : List Graph → Item → List Transition → List Item
targets_of_run ns x run = map (λ q. (x.0, q)) (or_instead (map (λ l. l.to) run) (default_targets (graph_at ns x.0) x.1))

-- x leads to z by one of the test edges that are taken, or if none of them leaves x, by an other edge
abbrev pub IsTargetBy : List Graph → List Transition → Item → Item → Type 0
IsTargetBy ns leads x z = (z.0 ≡ x.0)
    × (Contains leads (record { item = x; to = z.1 })
    ⊎ (((q : ℕ) → Contains leads (record { item = x; to = q }) → ⊥) × Contains (default_targets (graph_at ns x.0) x.1) z.1))

-- the targets of some items, whose taken test edges are these
abbrev pub AreTargetsBy : List Graph → List Item → List Transition → List Item → Type 0
AreTargetsBy ns s leads targets = (z : Item) → Contains targets z ↔ ((x : Item) × (Contains s x × IsTargetBy ns leads x z))
