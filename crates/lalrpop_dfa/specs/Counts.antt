-- cases: proofs/Cases/Counts.antt
-- How many states an automaton of a list of trees can have, and how many test edges a state of an automaton has.
use Rattle.std.specs.Prelude.{◌≡◌, ℕ, ◌+◌, ◌^◌, ◌≤◌, List, length, slice_get, Some, sum_by}
use Rattle.lalrpop_hir.specs.Tree.{Tree}
use Rattle.lalrpop_hir.specs.Size.{size}
use Rattle.lalrpop_dfa.specs.Dfa.{Row}

-- each tree's own automaton has at most three states more than the tree's size, and each state of the list's automaton
-- holds a different set of all these states
abbrev pub state_bound : List Tree → ℕ
state_bound ts = 2 ^ sum_by (λ t. 3 + size t) ts

-- no state has more than n test edges
abbrev pub HaveAtMost : List Row → ℕ → Type 0
HaveAtMost d n = (p : ℕ) (r : Row) → slice_get d p ≡ Some r → length r.tests ≤ n
