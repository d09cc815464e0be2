-- Which tokens run on into which, as a table.
use Rattle.std.specs.Prelude.{◌≡◌, ℕ, ◌<◌, ◌↔◌, Bool, true, List, length, slice_get, Some}
use Rattle.lalrpop_hir.specs.Winners.{Matched}
use Rattle.lalrpop_dfa.specs.Follow.{RunsOn}
use Rattle.lalrpop_dense.specs.Neighbours.{WordsOf}
use Rattle.lalrpop_dense.specs.Rules.{Rules}

-- the marks of the trees whose tokens run on into those of the tree j
pub record AreRunningOn (rules : Rules) (j : ℕ) (marks : List Bool) : Type 0 where
  pub same_length : length marks ≡ length rules.trees
  pub each : (i : ℕ) → i < length rules.trees → (slice_get marks i ≡ Some true)
      ↔ RunsOn (Matched rules.trees) (WordsOf rules.trees rules.precedences i) (WordsOf rules.trees rules.precedences j)

-- one list of marks for each tree, up to the n-th
pub record IsTableUpTo (rules : Rules) (n : ℕ) (lists : List (List Bool)) : Type 0 where
  pub same_length : length lists ≡ n
  pub each : (j : ℕ) (marks : List Bool) → slice_get lists j ≡ Some marks → AreRunningOn rules j marks
