-- cases: proofs/Cases/Depth.antt
-- The depth of a tree, which decreases in a walk over trees.
use Rattle.std.specs.Prelude.{ℕ, ◌+◌, max}
use Rattle.lalrpop_hir.specs.Tree.{Tree, empty, literal, class, look, repetition, capture, concat, alternation, Trees, none, also}

-- the depth of a tree, and the greatest depth in a list
abbrev mutual
  pub depth : Tree → ℕ
  depth empty = 0
  depth (literal cs) = 0
  depth (class c) = 0
  depth (look l) = 0
  depth (repetition min max greedy t) = depth t + 2
  depth (capture name t) = depth t + 2
  depth (concat ts) = greatest_depth ts + 2
  depth (alternation ts) = greatest_depth ts + 2

  pub greatest_depth : Trees → ℕ
  greatest_depth none = 0
  greatest_depth (also t ts) = max (depth t) (greatest_depth ts)
