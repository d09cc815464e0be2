-- cases: proofs/Cases/Size.antt
-- The size of a tree, which bounds the number of its automaton's states.
use Rattle.std.specs.Prelude.{ℕ, zero, suc, ◌+◌, ◌-◌, ◌*◌, length, Option, Some, None}
use Rattle.lalrpop_hir.specs.Tree.{Tree, empty, literal, class, look, repetition, capture, concat, alternation, Trees, none, also}

-- the states of n to m repetitions of a part that has z states
abbrev pub repeated_size : ℕ → Option ℕ → ℕ → ℕ
repeated_size n (Some m) z = m * z + (m - n)
repeated_size zero None z = z + 1
repeated_size (suc zero) None z = z + 1
repeated_size (suc (suc n)) None z = suc (suc n) * z + z + 1

-- an upper bound on the states of a tree's automaton, START, ACCEPT and REJECT not counted
abbrev mutual
  pub size : Tree → ℕ
  size empty = 0
  size (literal cs) = length cs
  size (class c) = 1
  size (look l) = 0
  size (repetition min max greedy t) = repeated_size min max (size t)
  size (capture name t) = size t
  size (concat ts) = sum_of_sizes ts
  size (alternation ts) = 1 + sum_of_sizes ts

  pub sum_of_sizes : Trees → ℕ
  sum_of_sizes none = 0
  sum_of_sizes (also t ts) = size t + sum_of_sizes ts
