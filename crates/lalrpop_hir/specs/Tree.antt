-- A pattern as a tree.
use Rattle.std.specs.Prelude.{ℕ, List, Bool, Option}
use Rattle.lalrpop_hir.specs.Range.{Range}
use Rattle.lalrpop_hir.specs.declared.look.Look.{Look}

pub data Class : Type 0 where
  unicode : List Range → Class
  bytes : List Range → Class

mutual
  pub data Tree : Type 0 where
    empty : Tree
    -- the characters
    literal : List ℕ → Tree
    class : Class → Tree
    look : Look → Tree
    -- least and greatest number of repetitions, whether it is greedy, and what is repeated
    repetition : ℕ → Option ℕ → Bool → Tree → Tree
    -- the bytes of its name, if it has one, and what is captured
    capture : Option (List ℕ) → Tree → Tree
    concat : Trees → Tree
    alternation : Trees → Tree

  -- a list of trees
  pub data Trees : Type 0 where
    none : Trees
    also : Tree → Trees → Trees
