-- cases: proofs/Cases/Items.antt of lalrpop_build
-- The automata of some trees.
use Rattle.std.specs.Prelude.{◌≡◌, ℕ, List, length, slice_get, Some}
use Rattle.lalrpop_hir.specs.Tree.{Tree}
use Rattle.lalrpop_nfa.specs.Graph.{Graph}
use Rattle.lalrpop_nfa.specs.Compiled.{IsCompiled}

-- the automata are those of the trees, one for each
pub record AreCompiled (ts : List Tree) (ns : List Graph) : Type 0 where
  pub same_length : length ns ≡ length ts
  pub each : (i : ℕ) (t : Tree) (g : Graph) → slice_get ts i ≡ Some t → slice_get ns i ≡ Some g → IsCompiled t g
