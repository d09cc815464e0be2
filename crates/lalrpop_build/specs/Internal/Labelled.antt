-- Automata with the alphabet of their labels.
use Rattle.std.specs.Prelude.{List}
use Rattle.lalrpop_nfa.specs.Graph.{Graph}
use Rattle.lalrpop_build.specs.Internal.Alphabet.{Classes}

-- some automata, and the classes of what their labels read
pub record Labelled : Type 0 where
  pub graphs : List Graph
  pub alphabet : Classes
