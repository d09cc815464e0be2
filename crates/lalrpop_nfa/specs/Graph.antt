-- The automaton of one pattern, as contracts see it.
use Rattle.std.specs.Prelude.{List}
use Rattle.lalrpop_hir.specs.Range.{Range}
use Rattle.lalrpop_nfa.specs.declared.edge.Edge.{Edge}
use Rattle.lalrpop_nfa.specs.declared.edge.Noop.{Noop}
use Rattle.lalrpop_nfa.specs.declared.edge.Other.{Other}
use Rattle.lalrpop_nfa.specs.declared.edge.StateKind.{StateKind}

-- the edges, by the kind of their labels
pub record Lists : Type 0 where
  pub noops : List (Edge Noop)
  pub tests : List (Edge Range)
  pub others : List (Edge Other)

-- the kind of each state, and the edges
pub record Graph : Type 0 where
  pub kinds : List StateKind
  pub edges : Lists
