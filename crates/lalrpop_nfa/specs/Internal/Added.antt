-- The graph with one more state, or with more edges.
use Rattle.std.specs.Prelude.{ℕ, List, ◌++◌, ◌∷◌, [], map}
use Rattle.lalrpop_hir.specs.Range.{Range}
use Rattle.lalrpop_nfa.specs.Graph.{Graph, Lists}
use Rattle.lalrpop_nfa.specs.Path.{noop, test}
use Rattle.lalrpop_nfa.specs.declared.edge.StateKind.{StateKind}

-- the graph with these edges in its list
abbrev pub with_edges : Graph → Lists → Graph
with_edges g e = record g { edges = e }

-- the graph with one more state
abbrev pub with_kind : Graph → StateKind → Graph
with_kind g kind = record g { kinds = g.kinds ++ kind ∷ [] }

-- the graph with one more edge from the state to each of the others, which reads nothing
abbrev pub with_noops : Graph → ℕ → List ℕ → Graph
with_noops g s qs = with_edges g (record g.edges { noops = g.edges.noops ++ map (noop s) qs })

-- the graph with one more edge from the state to the target for each range
abbrev pub with_tests : Graph → ℕ → List Range → ℕ → Graph
with_tests g s rs target = with_edges g (record g.edges { tests = g.edges.tests ++ map (λ r. test s r target) rs })
