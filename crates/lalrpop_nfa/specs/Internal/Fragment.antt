-- The states and edges that compiling a tree towards a target state adds to an automaton.
use Rattle.std.specs.Prelude.{ℕ, zero, suc, ◌+◌, ◌-◌, List, [], ◌∷◌, ◌++◌, map, replicate, Option, Some, None}
use Rattle.lalrpop_hir.specs.Range.{Range}
use Rattle.lalrpop_hir.specs.Tree.{Class, unicode, bytes, Tree, empty, literal, class, look, repetition, capture, concat, alternation, Trees, none, also}
use Rattle.lalrpop_nfa.specs.Graph.{Graph, Lists}
use Rattle.lalrpop_nfa.specs.Path.{noop, test, other}
use Rattle.lalrpop_hir.specs.States.{accept_state, reject_state, start_state}
use Rattle.lalrpop_nfa.specs.declared.edge.StateKind.TheVariants.{Accept, Reject, Neither}

-- the number of states added, the state at which the tree begins, and the edges, which go to the ends of their lists
pub record Fragment : Type 0 where
  pub size : ℕ
  pub entry : ℕ
  pub edges : Lists

-- what is added towards a target, to this many states
abbrev pub Construction : Type 0
Construction = ℕ → ℕ → Fragment

abbrev pub no_edges : Lists
no_edges = record { noops = []; tests = []; others = [] }

-- edges that read nothing from a state to each of the others
abbrev pub noops_to : ℕ → List ℕ → Lists
noops_to s qs = record { noops = map (noop s) qs; tests = []; others = [] }

-- the edges of both, one list after another
abbrev pub joined : Lists → Lists → Lists
joined e f = record { noops = e.noops ++ f.noops; tests = e.tests ++ f.tests; others = e.others ++ f.others }

-- no states: the entry is the target
abbrev pub nothing : Construction
nothing target n = record { size = 0; entry = target; edges = no_edges }

-- the second towards the target, then the first towards the second's entry
abbrev pub before : Construction → Construction → Construction
before x y target n =
    let b = y target n in
    let a = x b.entry (n + b.size) in
    record { size = b.size + a.size; entry = a.entry; edges = joined b.edges a.edges }

-- one state, from which each range leads to the target and any other value to REJECT
abbrev pub one_of : List Range → Construction
one_of rs target n =
    record { size = 1; entry = n; edges = record { noops = []; tests = map (λ r. test n r target) rs; others = other n reject_state ∷ [] } }

-- one state, from which one character leads to the target
abbrev pub character_expr : ℕ → Construction
character_expr c = one_of (record { start = c; end = c } ∷ [])

-- a state for each character
abbrev pub literal_expr : List ℕ → Construction
literal_expr [] = nothing
literal_expr (c ∷ cs) = before (character_expr c) (literal_expr cs)

-- k copies, each towards the next
abbrev pub copies : Construction → ℕ → Construction
copies x zero = nothing
copies x (suc k) = before x (copies x k)

-- an optional part: the part, then one state with edges that read nothing to the target and to the entry
abbrev pub optional_expr : Construction → Construction
optional_expr x target n =
    let a = x target n in
    record { size = a.size + 1; entry = n + a.size; edges = joined a.edges (noops_to (n + a.size) (target ∷ a.entry ∷ [])) }

-- k optional copies, each towards the next
abbrev pub optional_copies : Construction → ℕ → Construction
optional_copies x zero = nothing
optional_copies x (suc k) = before (optional_expr x) (optional_copies x k)

-- any number of repetitions: one state with edges that read nothing to the target and to a copy that leads back to the state
abbrev pub star_expr : Construction → Construction
star_expr x target n =
    let a = x n (n + 1) in
    record { size = a.size + 1; entry = n; edges = joined a.edges (noops_to n (target ∷ a.entry ∷ [])) }

-- the same, beginning with the copy
abbrev pub plus_expr : Construction → Construction
plus_expr x target n =
    let a = x n (n + 1) in
    record { size = a.size + 1; entry = a.entry; edges = joined a.edges (noops_to n (target ∷ a.entry ∷ [])) }

-- from min to max repetitions, or any number from min on
abbrev pub repeat_expr : Construction → ℕ → Option ℕ → Construction
repeat_expr x min (Some max) = before (copies x min) (optional_copies x (max - min))
repeat_expr x zero None = star_expr x
repeat_expr x (suc zero) None = plus_expr x
repeat_expr x (suc (suc k)) None = before (copies x (suc (suc k))) (star_expr x)

-- branches: the number of their states, where each begins, and their edges
pub record Branches : Type 0 where
  pub size : ℕ
  pub entries : List ℕ
  pub edges : Lists

-- one state with an edge that reads nothing to the entry of each branch
abbrev pub alternation_expr : (ℕ → ℕ → Branches) → Construction
alternation_expr bs target n =
    let b = bs target (n + 1) in
    record { size = b.size + 1; entry = n; edges = joined b.edges (noops_to n b.entries) }

abbrev pub class_construction : Class → Construction
class_construction (unicode rs) = one_of rs
class_construction (bytes rs) = one_of rs

abbrev mutual
  pub fragment_of : Tree → Construction
  fragment_of empty = nothing
  fragment_of (literal cs) = literal_expr cs
  fragment_of (class a) = class_construction a
  fragment_of (look l) = nothing
  fragment_of (repetition min max greedy t) = repeat_expr (fragment_of t) min max
  fragment_of (capture name t) = fragment_of t
  fragment_of (concat ts) = concat_expr ts
  fragment_of (alternation ts) = alternation_expr (branches ts)

  -- one tree after another
  pub concat_expr : Trees → Construction
  concat_expr none = nothing
  concat_expr (also t ts) = before (fragment_of t) (concat_expr ts)

  -- each tree towards the target
  pub branches : Trees → ℕ → ℕ → Branches
  branches none target n = record { size = 0; entries = []; edges = no_edges }
  branches (also t ts) target n =
      let a = fragment_of t target n in
      let b = branches ts target (n + a.size) in
      record { size = a.size + b.size; entries = a.entry ∷ b.entries; edges = joined a.edges b.edges }

-- the automaton before a tree is compiled: ACCEPT, REJECT and START, with the edges of the first two
abbrev pub fresh_graph : Graph
fresh_graph = record {
  kinds = Accept ∷ Reject ∷ Neither ∷ [];
  edges = record { noops = []; tests = []; others = other accept_state reject_state ∷ other reject_state reject_state ∷ [] };
}

-- the automaton with the states and edges of the fragment
abbrev pub extended : Graph → Fragment → Graph
extended g s = record { kinds = g.kinds ++ replicate s.size Neither; edges = joined g.edges s.edges }

-- the automaton of a tree
abbrev pub compiled : Tree → Graph
compiled t =
    let s = fragment_of t accept_state 3 in
    let g = extended fresh_graph s in
    record g { edges = joined g.edges (noops_to start_state (s.entry ∷ [])) }
