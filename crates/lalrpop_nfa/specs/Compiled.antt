-- cases: proofs/Cases/Compiled.antt
-- What a compiled pattern is: an automaton that reads exactly the words of its tree.
use Rattle.std.specs.Prelude.{◌≡◌, ◌≢◌, ℕ, ◌+◌, ◌<◌, ◌≤◌, ◌⊎◌, ◌↔◌, List, [], ◌∷◌, length, slice_get, Some}
use Rattle.std.specs.List.{Contains, filter}
use Rattle.lalrpop_hir.specs.Range.{Range}
use Rattle.lalrpop_hir.specs.Tree.{Tree, Class, unicode, bytes, empty, literal, class, look, repetition, capture, concat, alternation, Trees, none, also}
use Rattle.lalrpop_hir.specs.Size.{size}
use Rattle.lalrpop_hir.specs.Language.{Matches}
use Rattle.lalrpop_hir.specs.States.{accept_state, reject_state, start_state}
use Rattle.lalrpop_nfa.specs.Graph.{Graph, Lists}
use Rattle.lalrpop_hir.specs.Meet.{Meet}
use Rattle.lalrpop_nfa.specs.Path.{noop, other, Path}
use Rattle.lalrpop_nfa.specs.Walk.{leaves}
use Rattle.lalrpop_nfa.specs.declared.edge.Edge.{Edge}
use Rattle.lalrpop_nfa.specs.declared.edge.Noop.{Noop}
use Rattle.lalrpop_nfa.specs.declared.edge.Other.{Other}
use Rattle.lalrpop_nfa.specs.declared.edge.StateKind.TheVariants.{Accept, Reject}

-- the range is one of the class
abbrev pub IsClassLabel : Class → Range → Type 0
IsClassLabel (unicode rs) r = Contains rs r
IsClassLabel (bytes rs) r = Contains rs r

abbrev mutual
  -- the range is one of a class, or a character of a literal, inside the tree
  pub IsLabel : Tree → Range → Type 0
  IsLabel empty r = ⊥
  IsLabel (literal cs) r = (c : ℕ) × (Contains cs c × (r ≡ record { start = c; end = c }))
  IsLabel (class a) r = IsClassLabel a r
  IsLabel (look l) r = ⊥
  IsLabel (repetition min max greedy t) r = IsLabel t r
  IsLabel (capture name t) r = IsLabel t r
  IsLabel (concat ts) r = IsLabelOfSome ts r
  IsLabel (alternation ts) r = IsLabelOfSome ts r

  -- the same for some tree of the list
  pub IsLabelOfSome : Trees → Range → Type 0
  IsLabelOfSome none r = ⊥
  IsLabelOfSome (also t ts) r = IsLabel t r ⊎ IsLabelOfSome ts r

-- the automaton reads exactly the words of the tree, from START to ACCEPT
abbrev pub ReadsWordsOf : Tree → Graph → Type 0
ReadsWordsOf t g = (w : List ℕ) → Path g.edges accept_state start_state w ↔ Matches t w

-- what holds of every compiled automaton
pub record IsCompiled (t : Tree) (g : Graph) : Type 0 where
  pub reads : ReadsWordsOf t g
  pub few : length g.kinds ≤ 3 + size t
  pub start_in : start_state < length g.kinds
  -- only ACCEPT is of kind Accept, only REJECT of kind Reject
  pub accepting : (p : ℕ) → slice_get g.kinds p ≡ Some Accept ↔ (p ≡ accept_state)
  pub rejecting : (p : ℕ) → slice_get g.kinds p ≡ Some Reject ↔ (p ≡ reject_state)
  -- edges join states; only its other edge leaves REJECT, and no test leads there
  pub noops_in : (e : Edge Noop) → Contains g.edges.noops e → (e.from < length g.kinds) × (e.to < length g.kinds) × (e.from ≢ reject_state)
  pub tests_in : (e : Edge Range) → Contains g.edges.tests e → (e.from < length g.kinds) × (e.to < length g.kinds) × (e.from ≢ reject_state) × (e.to ≢ reject_state)
  pub others_in : (e : Edge Other) → Contains g.edges.others e → (e.from < length g.kinds) × (e.to ≡ reject_state)
  -- each label is one of the tree, and is a range of code values
  pub labels : (e : Edge Range) → Contains g.edges.tests e → IsLabel t e.label × (e.label.start ≤ e.label.end) × (e.label.end ≤ 1114111)
  -- test edges at two places of the list that leave one state have no value in common
  pub apart : (i j : ℕ) (e f : Edge Range) → slice_get g.edges.tests i ≡ Some e → slice_get g.edges.tests j ≡ Some f → i ≢ j → e.from ≡ f.from → ¬ Meet e.label f.label

-- the edges that leave the state
abbrev pub edges_from : ℕ → Lists → Lists
edges_from q e = record { noops = filter (leaves q) e.noops; tests = filter (leaves q) e.tests; others = filter (leaves q) e.others }

-- only an edge to REJECT that reads any value
abbrev pub only_other : ℕ → Lists
only_other q = record { noops = []; tests = []; others = other q reject_state ∷ [] }

-- only an edge to the entry that reads nothing
abbrev pub only_noop : ℕ → ℕ → Lists
only_noop q entry = record { noops = noop q entry ∷ []; tests = []; others = [] }

-- all edges that leave ACCEPT, REJECT and START
pub record HasFixedEdges (e : Lists) : Type 0 where
  pub accept : edges_from accept_state e ≡ only_other accept_state
  pub reject : edges_from reject_state e ≡ only_other reject_state
  pub start : (entry : ℕ) × (edges_from start_state e ≡ only_noop start_state entry)
