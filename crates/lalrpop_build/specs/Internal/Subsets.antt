-- cases: proofs/Cases/Subsets.antt
-- The sets of items that values lead to.
use Rattle.std.specs.Prelude.{ℕ, zero, suc, ◌+◌, Bool, ◌==◌, ◌&&◌, ◌||◌, nat_le, List, [], ◌∷◌, ◌++◌, length, map, filter, slice_index_or}
use Rattle.std.specs.List.{list_any, list_all, flat_map}
use Rattle.lalrpop_nfa.specs.Graph.{Graph}
use Rattle.lalrpop_dfa.specs.Ascending.{Item}
use Rattle.lalrpop_hir.specs.States.{reject_state, start_state}

-- an automaton without states
abbrev pub no_graph : Graph
no_graph = record { kinds = []; edges = record { noops = []; tests = []; others = [] } }

-- the automaton with this index
abbrev pub graph_at : List Graph → ℕ → Graph
graph_at ns i = slice_index_or ns i no_graph

-- an edge from p to q reads nothing
abbrev pub has_noop : Graph → ℕ → ℕ → Bool
has_noop g p q = list_any (λ e. (e.from == p) && (e.to == q)) g.edges.noops

-- edges that read nothing lead from p to q, by way of states below n only
unfoldable pub joins : Graph → ℕ → ℕ → ℕ → Bool
joins g zero p q = (p == q) || has_noop g p q
joins g (suc n) p q = joins g n p q || (joins g n p n && joins g n n q)

-- edges that read nothing lead from p to q
unfoldable pub is_epsilon_path : Graph → ℕ → ℕ → Bool
is_epsilon_path g p q = joins g (length g.kinds) p q

-- the first n items of the automaton with this index
abbrev pub items_below : ℕ → ℕ → List Item
items_below i zero = []
items_below i (suc n) = items_below i n ++ (i, n) ∷ []

-- all items of the automata, the first of which has the index i
abbrev pub items_from : ℕ → List Graph → List Item
items_from i [] = []
items_from i (g ∷ gs) = items_below i (length g.kinds) ++ items_from (i + 1) gs

-- all items, ascending
unfoldable pub all_items : List Graph → List Item
all_items ns = items_from 0 ns

-- y leads to x by reading nothing
unfoldable pub follows_by_epsilon : List Graph → Item → Item → Bool
follows_by_epsilon ns y x = (y.0 == x.0) && is_epsilon_path (graph_at ns x.0) y.1 x.1

-- the items that any of the given ones lead to by reading nothing, ascending
unfoldable pub closed : List Graph → List Item → List Item
closed ns given = filter (λ x. list_any (λ y. follows_by_epsilon ns y x) given) (all_items ns)

-- the targets of the state's test edges that cover the value
abbrev pub test_targets : Graph → ℕ → ℕ → List ℕ
test_targets g p c = map (λ e. e.to) (filter (λ e. (e.from == p) && (nat_le e.label.start c && nat_le c e.label.end)) g.edges.tests)

-- the targets of the state's other edges
abbrev pub default_targets : Graph → ℕ → List ℕ
default_targets g p = map (λ e. e.to) (filter (λ e. e.from == p) g.edges.others)

-- the first list, or the second if the first is empty
abbrev pub or_instead : List ℕ → List ℕ → List ℕ
or_instead [] qs = qs
or_instead (q ∷ ps) qs = q ∷ ps

-- the targets of the state by the value: of its tests, or if none covers the value, of its other edges
abbrev pub targets : Graph → ℕ → ℕ → List ℕ
targets g p c = or_instead (test_targets g p c) (default_targets g p)

-- the items that the item leads to by the value
unfoldable pub item_targets : List Graph → ℕ → Item → List Item
item_targets ns c x = map (λ q. (x.0, q)) (targets (graph_at ns x.0) x.1 c)

-- the set of items that a set leads to by the value
unfoldable pub move : List Graph → List Item → ℕ → List Item
move ns s c = closed ns (flat_map (item_targets ns c) s)

-- START of each automaton
abbrev pub starts_from : ℕ → List Graph → List Item
starts_from i [] = []
starts_from i (g ∷ gs) = (i, start_state) ∷ starts_from (i + 1) gs

-- the set of items that the empty word leads to
unfoldable pub first_set_of : List Graph → List Item
first_set_of ns = closed ns (starts_from 0 ns)

-- every item is a REJECT state
abbrev pub is_dead : List Item → Bool
is_dead s = list_all (λ x. x.1 == reject_state) s
