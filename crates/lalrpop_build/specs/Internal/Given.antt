-- cases: proofs/Cases/Given.antt
-- What sets of items are made of: compiled automata, and their items.
use Rattle.std.specs.Prelude.{◌≡◌, ℕ, ◌<◌, List, length, slice_get, Some}
use Rattle.std.specs.List.{Contains}
use Rattle.lalrpop_hir.specs.Tree.{Tree}
use Rattle.lalrpop_nfa.specs.Compiled.{HasFixedEdges}
use Rattle.lalrpop_nfa.specs.Graph.{Graph}
use Rattle.lalrpop_nfa.specs.Automata.{AreCompiled}
use Rattle.lalrpop_dfa.specs.Ascending.{Item}

-- the edges of ACCEPT, REJECT and START are the fixed ones in each automaton
abbrev pub AreFixed : List Graph → Type 0
AreFixed ns = (i : ℕ) (g : Graph) → slice_get ns i ≡ Some g → HasFixedEdges g.edges

-- the automata of some trees
abbrev pub AreAutomata : List Graph → Type 0
AreAutomata ns = (ts : List Tree) × AreCompiled ts ns × AreFixed ns

-- the item is a state of an automaton of the list
abbrev pub IsItemOf : List Graph → Item → Type 0
IsItemOf ns x = (g : Graph) × ((slice_get ns x.0 ≡ Some g) × (x.1 < length g.kinds))

-- each is an item of the automata
abbrev pub AreItemsOf : List Graph → List Item → Type 0
AreItemsOf ns s = (x : Item) → Contains s x → IsItemOf ns x
