-- cases: proofs/Cases/Items.antt
-- What the states of an automaton of a list of trees hold: the states of the trees' own automata that a word leads to.
use Rattle.std.specs.Prelude.{◌≡◌, ◌≢◌, ℕ, ◌<◌, ◌↔◌, List, length, map, slice_get, Some}
use Rattle.std.specs.List.{Contains}
use Rattle.lalrpop_hir.specs.Word.{IsWord, Shortlex}
use Rattle.lalrpop_nfa.specs.Graph.{Graph}
use Rattle.lalrpop_nfa.specs.Path.{Path, test}
use Rattle.lalrpop_hir.specs.States.{start_state, reject_state}
use Rattle.lalrpop_nfa.specs.Partition.{Ranges, IsPartition}
use Rattle.lalrpop_dfa.specs.Dfa.{Row, after}
use Rattle.lalrpop_dfa.specs.declared.Kind.TheVariants.{Reject}
pub use Rattle.lalrpop_nfa.specs.Automata.{AreCompiled}
pub use Rattle.lalrpop_dfa.specs.Ascending.{Item}

-- steps lead from START to the item's state and read the word
abbrev pub IsReached : List Graph → List ℕ → Item → Type 0
IsReached ns w x = (g : Graph) × ((slice_get ns x.0 ≡ Some g) × Path g.edges x.1 start_state w)

-- the labels of the test edges that leave some of the items
abbrev pub IsLeaving : List Graph → List Item → Ranges
IsLeaving ns items r = (x : Item) × (g : Graph) × (q : ℕ) × (Contains items x × (slice_get ns x.0 ≡ Some g) × Contains g.edges.tests (test x.1 r q))

-- the states hold what words lead to
pub record HoldsItems (ns : List Graph) (d : List Row) : Type 0 where
  -- some word leads to each state
  pub reached : (p : ℕ) → p < length d → (w : List ℕ) × (IsWord w × (after d w ≡ p))
  -- the state after a word holds the items that the word leads to
  pub items : (w : List ℕ) (r : Row) (x : Item) → slice_get d (after d w) ≡ Some r → Contains r.items x ↔ IsReached ns w x
  -- the tests of a state are the partition of the labels that leave its items
  pub labels : (p : ℕ) (r : Row) → slice_get d p ≡ Some r → IsPartition (IsLeaving ns r.items) (map (λ t. t.0) r.tests)
  -- no two states hold the same items
  pub distinct : (p q : ℕ) (r s : Row) → slice_get d p ≡ Some r → slice_get d q ≡ Some s
      → ((x : Item) → Contains r.items x ↔ Contains s.items x) → p ≡ q
  -- a state is a reject state exactly if it holds only REJECT states
  pub rejects : (p : ℕ) (r : Row) → slice_get d p ≡ Some r → (r.kind ≡ Reject) ↔ ((x : Item) → Contains r.items x → x.1 ≡ reject_state)

-- the other edges lead to reject states
abbrev pub OthersReject : List Row → Type 0
OthersReject d = (p : ℕ) (r s : Row) → slice_get d p ≡ Some r → slice_get d r.other ≡ Some s → s.kind ≡ Reject

-- the states that aren't reject states are in the shortlex order of the least words that lead to them
abbrev pub IsInWordOrder : List Row → Type 0
IsInWordOrder d = (p q : ℕ) (r s : Row) → p < q → slice_get d p ≡ Some r → slice_get d q ≡ Some s → r.kind ≢ Reject → s.kind ≢ Reject
    → (v : List ℕ) × (IsWord v × (after d v ≡ p) × ((w : List ℕ) → after d w ≡ q → Shortlex v w))
