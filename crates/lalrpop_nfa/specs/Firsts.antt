-- cases: proofs/Cases/Firsts.antt
-- The three kinds of labels: each has its list of edges, and its index in a state.
use Rattle.std.specs.Prelude.{◌≡◌, ℕ, Option}
use Rattle.lalrpop_nfa.specs.Graph.{Lists}
use Rattle.lalrpop_nfa.specs.declared.edge.State.{State}

pub data LabelKind : Type 0 where
  Noops : LabelKind
  Tests : LabelKind
  Others : LabelKind

-- f has the lists of e, except the list of this kind
abbrev pub SameListsBut : LabelKind → Lists → Lists → Type 0
SameListsBut Noops e f = (f.tests ≡ e.tests) × (f.others ≡ e.others)
SameListsBut Tests e f = (f.noops ≡ e.noops) × (f.others ≡ e.others)
SameListsBut Others e f = (f.noops ≡ e.noops) × (f.tests ≡ e.tests)

-- where the state's edges of this kind begin
abbrev pub index_of : LabelKind → State → Option ℕ
index_of Noops s = s.first_noop_edge
index_of Tests s = s.first_test_edge
index_of Others s = s.first_other_edge

-- the state, except that its edges of this kind begin here
abbrev pub with_index : LabelKind → State → Option ℕ → State
with_index Noops s i = record s { first_noop_edge = i }
with_index Tests s i = record s { first_test_edge = i }
with_index Others s i = record s { first_other_edge = i }
