-- What clauses see of a state: its kind, and where its edges of each kind begin.
use Rattle.std.specs.Prelude.{ℕ, Option}
use Rattle.lalrpop_nfa.specs.declared.edge.StateKind.{StateKind}

pub record StateView : Type 0 where
  pub kind : StateKind
  pub first_noop_edge : Option ℕ
  pub first_test_edge : Option ℕ
  pub first_other_edge : Option ℕ
