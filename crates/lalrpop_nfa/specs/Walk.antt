-- cases: proofs/Cases/Walk.antt
-- The edges that leave one state.
use Rattle.std.specs.Prelude.{ℕ, Bool, eqb}
use Rattle.lalrpop_nfa.specs.declared.edge.Edge.{Edge}

-- whether the edge leaves this state
abbrev pub leaves : {L : Type 0} → ℕ → Edge L → Bool
leaves q e = eqb e.from q
