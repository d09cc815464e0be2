-- cases: proofs/Cases/Reads.antt
-- Where one value leads from a state.
use Rattle.std.specs.Prelude.{ℕ, ◌⊎◌}
use Rattle.std.specs.List.{Contains}
use Rattle.lalrpop_hir.specs.Range.{Range, Covers}
use Rattle.lalrpop_nfa.specs.Graph.{Lists}
use Rattle.lalrpop_nfa.specs.Path.{test, other, IsUntested}

-- a test edge that covers the value leads from p to q
abbrev pub Tests : Lists → ℕ → ℕ → ℕ → Type 0
Tests e p c q = (r : Range) × (Contains e.tests (test p r q) × Covers r c)

-- an edge that reads the value leads from p to q
abbrev pub Reads : Lists → ℕ → ℕ → ℕ → Type 0
Reads e p c q = Tests e p c q ⊎ (Contains e.others (other p q) × IsUntested e p c)
