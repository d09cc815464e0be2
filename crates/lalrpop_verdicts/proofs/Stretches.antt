-- Stretches of values that lead from a state to one state.
use Rattle.std.proofs.Common.{◌≡◌, ℕ, ◌<◌, ◌≤◌, List, length, subst, ◌∙◌, arith}
use Rattle.std.specs.Prelude.{slice_get, Some}
use Rattle.lalrpop_hir.specs.Range.{Range}
use Rattle.lalrpop_dfa.specs.Dfa.{Row, edge_target, step, AreAscendingTests}
use Rattle.lalrpop_dfa.specs.Stored.{EndBefore}
use Rattle.lalrpop_dfa.proofs.EdgeTargets.{step_of, step_within, leads_at, leads_between}
use Rattle.lalrpop_verdicts.specs.Internal.Pairs.{AreEdges}

pub end_later : (ts : List (Range × ℕ)) (place v w : ℕ) → v ≤ w → EndBefore ts place v → EndBefore ts place w
end_later ts place v w l h = λ k t a e. omega (arith, h k t a e)

-- by the edge at the place
pub along_edge : (ts : List (Range × ℕ)) (place other value : ℕ) (t : Range × ℕ) → AreAscendingTests ts → slice_get ts place ≡ Some t → t.0.start ≤ value
    → (c : ℕ) → value ≤ c → c ≤ t.0.end → edge_target ts other c ≡ t.1
along_edge ts place other value t up at l c a b = leads_at ts up place other c t at (omega arith, b)

-- before the edge at the place, or after all edges
pub between_edges : (ts : List (Range × ℕ)) (place other value last : ℕ) → AreAscendingTests ts → EndBefore ts place value → ((t : Range × ℕ) → slice_get ts place ≡ Some t → last < t.0.start)
    → (c : ℕ) → value ≤ c → c ≤ last → edge_target ts other c ≡ other
between_edges ts place other value last up passed behind c a b =
    leads_between ts up place other c (end_later ts place value c a passed) (λ t e. omega (arith, behind t e))

-- where values that lead alike lead from a state
pub edges_lead : (d : List Row) (p : ℕ) (ts : List (Range × ℕ)) (other value last target : ℕ) → AreEdges d p ts other → ((c : ℕ) → value ≤ c → c ≤ last → edge_target ts other c ≡ target)
    → (c : ℕ) → value ≤ c → c ≤ last → step d p c ≡ target
edges_lead d p ts other value last target e h c a b = step_of d p c e.row e.row_at ∙ rw (← e.same_tests, ← e.same_other) (h c a b)

pub edges_ascend : (d : List Row) (p : ℕ) (ts : List (Range × ℕ)) (other : ℕ) → AreEdges d p ts other → AreAscendingTests ts
edges_ascend d p ts other e = rw e.same_tests (e.well_formed.ascending p e.row e.row_at)

pub edge_within : (d : List Row) (p : ℕ) (ts : List (Range × ℕ)) (other value last target : ℕ) → AreEdges d p ts other → value ≤ last → ((c : ℕ) → value ≤ c → c ≤ last → edge_target ts other c ≡ target)
    → target < length d
edge_within d p ts other value last target e some h =
    let itself : value ≤ value = omega arith in
    subst (λ (q : ℕ). q < length d) (edges_lead d p ts other value last target e h value itself some) (step_within d p value e.well_formed e.within)
