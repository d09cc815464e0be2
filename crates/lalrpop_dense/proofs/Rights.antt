-- The row of a state leads each character where the state does.
use Rattle.std.proofs.Common.{◌≡◌, ℕ, ◌+◌, ◌-◌, ◌<◌, ◌≤◌, ⊎_elim, min, List, length, get_or, arith, sym, ap, ap₂, subst, ◌∙◌}
use Rattle.std.specs.Prelude.{slice_get, Some, IsSomeAnd}
use Rattle.std.proofs.lemmas.Bool.{cases_lt}
use Rattle.std.proofs.lemmas.List.{get_or-set_same, get_or-set_other}
use Rattle.std.proofs.lemmas.Option.{slice_get_within}
use Rattle.std.proofs.Math.ListN.{set}
use Rattle.lalrpop_hir.specs.Range.{Range}
use Rattle.lalrpop_dfa.specs.Dfa.{Row, StoredState, IsStored, step, edge_target, AreAscendingTests}
use Rattle.lalrpop_dfa.proofs.EdgeTargets.{the_some, step_of, tests_of, leads_between}
use Rattle.lalrpop_dense.specs.Internal.Alikes.{IsAlike}
use Rattle.lalrpop_dense.specs.Internal.Table.{HasClasses, LeadsRight, row_of, class_of, IsRowOfKind}
use Rattle.lalrpop_dense.specs.Internal.Runs.{AreEnds, IsRun, LeadOnAlike, LeadsOn, LeadsRightBelow}
use Rattle.lalrpop_dense.specs.declared.alike.Alike.{Alike}
use Rattle.lalrpop_dense.proofs.Alikes.{end_before}
use Rattle.lalrpop_dense.proofs.Walks.{class_below}
use Rattle.lalrpop_dense.specs.declared.table.Layout.{Layout}
use Rattle.lalrpop_dense.specs.declared.check.Run.{Run}

-- where a value leads, by the edges of the state
pub row_leads : (d : List Row) (p : ℕ) (edges : List (Range × ℕ)) (other : ℕ) (s : StoredState) → IsSomeAnd (slice_get d p) (λ r. edges ≡ r.tests)
    → IsSomeAnd (slice_get d p) (λ r. IsStored r s) → other ≡ s.other → (c : ℕ) → step d p c ≡ edge_target edges other c
row_leads d p edges other s t k o c =
    let r = the_some (slice_get d p) (λ r. IsStored r s) k in
    let tests : edges ≡ r.0.tests = tests_of d p r.0 edges r.1.0 t in
    let others : other ≡ r.0.other = o ∙ r.1.1.other in
    step_of d p c r.0 r.1.0 ∙ ap₂ (λ (ts : List (Range × ℕ)) (n : ℕ). edge_target ts n c) (sym tests) (sym others)

-- the characters up to `stop`, which all lead to one state and are of one class
pub right_on : (t : Layout) (cells : List ℕ) (d : List Row) (p : ℕ) (run : Run) (value stop end target : ℕ) → IsRun t run → LeadsRightBelow t cells d p value → run.start ≤ value
    → ((c : ℕ) → value ≤ c → c < end → step d p c ≡ target) → get_or cells (row_of t p + run.class) 0 ≡ row_of t target
    → stop ≤ run.end → stop ≤ end → LeadsRightBelow t cells d p stop
right_on t cells d p run value stop end target is below from leads cell in_run in_end = λ c l.
    ⊎_elim (λ (x : c < value). below c x)
    (λ (x : value ≤ c).
    ap (λ (k : ℕ). get_or cells (row_of t p + k) 0) (is c (omega arith) (omega arith))
    ∙ cell ∙ ap (row_of t) (sym (leads c x (omega arith))))
    (cases_lt c value)

-- each character is before the end of its class, so if the row is right below some value, and from there on by each class that
-- has a character there, it is right
pub right_behind : (t : Layout) (cells : List ℕ) (d : List Row) (p from : ℕ) → LeadsRightBelow t cells d p (min from 1114112)
    → ((c : ℕ) → from ≤ c → c < 1114112 → get_or cells (row_of t p + class_of t c) 0 ≡ row_of t (step d p c)) → LeadsRight t cells d p
right_behind t cells d p from below behind c scalar =
    ⊎_elim (λ (l : c < from). below c (omega arith)) (λ (l : from ≤ c). behind c l scalar) (cases_lt c from)

pub right_alike : (t : Layout) (cells : List ℕ) (d : List Row) (p row earlier : ℕ) (ends : List ℕ) (a : Alike) → HasClasses t → AreEnds t ends
    → row ≡ row_of t p → earlier ≡ row_of t a.earlier → LeadOnAlike cells row earlier t.width ends a.from → IsAlike d p a → LeadsRight t cells d a.earlier
    → (c : ℕ) → a.from ≤ c → c < 1114112 → get_or cells (row_of t p + class_of t c) 0 ≡ row_of t (step d p c)
right_alike t cells d p row earlier ends a h e r q on alike right c from scalar =
    ap (λ (n : ℕ). get_or cells (n + class_of t c) 0) (sym r)
    ∙ on (class_of t c) (class_below t c h) (omega (arith, e c scalar))
    ∙ ap (λ (n : ℕ). get_or cells (n + class_of t c) 0) q
    ∙ right c scalar
    ∙ ap (row_of t) (sym (alike c from))

pub right_on_one : (t : Layout) (cells : List ℕ) (d : List Row) (p row target to from : ℕ) (ends : List ℕ) → HasClasses t → AreEnds t ends
    → row ≡ row_of t p → target ≡ row_of t to → LeadsOn cells row target t.width ends from → ((c : ℕ) → from ≤ c → c < 1114112 → step d p c ≡ to)
    → (c : ℕ) → from ≤ c → c < 1114112 → get_or cells (row_of t p + class_of t c) 0 ≡ row_of t (step d p c)
right_on_one t cells d p row target to from ends h e r q on leads c l scalar =
    ap (λ (n : ℕ). get_or cells (n + class_of t c) 0) (sym r)
    ∙ on (class_of t c) (class_below t c h) (omega (arith, e c scalar))
    ∙ q
    ∙ ap (row_of t) (sym (leads c l scalar))

-- one more run
pub ends_more : (t : Layout) (ends : List ℕ) (run : Run) → IsRun t run → run.class < length ends → ((c : ℕ) → c < run.start → c < get_or ends (class_of t c) 0)
    → (c : ℕ) → c < run.end → c < get_or (set ends run.class run.end) (class_of t c) 0
ends_more t ends run is within before c l =
    ⊎_elim (λ (x : c < run.start).
    ⊎_elim (λ (y : class_of t c < run.class). omega (arith, before c x, get_or-set_other ends run.class (class_of t c) run.end 0 (λ e. omega arith)))
    (λ (y : run.class ≤ class_of t c).
    ⊎_elim (λ (z : run.class < class_of t c). omega (arith, before c x, get_or-set_other ends run.class (class_of t c) run.end 0 (λ e. omega arith)))
    (λ (z : class_of t c ≤ run.class). here (omega arith))
    (cases_lt run.class (class_of t c)))
    (cases_lt (class_of t c) run.class))
    (λ (x : run.start ≤ c). here (is c x l))
    (cases_lt c run.start)
  where
    here : class_of t c ≡ run.class → c < get_or (set ends run.class run.end) (class_of t c) 0
    here e = omega (arith, ap (λ (k : ℕ). get_or (set ends run.class run.end) k 0) e, get_or-set_same ends run.class run.end 0 within)

-- behind the last test, all values lead to the other state
pub leads_behind : (ts : List (Range × ℕ)) → AreAscendingTests ts → (t : Range × ℕ) (o c : ℕ) → 0 < length ts → slice_get ts (length ts - 1) ≡ Some t → t.0.end < c → edge_target ts o c ≡ o
leads_behind ts a t o c some at l =
    leads_between ts a (length ts) o c (λ k u m e. omega (arith, end_before ts a (length ts) t some at k u m e)) (λ u e. absurd (omega (arith, slice_get_within ts (length ts) u e)))

-- one more state is right
pub kind_at : (t : Layout) (cells : List ℕ) (d : List Row) (p : ℕ) (s : StoredState) → IsSomeAnd (slice_get d p) (λ r. IsStored r s) → IsRowOfKind t cells (row_of t p) s.kind
    → (r : Row) → slice_get d p ≡ Some r → IsRowOfKind t cells (row_of t p) r.kind
kind_at t cells d p s k is r e =
    let stored : IsStored r s = subst (λ o. IsSomeAnd o (λ (x : Row). IsStored x s)) e k in
    subst (IsRowOfKind t cells (row_of t p)) stored.kind is
