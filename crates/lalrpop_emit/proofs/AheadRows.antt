-- Runs along columns: walks of parts at once, which are then joined, and what their rows stand for.
use Rattle.std.proofs.Common.{◌≡◌, ◌≢◌, ℕ, zero, suc, ◌+◌, ◌*◌, ◌<◌, ◌≤◌, ◌⊎◌, List, [], ◌∷◌, length, take, set, get_or, slice_index, refl, sym, ap, subst, ◌∙◌, arith, add-one, inl, inr, ⊎_elim}
use Rattle.std.proofs.Math.Nat.{lt_of_mul-lt-mul_right, mul-le-mul_right}
use Rattle.std.proofs.Math.Seq.{take-suc}
use Rattle.std.specs.List.{All}
use Rattle.std.proofs.lemmas.Bool.{cases_lt}
use Rattle.std.proofs.lemmas.List.{get_or-set_same, get_or-set_other}
use Rattle.std.proofs.lemmas.List.Elements.{All-get_or, All-set}
use Rattle.std.proofs.lemmas.List.Sums.{fold-append}
use Rattle.std.proofs.lemmas.Option.{slice_get-get_or, slice_get_within}
use Rattle.lalrpop_dense.specs.DenseTable.{TableNumbers}
use Rattle.lalrpop_emit.specs.Ahead.{AheadNumbers, Standing, Begin, StandsFor, IsAheadOf, by_column, standing_after}
use Rattle.lalrpop_emit.specs.Internal.AheadRows.{IsRowOf, IsClosed, IsStepAt, IsRun, AreStandings}

-- ---- rows and standings

pub standing_of : (a : AheadNumbers) (t : TableNumbers) (h : IsAheadOf a t) (row : ℕ) → IsRowOf a row → (s : Standing) × StandsFor a h.standings row s
standing_of a t h row (k, is, in_cells) =
    let small : k * (a.width + 1) < length h.standings * (a.width + 1) = omega (arith, is, in_cells, h.size) in
    let within : k < length h.standings = lt_of_mul-lt-mul_right (a.width + 1) small in
    (get_or h.standings k Begin, (k, slice_get-get_or h.standings k Begin within, is))

pub row_of : (a : AheadNumbers) (t : TableNumbers) (h : IsAheadOf a t) (row : ℕ) (s : Standing) → StandsFor a h.standings row s → IsRowOf a row
row_of a t h row s (k, there, is) =
    let within : k + 1 ≤ length h.standings = omega (arith, slice_get_within h.standings k s there) in
    let all : (k + 1) * (a.width + 1) ≤ length h.standings * (a.width + 1) = mul-le-mul_right (a.width + 1) within in
    (k, is, omega (arith, is, all, h.size))

pub is_closed : (a : AheadNumbers) (t : TableNumbers) → IsAheadOf a t → IsClosed a
is_closed a t h = record {
  begins = row_of a t h a.start Begin h.begins;
  leads = λ row column is below.
      let s = standing_of a t h row is in
      row_of a t h (slice_index a.cells (row + column)) (by_column t a.width s.0 column) (h.leads row s.0 s.1 column below);
}

standing_more : (t : TableNumbers) (width : ℕ) (columns : List ℕ) (k : ℕ) → k < length columns
    → standing_after t width (take (suc k) columns) ≡ by_column t width (standing_after t width (take k columns)) (slice_index columns k)
standing_more t width columns k within =
    ap (standing_after t width) (take-suc columns k 0 within)
    ∙ fold-append (λ s column. by_column t width s column) Begin (take k columns) (slice_index columns k ∷ [])

-- the row after the first k columns stands for what is known there
stands_after : (a : AheadNumbers) (t : TableNumbers) (h : IsAheadOf a t) (columns rows : List ℕ) → length rows ≡ length columns → All (λ column. column < a.width) columns
    → IsRun a columns rows → (k : ℕ) → k ≤ length rows → StandsFor a h.standings (slice_index (a.start ∷ rows) k) (standing_after t a.width (take k columns))
stands_after a t h columns rows as_many below run zero within = h.begins
stands_after a t h columns rows as_many below run (suc k) within =
    let before = stands_after a t h columns rows as_many below run k (omega arith) in
    let column = slice_index columns k in
    let led = h.leads (slice_index (a.start ∷ rows) k) (standing_after t a.width (take k columns)) before column (All-get_or (λ n. n < a.width) columns k 0 (omega arith) below) in
    subst (λ (row : ℕ). StandsFor a h.standings row (standing_after t a.width (take (suc k) columns))) (sym (run k (omega arith)))
    (subst (StandsFor a h.standings (slice_index a.cells (slice_index (a.start ∷ rows) k + column))) (sym (standing_more t a.width columns k (omega arith))) led)

pub are_standings : (a : AheadNumbers) (t : TableNumbers) (h : IsAheadOf a t) (columns rows : List ℕ) → length rows ≡ length columns → All (λ column. column < a.width) columns
    → IsRun a columns rows → AreStandings a t h.standings columns rows
are_standings a t h columns rows as_many below run k within =
    subst (λ (n : ℕ). StandsFor a h.standings (slice_index rows k) (standing_after t a.width (take n columns))) (sym (add-one k))
    (stands_after a t h columns rows as_many below run (suc k) (omega arith))

-- ---- steps, and rows that are written

-- a row that is written changes only the steps to it and from it
pub set_before : (start : ℕ) (rows : List ℕ) (at v k : ℕ) → k ≢ at + 1 → slice_index (start ∷ set rows at v) k ≡ slice_index (start ∷ rows) k
set_before start rows at v zero other = refl
set_before start rows at v (suc k) other = get_or-set_other rows at k v 0 (λ e. other (omega (arith, e)))

pub step_kept : (a : AheadNumbers) (columns rows : List ℕ) (at v k : ℕ) → k ≢ at → k ≢ at + 1 → IsStepAt a columns rows k → IsStepAt a columns (set rows at v) k
step_kept a columns rows at v k other behind is =
    get_or-set_other rows at k v 0 other ∙ is
    ∙ ap (λ (n : ℕ). slice_index a.cells (n + slice_index columns k)) (sym (set_before a.start rows at v k behind))

pub step_made : (a : AheadNumbers) (columns rows : List ℕ) (at row next : ℕ) → at < length rows → row ≡ slice_index (a.start ∷ rows) at
    → next ≡ slice_index a.cells (row + slice_index columns at) → IsStepAt a columns (set rows at next) at
step_made a columns rows at row next within row_is is =
    get_or-set_same rows at next 0 within ∙ is
    ∙ ap (λ (n : ℕ). slice_index a.cells (n + slice_index columns at)) (row_is ∙ sym (set_before a.start rows at next at (omega arith)))

pub row_made : (start : ℕ) (rows : List ℕ) (at next : ℕ) → at < length rows → next ≡ slice_index (start ∷ set rows at next) (at + 1)
row_made start rows at next within =
    sym (get_or-set_same rows at next 0 within) ∙ ap (slice_index (start ∷ set rows at next)) (sym (add-one at))

-- ---- a walk that goes on from a place

-- from the place on up to `at` all are steps; the other rows are as they were
pub record IsWalkedOn (a : AheadNumbers) (columns old rows : List ℕ) (from at row : ℕ) : Type 0 where
  pub place : from ≤ at
  pub is_row : IsRowOf a row
  pub row_is : row ≡ slice_index (a.start ∷ rows) at
  pub are_rows : All (IsRowOf a) rows
  pub steps : (k : ℕ) → from ≤ k → k < at → IsStepAt a columns rows k
  pub kept : (k : ℕ) → (k < from) ⊎ (at < k) → IsStepAt a columns old k → IsStepAt a columns rows k

pub walked_on_more : (a : AheadNumbers) (columns old rows : List ℕ) (from at row next : ℕ) → at < length rows → IsWalkedOn a columns old rows from at row → IsRowOf a next
    → next ≡ slice_index a.cells (row + slice_index columns at) → IsWalkedOn a columns old (set rows at next) from (at + 1) next
walked_on_more a columns old rows from at row next within w is_row is = record {
  place = omega (arith, w.place);
  is_row = is_row;
  row_is = row_made a.start rows at next within;
  are_rows = All-set (IsRowOf a) rows at next is_row w.are_rows;
  steps = λ k low high.
      ⊎_elim (λ (before : k < at). step_kept a columns rows at next k (omega arith) (omega arith) (w.steps k low before))
      (λ (here : at ≤ k).
      let same : at ≡ k = omega arith in
      subst (IsStepAt a columns (set rows at next)) same (step_made a columns rows at row next within w.row_is is))
      (cases_lt k at);
  kept = λ k out was.
      ⊎_elim (λ (low : k < from). step_kept a columns rows at next k (omega (arith, w.place)) (omega (arith, w.place)) (w.kept k (inl low) was))
      (λ (high : at + 1 < k). step_kept a columns rows at next k (omega arith) (omega arith) (w.kept k (inr (omega arith)) was))
      out;
}

-- the row that stands there is the next one, or the block ends
pub walked_on : (a : AheadNumbers) (columns old rows : List ℕ) (from at row : ℕ) → IsWalkedOn a columns old rows from at row → (at < length columns → IsStepAt a columns rows at)
    → (k : ℕ) → k < length columns → (k ≡ from) ⊎ IsStepAt a columns old k → IsStepAt a columns rows k
walked_on a columns old rows from at row w last k within was =
    ⊎_elim
    (λ (before : k < at). ⊎_elim
    (λ (low : k < from). ⊎_elim (λ (e : k ≡ from). absurd (omega (arith, e))) (λ is. w.kept k (inl low) is) was)
    (λ (high : from ≤ k). w.steps k high before)
    (cases_lt k from))
    (λ (behind : at ≤ k). ⊎_elim
    (λ (far : at < k). ⊎_elim (λ (e : k ≡ from). absurd (omega (arith, e, w.place))) (λ is. w.kept k (inr far) is) was)
    (λ (near : k ≤ at).
    let same : at ≡ k = omega arith in
    subst (IsStepAt a columns rows) same (last (omega arith)))
    (cases_lt at k))
    (cases_lt k at)
