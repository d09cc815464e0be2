-- Walks along the parts of a block at once, and how they are joined.
use Rattle.std.proofs.Common.{◌≡◌, ◌≢◌, ℕ, zero, suc, ◌+◌, ◌*◌, ◌/◌, ◌<◌, ◌≤◌, ◌⊎◌, List, ◌∷◌, length, set, slice_index, sym, ap, subst, ◌∙◌, arith, inl, inr, ⊎_elim}
use Rattle.std.proofs.Math.Nat.{mul-le-mul_right, div-mul-le_self, lt-div-mul-add, lt_of_mul-lt-mul_right}
use Rattle.std.specs.List.{All}
use Rattle.std.proofs.lemmas.Bool.{cases_lt}
use Rattle.std.proofs.lemmas.List.{get_or-set_same, get_or-set_other}
use Rattle.std.proofs.lemmas.List.Elements.{All-from_get_or}
use Rattle.lalrpop_emit.specs.Ahead.{AheadNumbers}
use Rattle.lalrpop_emit.specs.Internal.AheadRows.{IsRowOf, IsStepAt, IsWithinPart, AreRuns}
use Rattle.lalrpop_emit.proofs.AheadRows.{set_before, step_kept, step_made, row_made}

-- a part ends before the next one begins
pub parts_apart : (part i j : ℕ) → i < j → i * part + part ≤ j * part
parts_apart part i j before =
    let more : i + 1 ≤ j = omega arith in
    omega (arith, mul-le-mul_right part more)

-- ---- one walk

-- n rows from the place `from` on are a walk, which now is at the row; the first of them is a step only from the start of all
pub record IsWalked (a : AheadNumbers) (columns rows : List ℕ) (from n row : ℕ) : Type 0 where
  pub is_row : IsRowOf a row
  pub row_is : (0 < n) ⊎ (from ≡ 0) → row ≡ slice_index (a.start ∷ rows) (from + n)
  pub steps : (k : ℕ) → from ≤ k → k < from + n → (from < k) ⊎ (k ≡ 0) → IsStepAt a columns rows k
  pub are_rows : (k : ℕ) → from ≤ k → k < from + n → IsRowOf a (slice_index rows k)

pub walked_first : (a : AheadNumbers) (columns rows : List ℕ) (from : ℕ) → IsRowOf a a.start → IsWalked a columns rows from 0 a.start
walked_first a columns rows from begins = record {
  is_row = begins;
  row_is = λ at. ⊎_elim (λ (some : 0 < 0). absurd (omega (arith, some)))
      (λ (first : from ≡ 0).
      let same : from + 0 ≡ 0 = omega (arith, first) in
      sym (ap (slice_index (a.start ∷ rows)) same))
      at;
  steps = λ k low high at. absurd (omega (arith, low, high));
  are_rows = λ k low high. absurd (omega (arith, low, high));
}

-- a row elsewhere is written
pub walked_other : (a : AheadNumbers) (columns rows : List ℕ) (from n row place v : ℕ) → (place < from) ⊎ (from + n ≤ place) → IsWalked a columns rows from n row
    → IsWalked a columns (set rows place v) from n row
walked_other a columns rows from n row place v out w = record {
  is_row = w.is_row;
  row_is = λ at. w.row_is at ∙ sym (set_before a.start rows place v (from + n) (λ e. elim at [
    | inl some ↦ elim out [ inl low ↦ omega (arith, low, e, some) | inr high ↦ omega (arith, high, e) ]
    | inr first ↦ elim out [ inl low ↦ omega (arith, low, e, first) | inr high ↦ omega (arith, high, e) ]
  ]));
  steps = λ k low high at. step_kept a columns rows place v k
      (λ e. elim out [ inl before ↦ omega (arith, low, before, e) | inr behind ↦ omega (arith, high, behind, e) ])
      (λ e. elim out [
        | inl before ↦ elim at [ inl later ↦ omega (arith, later, before, e) | inr first ↦ omega (arith, first, e) ]
        | inr behind ↦ omega (arith, high, behind, e)
      ])
      (w.steps k low high at);
  are_rows = λ k low high. subst (IsRowOf a)
      (sym (get_or-set_other rows place k v 0 (λ e. elim out [ inl before ↦ omega (arith, low, before, e) | inr behind ↦ omega (arith, high, behind, e) ])))
      (w.are_rows k low high);
}

-- the next row is written
pub walked_more : (a : AheadNumbers) (columns rows : List ℕ) (from n row next : ℕ) → from + n < length rows → IsRowOf a next
    → next ≡ slice_index a.cells (row + slice_index columns (from + n)) → IsWalked a columns rows from n row → IsWalked a columns (set rows (from + n) next) from (n + 1) next
walked_more a columns rows from n row next within is_row is w =
    let place = from + n in
    let new = set rows place next in
    let further : place + 1 ≡ from + (n + 1) = omega arith in
    record {
      is_row = is_row;
      row_is = λ at. row_made a.start rows place next within ∙ ap (slice_index (a.start ∷ new)) further;
      steps = λ k low high at. ⊎_elim
          (λ (before : k < place). step_kept a columns rows place next k (omega arith) (omega arith) (w.steps k low before at))
          (λ (here : place ≤ k).
          let same : place ≡ k = omega (arith, high) in
          let some : (0 < n) ⊎ (from ≡ 0) = elim at [ inl later ↦ inl (omega (arith, later, same)) | inr first ↦ inr (omega (arith, first, same)) ] in
          subst (IsStepAt a columns new) same (step_made a columns rows place row next within (w.row_is some) is))
          (cases_lt k place);
      are_rows = λ k low high. ⊎_elim
          (λ (before : k < place). subst (IsRowOf a) (sym (get_or-set_other rows place k next 0 (omega arith))) (w.are_rows k low before))
          (λ (here : place ≤ k).
          let same : place ≡ k = omega (arith, high) in
          subst (λ (p : ℕ). IsRowOf a (slice_index new p)) same (subst (IsRowOf a) (sym (get_or-set_same rows place next 0 within)) is_row))
          (cases_lt k place);
    }

-- ---- the walks at once

-- each of the six walks has n rows
abbrev pub AreWalked : AheadNumbers → List ℕ → List ℕ → ℕ → ℕ → List ℕ → Type 0
AreWalked a columns rows part n last = (j : ℕ) → j < 6 → IsWalked a columns rows (j * part) n (slice_index last j)

-- the walks before this one have a row more
pub record AreWalkedTo (a : AheadNumbers) (columns rows : List ℕ) (part n : ℕ) (last : List ℕ) (walk : ℕ) : Type 0 where
  pub done : (j : ℕ) → j < walk → IsWalked a columns rows (j * part) (n + 1) (slice_index last j)
  pub left : (j : ℕ) → walk ≤ j → j < 6 → IsWalked a columns rows (j * part) n (slice_index last j)

pub walks_more : (a : AheadNumbers) (columns rows : List ℕ) (part n : ℕ) (last : List ℕ) (walk next : ℕ) → length rows ≡ 6 * part → length last ≡ 6 → n < part → walk < 6 → IsRowOf a next
    → next ≡ slice_index a.cells (slice_index last walk + slice_index columns (walk * part + n)) → AreWalkedTo a columns rows part n last walk
    → AreWalkedTo a columns (set rows (walk * part + n) next) part n (set last walk next) (walk + 1)
walks_more a columns rows part n last walk next size six below among is_row is w =
    let place = walk * part + n in
    record {
      done = λ j before. ⊎_elim
          (λ (low : j < walk). subst (IsWalked a columns (set rows place next) (j * part) (n + 1)) (sym (get_or-set_other last walk j next 0 (omega arith)))
          (walked_other a columns rows (j * part) (n + 1) (slice_index last j) place next (inr (omega (arith, parts_apart part j walk low))) (w.done j low)))
          (λ (here : walk ≤ j).
          let same : walk ≡ j = omega (arith, before) in
          subst (λ (i : ℕ). IsWalked a columns (set rows place next) (i * part) (n + 1) (slice_index (set last walk next) i)) same
          (subst (IsWalked a columns (set rows place next) (walk * part) (n + 1)) (sym (get_or-set_same last walk next 0 (omega arith)))
          (walked_more a columns rows (walk * part) n (slice_index last walk) next (omega (arith, parts_apart part walk 6 among)) is_row is (w.left walk (omega arith) among))))
          (cases_lt j walk);
      left = λ j behind within.
          let later : walk < j = omega arith in
          subst (IsWalked a columns (set rows place next) (j * part) n) (sym (get_or-set_other last walk j next 0 (omega arith)))
          (walked_other a columns rows (j * part) n (slice_index last j) place next (inl (omega (arith, parts_apart part walk j later))) (w.left j (omega arith) within));
    }

-- the part in which a place lies
part_of : (part k : ℕ) → k < 6 * part → (j : ℕ) × (j < 6) × (j * part ≤ k) × (k < j * part + part)
part_of part k within =
    let some : 0 < part = omega arith in
    let j = k / part in
    let low : j * part ≤ k = div-mul-le_self k part in
    let few : j * part < 6 * part = omega arith in
    (j, lt_of_mul-lt-mul_right part few, low, lt-div-mul-add some)

pub walked_rows : (a : AheadNumbers) (columns rows : List ℕ) (part n : ℕ) (last : List ℕ) → length rows ≡ 6 * part → part ≤ n → AreWalked a columns rows part n last → All (IsRowOf a) rows
walked_rows a columns rows part n last size all are = All-from_get_or (IsRowOf a) rows 0 (λ k within.
    let p = part_of part k (omega (arith, within, size)) in
    (are p.0 p.1).are_rows k p.2 (omega (arith, p.3, all)))

-- a place that no later part begins at is the first, or after the beginning of its part
within_part : (part j k : ℕ) → j * part ≤ k → IsWithinPart part k → (j * part < k) ⊎ (k ≡ 0)
within_part part j k low within = ⊎_elim (λ (before : j * part < k). inl before) (λ (here : k ≤ j * part). begun part j k (omega arith) within) (cases_lt (j * part) k)
  where
    begun : (part j k : ℕ) → k ≡ j * part → IsWithinPart part k → (j * part < k) ⊎ (k ≡ 0)
    begun part zero k is within = inr (omega (arith, is))
    begun part (suc j) k is within = absurd (within j is)

pub walked_runs : (a : AheadNumbers) (columns rows : List ℕ) (part n : ℕ) (last : List ℕ) → length rows ≡ 6 * part → part ≤ n → AreWalked a columns rows part n last → AreRuns a part columns rows
walked_runs a columns rows part n last size all are = λ k within in_part.
    let p = part_of part k (omega (arith, within, size)) in
    (are p.0 p.1).steps k p.2 (omega (arith, p.3, all)) (within_part part p.0 k p.2 in_part)

-- ---- joined

-- the steps up to the part, and those within later ones
abbrev pub AreJoined : AheadNumbers → List ℕ → List ℕ → ℕ → ℕ → Type 0
AreJoined a columns rows part walk = (k : ℕ) → k < length columns → IsWithinPart part k ⊎ (k < walk * part) → IsStepAt a columns rows k

-- no later part begins within a part
between : (part walk k j : ℕ) → walk * part < k → k < (walk + 1) * part → k ≢ suc j * part
between part walk k j low high e = ⊎_elim
    (λ (before : suc j < walk + 1).
    let few : suc j ≤ walk = omega arith in
    absurd (omega (arith, low, e, mul-le-mul_right part few)))
    (λ (behind : walk + 1 ≤ suc j). absurd (omega (arith, high, e, mul-le-mul_right part behind)))
    (cases_lt (suc j) (walk + 1))

pub joined_first : (a : AheadNumbers) (columns rows : List ℕ) (part : ℕ) → length rows ≡ length columns → AreRuns a part columns rows → AreJoined a columns rows part 1
joined_first a columns rows part size runs = λ k within at.
    runs k (omega (arith, within, size)) (⊎_elim (λ (w : IsWithinPart part k). w)
    (λ (first : k < 1 * part). λ j e.
    let some : 1 ≤ suc j = omega arith in
    omega (arith, e, first, mul-le-mul_right part some))
    at)

pub joined_more : (a : AheadNumbers) (columns rows new : List ℕ) (part walk : ℕ)
    → ((k : ℕ) → k < length columns → (k ≡ walk * part) ⊎ IsStepAt a columns rows k → IsStepAt a columns new k)
    → AreJoined a columns rows part walk → AreJoined a columns new part (walk + 1)
joined_more a columns rows new part walk kept are = λ k within at.
    kept k within (⊎_elim (λ (low : k < walk * part). inr (are k within (inr low)))
    (λ (high : walk * part ≤ k). ⊎_elim
    (λ (far : walk * part < k). inr (are k within (inl (⊎_elim (λ (w : IsWithinPart part k). w) (λ (in_it : k < (walk + 1) * part). λ j. between part walk k j far in_it) at))))
    (λ (near : k ≤ walk * part). inl (omega arith))
    (cases_lt (walk * part) k))
    (cases_lt k (walk * part)))
