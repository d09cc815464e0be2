-- The numbers of a table that runs ahead, page by page and row by row.
use Rattle.std.proofs.Common.{◌≡◌, ℕ, zero, suc, inl, inr, ◌+◌, ◌*◌, ◌-◌, ◌/◌, ◌%◌, ◌<◌, ◌≤◌, List, Some, length, slice_index, subst, sym, ap, ◌∙◌, arith, ⊎_elim}
use Rattle.std.specs.Prelude.{slice_get, min, max, IsTrue}
use Rattle.std.proofs.lemmas.Bool.{cases_lt}
use Rattle.lalrpop_dense.specs.DenseTable.{TableNumbers, block_of_page, character_class}
use Rattle.lalrpop_emit.specs.Ahead.{AheadNumbers, Begin, CanWait, IsAheadOf, IsCounted, Standing, StandsFor, by_column, is_waiting, within_column}
use Rattle.lalrpop_emit.specs.Internal.Lists.{IsRightRow, patience_in}

-- ---- pages

-- the classes of the characters from 128 on up to here are among the first `count`
abbrev pub AreClassesBelow : TableNumbers → ℕ → ℕ → Type 0
AreClassesBelow t count end = (c : ℕ) → 128 ≤ c → c < end → character_class t c < count

-- pages after the last one have its block
pub pages_below : (t : TableNumbers) (count end : ℕ) → end ≡ min (max (length t.pages) 2) 8704 → AreClassesBelow t count (end * 128) → AreClassesBelow t count 1114112
pages_below t count end is below c low high =
    ⊎_elim (λ (before : c < end * 128). below c low before)
    (λ (behind : end * 128 ≤ c).
    let d = (end - 1) * 128 + c % 128 in
    let last : min (d / 128) (length t.pages - 1) ≡ min (c / 128) (length t.pages - 1) = omega (arith, is, behind, high) in
    let place : d % 128 ≡ c % 128 = omega arith in
    let same : character_class t d ≡ character_class t c =
    ap (λ (page : ℕ). slice_index t.blocks (slice_index t.pages page * 128 + d % 128)) last
    ∙ ap (λ (n : ℕ). slice_index t.blocks (block_of_page t (c / 128) * 128 + n)) place in
    subst (λ (n : ℕ). n < count) same (below d (omega (arith, is)) (omega (arith, is))))
    (cases_lt c (end * 128))

-- more classes are among more of them
pub classes_among_more : (t : TableNumbers) (few many end : ℕ) → few ≤ many → AreClassesBelow t few end → AreClassesBelow t many end
classes_among_more t few many end more below c low high = omega (arith, more, below c low high)

-- those of a page more
pub page_more : (t : TableNumbers) (count page : ℕ) → AreClassesBelow t count (page * 128)
    → ((c : ℕ) → page * 128 ≤ c → c < page * 128 + 128 → character_class t c < count) → AreClassesBelow t count ((page + 1) * 128)
page_more t count page below own c low high =
    ⊎_elim (λ (before : c < page * 128). below c low before)
    (λ (here : page * 128 ≤ c). own c here (omega (arith, high)))
    (cases_lt c (page * 128))

-- those of a page with the block of the page before it
pub page_as_before : (t : TableNumbers) (count page : ℕ) → 2 ≤ page → block_of_page t page ≡ block_of_page t (page - 1)
    → AreClassesBelow t count (page * 128) → AreClassesBelow t count ((page + 1) * 128)
page_as_before t count page second same below = page_more t count page below own
  where
    own : (c : ℕ) → page * 128 ≤ c → c < page * 128 + 128 → character_class t c < count
    own c low high =
        let d = c - 128 in
        let here : c / 128 ≡ page = omega (arith, low, high) in
        let before : d / 128 ≡ page - 1 = omega (arith, low, high, second) in
        let place : d % 128 ≡ c % 128 = omega (arith, low, second) in
        let is_same : character_class t d ≡ character_class t c =
        ap (λ (n : ℕ). slice_index t.blocks (block_of_page t n * 128 + d % 128)) before
        ∙ ap (λ (block : ℕ). slice_index t.blocks (block * 128 + d % 128)) (sym same)
        ∙ ap (λ (n : ℕ). slice_index t.blocks (block_of_page t n * 128 + d % 128)) (sym here)
        ∙ ap (λ (n : ℕ). slice_index t.blocks (block_of_page t (c / 128) * 128 + n)) place in
        subst (λ (n : ℕ). n < count) is_same (below d (omega (arith, low, second)) (omega (arith, low, high, second)))

-- classes among the first have columns
pub few_beyond : (t : TableNumbers) (width : ℕ) → 130 ≤ width → AreClassesBelow t (width - 130) 1114112 → (c : ℕ) → 128 ≤ c → c < 1114112
    → 128 + character_class t c < within_column width
few_beyond t width columns below c low high = omega (arith, columns, below c low high)

-- ---- rows

module _ (a : AheadNumbers) (t : TableNumbers) (standings : List Standing) (patience : List ℕ) (columns : 130 ≤ a.width)
    (rows : (k : ℕ) (s : Standing) → slice_get standings k ≡ Some s → IsRightRow a t standings patience (k * (a.width + 1)) s) where
  right_row : (row : ℕ) (s : Standing) → StandsFor a standings row s → IsRightRow a t standings patience row s
  right_row row s (k, at, place) = subst (λ (r : ℕ). IsRightRow a t standings patience r s) (sym place) (rows k s at)

  abbrev patience_of : Standing → ℕ
  patience_of s = patience_in patience (t.width + 1) s

  -- a row that isn't counted can't wait for longer than the list says
  waits_less : (n row : ℕ) (s : Standing) → StandsFor a standings row s → ¬ IsCounted a row → IsTrue (is_waiting t s) → CanWait t a.width n s → n ≤ patience_of s
  waits_less zero row s here short waits can = omega arith
  waits_less (suc n) row s here short waits (column, (few, (next_waits, can))) =
      let right = right_row row s here in
      let next = by_column t a.width s column in
      let there = right.leads column (omega (arith, few, columns)) in
      let less = right.counted.fewer short waits column few next_waits in
      let own = right.counted.short short waits in
      let next_short : ¬ IsCounted a (slice_index a.cells (row + column)) =
      λ counted. (let long = ((right_row (slice_index a.cells (row + column)) next there).counted.counted counted).1 in omega (arith, long, less, own)) in
      omega (arith, less, waits_less n (slice_index a.cells (row + column)) next there next_short next_waits can)

  -- so one that can for long is counted
  long_counted : (row : ℕ) (s : Standing) → StandsFor a standings row s → IsTrue (is_waiting t s) → CanWait t a.width 16 s → IsCounted a row
  long_counted row s here waits can = elim (cases_lt 0 row) [
    | inl some ↦ elim (cases_lt (a.waiting * (a.width + 1)) row) [
      | inl past ↦ absurd (none (λ counted. omega (arith, counted.1, past)))
      | inr within ↦ (some, within)
    ]
    | inr first ↦ absurd (none (λ counted. omega (arith, counted.0, first)))
  ]
    where
      none : ¬ IsCounted a row → ⊥
      none short = omega (arith, waits_less 16 row s here short waits can, (right_row row s here).counted.short short waits)

  -- if the row of each standing is right, the numbers are those of the table
  pub ahead_by_rows : ((c : ℕ) → 128 ≤ c → c < 1114112 → 128 + character_class t c < within_column a.width) → length a.cells ≡ length standings * (a.width + 1)
      → StandsFor a standings a.start Begin → IsAheadOf a t
  ahead_by_rows beyond size begins = record {
    standings = standings;
    columns = columns;
    beyond = beyond;
    size = size;
    begins = begins;
    leads = λ row s h. (right_row row s h).leads;
    rules = λ row s h. (right_row row s h).rule;
    told = λ row s h. (right_row row s h).told;
    ends = λ row s h. (right_row row s h).ends;
    lost = λ row s h. (right_row row s h).lost;
    waits = λ row s h counted. ((right_row row s h).counted.counted counted).0;
    long = long_counted;
  }
