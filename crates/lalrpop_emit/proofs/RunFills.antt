-- A block that was just run through.
use Rattle.std.proofs.Common.{◌≡◌, ℕ, ◌+◌, ◌-◌, ◌*◌, ◌/◌, ◌^◌, ◌<◌, ◌≤◌, Bool, true, false, inl, inr, List, [], ◌∷◌, length, take, drop, slice_index, refl, sym, ap, subst, ◌∙◌, arith, length-take-le}
use Rattle.std.specs.Prelude.{◌↔◌, ◌==◌, nat_lt, if◌then◌else◌}
use Rattle.std.specs.Int.{bit_at}
use Rattle.std.proofs.lemmas.Bool.{cases_lt}
use Rattle.std.proofs.lemmas.List.{get_or-take}
use Rattle.lalrpop_dense.specs.DenseTable.{TableNumbers, AreClasses, character_class}
use Rattle.lalrpop_emit.specs.declared.run.Run.{Run}
use Rattle.lalrpop_emit.specs.Ahead.{AheadNumbers, Begin, In, IsAheadOf, Lost, Standing, StandsFor, by_bad, by_class, by_column, by_within, is_end, is_live, row_by, standing_after, within_column}
use Rattle.lalrpop_emit.specs.Internal.Columns.{AreColumns}
use Rattle.lalrpop_emit.specs.Internal.AheadRows.{AreStandings}
use Rattle.lalrpop_emit.specs.Internal.Running.{IsAtPlace, IsRunThrough, IsWordOf}

-- ---- no end lies before the first byte

either : (b : Bool) (x y : Standing) → is_end x ≡ false → is_end y ≡ false → is_end (if b then x else y) ≡ false
either true x y first second = first
either false x y first second = second

begin_by_class : (t : TableNumbers) (class : ℕ) → is_end (by_class t class Begin) ≡ false
begin_by_class t class = either (is_live t (row_by t t.start class)) (In (row_by t t.start class)) Lost refl refl

begin_by_column : (t : TableNumbers) (width column : ℕ) → is_end (by_column t width Begin column) ≡ false
begin_by_column t width column =
    let last : is_end (if column == within_column width then by_within Begin else by_bad t Begin) ≡ false =
    either (column == within_column width) (by_within Begin) (by_bad t Begin) refl refl in
    let later : is_end (if nat_lt column (within_column width) then by_class t (column - 128) Begin else (if column == within_column width then by_within Begin else by_bad t Begin)) ≡ false =
    either (nat_lt column (within_column width)) (by_class t (column - 128) Begin) (if column == within_column width then by_within Begin else by_bad t Begin) (begin_by_class t (column - 128)) last in
    either (nat_lt column 128) (by_class t (character_class t column) Begin)
    (if nat_lt column (within_column width) then by_class t (column - 128) Begin else (if column == within_column width then by_within Begin else by_bad t Begin))
    (begin_by_class t (character_class t column)) later

first_no_end : (t : TableNumbers) (width : ℕ) (columns : List ℕ) → is_end (standing_after t width (take 1 columns)) ≡ false
first_no_end t width [] = refl
first_no_end t width (column ∷ columns) = begin_by_column t width column

first_row : (a : AheadNumbers) (t : TableNumbers) (text : List ℕ) (run : Run) → IsRunThrough a t text run → 0 < run.length → slice_index run.rows.items 0 < a.ends
first_row a t text run r some = elim (cases_lt (slice_index run.rows.items 0) a.ends) [
  | inl low ↦ low
  | inr high ↦
      let columns = take run.length run.columns.items in
      let end = (r.ahead.ends (slice_index run.rows.items 0) (standing_after t a.width (take 1 columns)) (r.rows 0 some)).1 high in
      let none = first_no_end t a.width columns in
      cc
]

-- ---- the block

-- what was written of a block: its columns, rows and ends
pub record IsFilled (a : AheadNumbers) (t : TableNumbers) (h : IsAheadOf a t) (text : List ℕ) (run : Run) : Type 0 where
  pub words : ℕ
  pub whole : run.length ≡ 384 * words
  pub some : 0 < words
  pub fits : length text < 2 ^ 64
  pub inside : run.base + run.length ≤ length text
  pub in_rows : run.length ≤ length run.rows.items
  pub columns : AreColumns t a.width 0 (drop run.base text) (take run.length run.columns.items)
  pub rows : AreStandings a t h.standings (take run.length run.columns.items) (take run.length run.rows.items)
  pub ends : (w : ℕ) → w < run.length / 64 → IsWordOf a.ends (take run.length run.rows.items) w (slice_index run.ends.items w)

pub filled : (a : AheadNumbers) (t : TableNumbers) (h : IsAheadOf a t) (text : List ℕ) (run : Run) → AreClasses t → IsFilled a t h text run → IsRunThrough a t text run
filled a t h text run classes f =
    let row : (k : ℕ) → k < run.length → slice_index (take run.length run.rows.items) k ≡ slice_index run.rows.items k = λ k l. get_or-take run.length run.rows.items k 0 l in
    record {
      ahead = h;
      classes = classes;
      fits = f.fits;
      inside = f.inside;
      columns = f.columns;
      rows = λ k l.
          subst (λ (n : ℕ). StandsFor a h.standings n (standing_after t a.width (take (k + 1) (take run.length run.columns.items)))) (row k l)
          (f.rows k (omega (arith, l, length-take-le run.length run.rows.items f.in_rows)));
      ends = record {
        whole = omega (arith, f.whole);
        are = λ w l.
            let there = f.ends w l in
            record {
              small = there.small;
              are = λ i near.
                  subst (λ (n : ℕ). (bit_at (slice_index run.ends.items w) i ≡ 1) ↔ (a.ends ≤ n)) (row (w * 64 + i) (omega (arith, l, near, f.whole))) (there.are i near);
            };
      };
    }

-- the first token begins where the block does
pub at_beginning : (a : AheadNumbers) (t : TableNumbers) (text : List ℕ) (run : Run) → IsRunThrough a t text run → 0 < run.length → run.word ≡ 0 → run.bits ≡ slice_index run.ends.items 0
    → IsAtPlace a.ends run 0
at_beginning a t text run r some word bits =
    let there = r.ends.are 0 (omega (arith, some, r.ends.whole)) in
    record {
      marked = r.ends;
      before = omega arith;
      begins = inl refl;
      word = omega (arith, some, word, r.ends.whole);
      none = λ z above below. absurd (omega (arith, above, below, word));
      small = omega (arith, bits, there.small);
      bits = λ i l.
          let same : bit_at run.bits i ≡ bit_at (slice_index run.ends.items 0) i = ap (λ (n : ℕ). bit_at n i) bits in
          let place : 0 * 64 + i ≡ run.word * 64 + i = omega (arith, word) in
          let old = there.are i l in
          elim (cases_lt 0 i) [
            | inl behind ↦ (
              λ set. (omega (arith, behind), subst (λ (n : ℕ). a.ends ≤ slice_index run.rows.items n) place (old.0 (sym same ∙ set))),
              λ end. same ∙ old.1 (subst (λ (n : ℕ). a.ends ≤ slice_index run.rows.items n) (sym place) end.1),
            )
            | inr first ↦
                let here : 0 * 64 + i ≡ 0 = omega (arith, first) in
                let low = first_row a t text run r some in (
                  λ set. absurd (omega (arith, low, subst (λ (n : ℕ). a.ends ≤ slice_index run.rows.items n) here (old.0 (sym same ∙ set)))),
                  λ end. absurd (omega (arith, end.0, here, word)),
                )
          ];
    }
