-- The tables that run ahead, one more at a time.
use Rattle.std.proofs.Common.{◌≡◌, ℕ, ◌+◌, ◌<◌, ◌≤◌, ◌^◌, ⊎_elim, List, [], ◌∷◌, ◌++◌, length, map, take, get_or, sym, ap, subst, ◌∙◌, arith, length-append, refl}
use Rattle.std.specs.Prelude.{slice_get, Some}
use Rattle.std.specs.List.{All}
use Rattle.std.specs.Option.{option_map}
use Rattle.std.proofs.Math.ListN.{get_or-append}
use Rattle.std.proofs.Math.Seq.{get_or-append_seam, take-append_seam}
use Rattle.std.proofs.lemmas.Bool.{cases_lt}
use Rattle.std.proofs.lemmas.List.{length-map, map-append, take-append-le}
use Rattle.std.proofs.lemmas.List.Sums.{sum_by_push}
use Rattle.std.proofs.lemmas.List.Elements.{All-append, All-cons, All-nil}
use Rattle.std.proofs.lemmas.Option.{get_or_from_slice_get, slice_get_within, slice_get-get_or, slice_get-map, slice_get_read}
use Rattle.lalrpop_dense.specs.DenseTable.{TableNumbers}
use Rattle.lalrpop_emit.specs.Ahead.{AheadNumbers}
use Rattle.lalrpop_emit.specs.NumberedRules.{AreCounted, IsStorableAhead, waiting_rows}
use Rattle.lalrpop_emit.specs.Internal.Lists.{AreAheadTables, ahead_numbers, list_numbers}
use Rattle.lalrpop_emit.specs.Internal.Walking.{CanRunAhead}
use Rattle.lalrpop_emit.specs.declared.ahead_table.AheadLists.{AheadLists}
use Rattle.lalrpop_emit.specs.declared.table_lists.TableLists.{TableLists}
use Rattle.lalrpop_emit.proofs.SameNumbers.{same_ahead}

pub table_at : (tables : List TableLists) (m : ℕ) (t : TableLists) → m < length tables → t ≡ get_or tables m t → slice_get (map list_numbers tables) m ≡ Some (list_numbers t)
table_at tables m t within read = slice_get-map list_numbers tables m ∙ ap (option_map list_numbers) (slice_get_read tables (length tables) m t refl within read)

ahead_more : (aheads : List AheadNumbers) (ts : List TableNumbers) (a : AheadNumbers) (t : TableNumbers) → AreAheadTables aheads ts → slice_get ts (length aheads) ≡ Some t → CanRunAhead a t
    → AreAheadTables (aheads ++ a ∷ []) ts
ahead_more aheads ts a t each there this m x u at at_t =
    let within : m < length (aheads ++ a ∷ []) = slice_get_within (aheads ++ a ∷ []) m x at in
    let read : get_or (aheads ++ a ∷ []) m x ≡ x = get_or_from_slice_get (aheads ++ a ∷ []) m x x at in
    ⊎_elim (λ (h : m < length aheads). each m x u (slice_get-get_or aheads m x h ∙ ap Some (sym (get_or-append aheads (a ∷ []) x m h) ∙ read)) at_t)
    (λ (h : length aheads ≤ m).
    let last : length aheads ≡ m = omega (arith, within, h, length-append aheads (a ∷ [])) in
    let same : a ≡ x = sym (get_or-append_seam aheads a [] x) ∙ ap (λ (k : ℕ). get_or (aheads ++ a ∷ []) k x) last ∙ read in
    let same_t : t ≡ u = (let e : Some t ≡ Some u = sym there ∙ ap (λ (k : ℕ). slice_get ts k) last ∙ at_t in cc) in
    subst (λ (y : AheadNumbers). CanRunAhead y u) same (subst (CanRunAhead a) same_t this))
    (cases_lt m (length aheads))

-- ---- how many rows wait before

-- with another number of them the table that runs ahead is still right, and can still be stored
runs_with : (a : AheadNumbers) (t : TableNumbers) (before : ℕ) → CanRunAhead a t → CanRunAhead (record a { before = before }) t
runs_with a t before h =
    let r = h.right in
    record {
      right = record {
        standings = r.standings;
        columns = r.columns;
        beyond = r.beyond;
        size = r.size;
        begins = r.begins;
        leads = r.leads;
        rules = r.rules;
        told = r.told;
        ends = r.ends;
        lost = r.lost;
        waits = r.waits;
        long = r.long;
      };
      few = h.few;
    }

stored_with : (a : AheadNumbers) (before : ℕ) → IsStorableAhead a → before < 2 ^ 64 → IsStorableAhead (record a { before = before })
stored_with a before h small = record {
  start = h.start;
  width = h.width;
  ends = h.ends;
  waiting = h.waiting;
  before = small;
  cells = h.cells;
  all_cells = h.all_cells;
}

-- the same numbers but for that
pub record IsPlaced (a placed : AheadLists) (before : ℕ) : Type 0 where
  pub start : placed.start ≡ a.start
  pub width : placed.width ≡ a.width
  pub ends : placed.ends ≡ a.ends
  pub waiting : placed.waiting ≡ a.waiting
  pub before_is : placed.before ≡ before
  pub cells : placed.cells ≡ a.cells

module _ (a placed : AheadLists) (before : ℕ) (h : IsPlaced a placed before) where
  numbers_placed : record (ahead_numbers a) { before = before } ≡ ahead_numbers placed
  numbers_placed = sym (same_ahead (ahead_numbers placed) (record (ahead_numbers a) { before = before }) h.start h.width h.ends h.waiting h.before_is (ap (λ v. v.items) h.cells))

  pub placed_runs : (t : TableNumbers) → CanRunAhead (ahead_numbers a) t → CanRunAhead (ahead_numbers placed) t
  placed_runs t runs = subst (λ (x : AheadNumbers). CanRunAhead x t) numbers_placed (runs_with (ahead_numbers a) t before runs)

  pub placed_stored : IsStorableAhead (ahead_numbers a) → before < 2 ^ 64 → IsStorableAhead (ahead_numbers placed)
  placed_stored stored small = subst IsStorableAhead numbers_placed (stored_with (ahead_numbers a) before stored small)

-- as many rows wait as in the tables so far, and in the last one
counted_one_more : (aheads : List AheadNumbers) (a : AheadNumbers) → AreCounted aheads → a.before ≡ waiting_rows aheads → AreCounted (aheads ++ a ∷ [])
counted_one_more aheads a each this m x at =
    let all : List AheadNumbers = aheads ++ a ∷ [] in
    let within : m < length all = slice_get_within all m x at in
    let read : get_or all m x ≡ x = get_or_from_slice_get all m x x at in
    ⊎_elim (λ (h : m < length aheads).
    let small : m ≤ length aheads = omega (arith, h) in
    each m x (slice_get-get_or aheads m x h ∙ ap Some (sym (get_or-append aheads (a ∷ []) x m h) ∙ read)) ∙ ap waiting_rows (sym (take-append-le m aheads (a ∷ []) small)))
    (λ (h : length aheads ≤ m).
    let last : length aheads ≡ m = omega (arith, within, h, length-append aheads (a ∷ [])) in
    let same : a ≡ x = sym (get_or-append_seam aheads a [] x) ∙ ap (λ (k : ℕ). get_or all k x) last ∙ read in
    let first : take m all ≡ aheads = ap (λ (k : ℕ). take k all) (sym last) ∙ take-append_seam aheads (a ∷ []) in
    ap (λ (y : AheadNumbers). y.before) (sym same) ∙ this ∙ ap waiting_rows (sym first))
    (cases_lt m (length aheads))

-- ---- one more

module _ (aheads more : List AheadLists) (x : AheadLists) (grown : more ≡ aheads ++ x ∷ []) where
  maps : map ahead_numbers more ≡ map ahead_numbers aheads ++ ahead_numbers x ∷ []
  maps = ap (map ahead_numbers) grown ∙ map-append ahead_numbers aheads (x ∷ [])

  pub aheads_more : (ts : List TableNumbers) (m : ℕ) (t : TableNumbers) → length aheads ≡ m → AreAheadTables (map ahead_numbers aheads) ts → slice_get ts m ≡ Some t → CanRunAhead (ahead_numbers x) t
      → AreAheadTables (map ahead_numbers more) ts
  aheads_more ts m t size each there this =
      let place : m ≡ length (map ahead_numbers aheads) = sym size ∙ sym (length-map aheads ahead_numbers) in
      subst (λ (as2 : List AheadNumbers). AreAheadTables as2 ts) (sym maps)
      (ahead_more (map ahead_numbers aheads) ts (ahead_numbers x) t each (ap (λ (k : ℕ). slice_get ts k) (sym place) ∙ there) this)

  pub storable_more : All IsStorableAhead (map ahead_numbers aheads) → IsStorableAhead (ahead_numbers x) → All IsStorableAhead (map ahead_numbers more)
  storable_more all this =
      subst (λ (as2 : List AheadNumbers). All IsStorableAhead as2) (sym maps)
      (All-append IsStorableAhead (map ahead_numbers aheads) (ahead_numbers x ∷ []) all (All-cons IsStorableAhead (ahead_numbers x) [] this (All-nil IsStorableAhead)))

  pub counted_more : AreCounted (map ahead_numbers aheads) → x.before ≡ waiting_rows (map ahead_numbers aheads) → AreCounted (map ahead_numbers more)
  counted_more each this = subst AreCounted (sym maps) (counted_one_more (map ahead_numbers aheads) (ahead_numbers x) each this)

  pub waiting_more : waiting_rows (map ahead_numbers more) ≡ waiting_rows (map ahead_numbers aheads) + x.waiting
  waiting_more = ap waiting_rows maps ∙ sum_by_push (λ (a : AheadNumbers). a.waiting) (map ahead_numbers aheads) (ahead_numbers x)

-- one table more changes nothing of those that run ahead so far
ahead_longer : (aheads : List AheadNumbers) (ts : List TableNumbers) (t : TableNumbers) → length aheads ≡ length ts → AreAheadTables aheads ts → AreAheadTables aheads (ts ++ t ∷ [])
ahead_longer aheads ts t size each m a u at at_u =
    let within : m < length ts = omega (arith, slice_get_within aheads m a at, size) in
    let read : get_or (ts ++ t ∷ []) m u ≡ u = get_or_from_slice_get (ts ++ t ∷ []) m u u at_u in
    each m a u at (slice_get-get_or ts m u within ∙ ap Some (sym (get_or-append ts (t ∷ []) u m within) ∙ read))

-- one table and one that runs ahead of it
pub both_more : (ts more : List TableLists) (t : TableLists) (aheads further : List AheadLists) (a : AheadLists) (m : ℕ) → more ≡ ts ++ t ∷ [] → further ≡ aheads ++ a ∷ []
    → length ts ≡ m → length aheads ≡ m → AreAheadTables (map ahead_numbers aheads) (map list_numbers ts) → CanRunAhead (ahead_numbers a) (list_numbers t)
    → AreAheadTables (map ahead_numbers further) (map list_numbers more)
both_more ts more t aheads further a m grown grown_aheads size size_aheads each this =
    let all : map list_numbers more ≡ map list_numbers ts ++ list_numbers t ∷ [] = ap (map list_numbers) grown ∙ map-append list_numbers ts (t ∷ []) in
    let longer : AreAheadTables (map ahead_numbers aheads) (map list_numbers more) =
    subst (AreAheadTables (map ahead_numbers aheads)) (sym all)
    (ahead_longer (map ahead_numbers aheads) (map list_numbers ts) (list_numbers t) (omega (arith, length-map aheads ahead_numbers, length-map ts list_numbers, size, size_aheads)) each) in
    let last : t ≡ get_or more m t = sym (ap (λ (xs : List TableLists). get_or xs m t) grown ∙ ap (λ (k : ℕ). get_or (ts ++ t ∷ []) k t) (sym size) ∙ get_or-append_seam ts t [] t) in
    aheads_more aheads further a grown_aheads (map list_numbers more) m (list_numbers t) size_aheads longer
    (table_at more m t (omega (arith, ap length grown, length-append ts (t ∷ []), size)) last) this
