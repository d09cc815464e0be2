-- Walks along the rows of a table that runs ahead, a character at a time, and what they say of the longest match.
use Rattle.std.proofs.Common.{◌≡◌, ◌≢◌, ℕ, zero, suc, ◌+◌, ◌/◌, ◌<◌, ◌≤◌, ◌⊎◌, inl, inr, ⊎_elim, List, length, get_or, refl, sym, ap, subst, ◌∙◌, arith, length-append, length-drop, le-ltb, lt-ltb}
use Rattle.std.specs.Prelude.{slice_index}
use Rattle.std.specs.Char.{encode_utf8, IsScalar}
use Rattle.std.proofs.lemmas.Bool.{cond-true, cond-false, cases_lt}
use Rattle.std.proofs.lemmas.Bool.Decides.{nat_tests}
use Rattle.std.proofs.lemmas.List.{get_or_read}
use Rattle.std.proofs.lemmas.Str.{encode_same}
use Rattle.lalrpop_dense.specs.DenseTable.{TableNumbers, character_class}
use Rattle.lalrpop_emit.specs.Ahead.{AheadNumbers, IsAheadOf, character_column, no_rule, within_column}
use Rattle.lalrpop_emit.specs.Internal.AheadRows.{IsRowOf}
use Rattle.lalrpop_emit.specs.Internal.Characters.{IsCharacterAt}
use Rattle.lalrpop_emit.specs.Internal.Memo.{IsStep, IsLastMatch, IsPassed, LeadTo, StopsAt, NothingWithin, NothingFrom}
use Rattle.lalrpop_emit.specs.declared.longest_match.Walk.{Walk}
use Rattle.lalrpop_emit.proofs.AheadRows.{is_closed}
use Rattle.lalrpop_emit.proofs.CharacterBytes.{stands_one}
use Rattle.lalrpop_emit.proofs.Walks.{character_size, scalar_below}

-- ---- one step

pub column_few : (a : AheadNumbers) (t : TableNumbers) (c : ℕ) → IsAheadOf a t → IsScalar c → character_column t c < within_column a.width
column_few a t c h scalar =
    ⊎_elim
    (λ (ascii : c < 128). subst (λ (n : ℕ). n < within_column a.width) (sym (cond-true _ c (128 + character_class t c) (lt-ltb c 128 ascii))) (omega (arith, ascii, h.columns)))
    (λ (other : 128 ≤ c). subst (λ (n : ℕ). n < within_column a.width) (sym (cond-false _ c (128 + character_class t c) (le-ltb c 128 other))) (h.beyond c other (scalar_below c scalar)))
    (cases_lt c 128)

pub column_below : (a : AheadNumbers) (t : TableNumbers) (c : ℕ) → IsAheadOf a t → IsScalar c → character_column t c < a.width
column_below a t c h scalar = omega (arith, column_few a t c h scalar, h.columns)

-- one character stands at a place
pub same_character : (text : List ℕ) (at c d : ℕ) → IsCharacterAt text at c → IsCharacterAt text at d → c ≡ d
same_character text at c d h k = (encode_same c d h.rest k.rest (sym h.split ∙ k.split)).0

pub character_fits : (text : List ℕ) (at c : ℕ) → IsCharacterAt text at c → at + length (encode_utf8 c) ≤ length text
character_fits text at c h = omega (arith, ap length h.split, length-append (encode_utf8 c) h.rest, length-drop at text, character_size c)

module _ (a : AheadNumbers) (t : TableNumbers) (text : List ℕ) (row at row2 at2 : ℕ) (s : IsStep a t text row at row2 at2) where
  pub passed : at / 64 < at2 / 64 → IsPassed text at2
  passed passes = record { before = at; character = s.character; here = s.here; place = s.place; passes = passes }

  pub step_within : (at < at2) × (at2 ≤ length text)
  step_within = (omega (arith, s.place, character_size s.character), omega (arith, s.place, character_fits text at s.character s.here))

  pub step_row : IsAheadOf a t → IsRowOf a row → IsRowOf a row2
  step_row h is = subst (IsRowOf a) (sym s.leads) ((is_closed a t h).leads row (character_column t s.character) is (column_below a t s.character h s.here.scalar))

  pub same_step : (row3 at3 : ℕ) → IsStep a t text row at row3 at3 → (row2 ≡ row3) × (at2 ≡ at3)
  same_step row3 at3 other =
      let same : s.character ≡ other.character = same_character text at s.character other.character s.here other.here in (
        s.leads ∙ ap (λ (c : ℕ). slice_index a.cells (row + character_column t c)) same ∙ sym other.leads,
        s.place ∙ ap (λ (c : ℕ). at + length (encode_utf8 c)) same ∙ sym other.place,
      )

module _ (a : AheadNumbers) (t : TableNumbers) (text : List ℕ) (row at : ℕ) where
  pub stops_at_end : length text ≤ at → StopsAt a t text row at
  stops_at_end end row2 at2 s = let within = step_within a t text row at row2 at2 s in omega (arith, end, within.0, within.1)

  pub stops_at_none : ((c : ℕ) → ¬ IsCharacterAt text at c) → StopsAt a t text row at
  stops_at_none none row2 at2 s = none s.character s.here

  module _ (c column next : ℕ) (here : IsCharacterAt text at c) (is : column ≡ character_column t c) (within : row + column < length a.cells)
      (read : next ≡ get_or a.cells (row + column) next) where
    next_is : next ≡ slice_index a.cells (row + character_column t c)
    next_is = get_or_read a.cells (row + column) next within read 0 ∙ ap (λ (n : ℕ). slice_index a.cells (row + n)) is

    pub stops_at_row : ¬ ((0 < next) × (next < a.ends)) → StopsAt a t text row at
    stops_at_row shut row2 at2 s =
        let same : row2 ≡ next = s.leads ∙ ap (λ (d : ℕ). slice_index a.cells (row + character_column t d)) (same_character text at s.character c s.here here) ∙ sym next_is in
        shut (omega (arith, same, s.some), omega (arith, same, s.no_end))

    pub step_made : (size : ℕ) → size ≡ length (encode_utf8 c) → (0 < next) × (next < a.ends) → IsStep a t text row at next (at + size)
    step_made size size_is open_row = record {
      character = c;
      here = here;
      place = ap (λ (n : ℕ). at + n) size_is;
      leads = next_is;
      some = open_row.0;
      no_end = open_row.1;
    }

-- the column and the size of the character at the place
abbrev pub IsColumnAt : TableNumbers → List ℕ → ℕ → ℕ → ℕ → Type 0
IsColumnAt t text at column size = (c : ℕ) × (IsCharacterAt text at c × (column ≡ character_column t c) × (size ≡ length (encode_utf8 c)))

pub ascii_column : (t : TableNumbers) (text : List ℕ) (at : ℕ) → at < length text → slice_index text at < 128 → IsColumnAt t text at (slice_index text at) 1
ascii_column t text at within ascii =
    let c = slice_index text at in
    let stands = stands_one text at c within (grind (arith, nat_tests)) (ascii, refl) in
    (c, (stands.0, sym (cond-true _ c (128 + character_class t c) (lt-ltb c 128 ascii)), stands.1))

module _ (a : AheadNumbers) (t : TableNumbers) (text : List ℕ) (row at column size : ℕ) where
  pub column_in_row : IsAheadOf a t → IsRowOf a row → IsColumnAt t text at column size → row + column < length a.cells
  column_in_row h (k, is, within) (c, (here, column_is, size_is)) = omega (arith, within, column_is, column_below a t c h here.scalar)

  pub column_step : (next : ℕ) → IsAheadOf a t → IsRowOf a row → IsColumnAt t text at column size → next ≡ get_or a.cells (row + column) next → (0 < next) × (next < a.ends)
      → IsStep a t text row at next (at + size)
  column_step next h is at_column read open_row =
      step_made a t text row at at_column.0 column next at_column.1.0 at_column.1.1 (column_in_row h is at_column) read size at_column.1.2 open_row

-- ---- walks from a start on

module _ (a : AheadNumbers) (t : TableNumbers) (text : List ℕ) (start : ℕ) where
  pub last_start : IsLastMatch a t text start a.start start
  last_start = record { characters = 0; lead = (refl, refl); matched = λ some. absurd (omega (arith, some)) }

  pub last_more : (row at row2 at2 : ℕ) → (n : ℕ) × LeadTo a t text start n row at → IsStep a t text row at row2 at2 → slice_index a.cells (row2 + a.width) ≢ no_rule
      → IsLastMatch a t text start row2 at2
  last_more row at row2 at2 (n, lead) s matched = record { characters = suc n; lead = (row, at, (lead, s)); matched = λ some. matched }

  pub lead_more : (row at row2 at2 : ℕ) → (n : ℕ) × LeadTo a t text start n row at → IsStep a t text row at row2 at2 → (n : ℕ) × LeadTo a t text start n row2 at2
  lead_more row at row2 at2 (n, lead) s = (suc n, (row, at, (lead, s)))

-- ---- places from which no match comes

module _ (a : AheadNumbers) (t : TableNumbers) (text : List ℕ) where
  -- where no step goes on
  pub nothing_stops : (row at : ℕ) → StopsAt a t text row at → NothingFrom a t text row at
  nothing_stops row at none zero = tt
  nothing_stops row at none (suc n) = λ row2 at2 s. absurd (none row2 at2 s)

  -- before a step to no match
  pub nothing_before : (row at row2 at2 : ℕ) → IsStep a t text row at row2 at2 → slice_index a.cells (row2 + a.width) ≡ no_rule → NothingFrom a t text row2 at2
      → NothingFrom a t text row at
  nothing_before row at row2 at2 s none after zero = tt
  nothing_before row at row2 at2 s none after (suc n) = λ row3 at3 other.
      let same = same_step a t text row at row2 at2 s row3 at3 other in (
        subst (λ (r : ℕ). slice_index a.cells (r + a.width) ≡ no_rule) same.0 none,
        subst (λ (r : ℕ). NothingWithin a t text n r at3) same.0 (subst (NothingWithin a t text n row2) same.1 (after n)),
      )

  -- after a step
  pub nothing_behind : (row at row2 at2 : ℕ) → IsStep a t text row at row2 at2 → NothingFrom a t text row at → NothingFrom a t text row2 at2
  nothing_behind row at row2 at2 s before n = (before (suc n) row2 at2 s).1

-- ---- one step of a walk that keeps the last match

module _ (a : AheadNumbers) (t : TableNumbers) (text : List ℕ) (walk last next now : Walk) (s : IsStep a t text walk.row walk.at next.row next.at)
    (is : ((slice_index a.cells (next.row + a.width) ≢ no_rule) × (now ≡ next)) ⊎ ((slice_index a.cells (next.row + a.width) ≡ no_rule) × (now ≡ last))) where
  pub row_kept : IsRowOf a last.row → IsRowOf a next.row → IsRowOf a now.row
  row_kept old new = elim is [
    | inl there ↦ subst (λ w. IsRowOf a w.row) (sym there.1) new
    | inr before ↦ subst (λ w. IsRowOf a w.row) (sym before.1) old
  ]

  pub last_kept : (start : ℕ) → (n : ℕ) × LeadTo a t text start n walk.row walk.at → IsLastMatch a t text start last.row last.at → IsLastMatch a t text start now.row now.at
  last_kept start lead old = elim is [
    | inl there ↦ subst (λ w. IsLastMatch a t text start w.row w.at) (sym there.1) (last_more a t text start walk.row walk.at next.row next.at lead s there.0)
    | inr before ↦ subst (λ w. IsLastMatch a t text start w.row w.at) (sym before.1) old
  ]

  pub since_kept : (NothingFrom a t text walk.row walk.at → NothingFrom a t text last.row last.at) → NothingFrom a t text next.row next.at → NothingFrom a t text now.row now.at
  since_kept since nothing = elim is [
    | inl there ↦ subst (λ w. NothingFrom a t text w.row w.at) (sym there.1) nothing
    | inr before ↦
        subst (λ w. NothingFrom a t text w.row w.at) (sym before.1)
        (since (nothing_before a t text walk.row walk.at next.row next.at s before.0 nothing))
  ]
