-- The table that runs ahead of a regular table is right.
use Rattle.std.proofs.Common.{◌≡◌, ◌≢◌, ℕ, ◌<◌, ◌≤◌, ◌+◌, ◌-◌, ◌*◌, ◌∙◌, ◌↔◌, inl, inr, Bool, true, false, IsTrue, List, [], ◌∷◌, map, get_or, refl, sym, ap, subst, arith}
use Rattle.std.specs.Prelude.{if◌then◌else◌, slice_get, Some, None}
use Rattle.std.specs.List.{range_with_len}
use Rattle.std.proofs.lemmas.Bool.{cases_lt, le-ltb, lt-ltb}
use Rattle.std.proofs.lemmas.List.{get_or_append_left, get_or-append_right}
use Rattle.std.proofs.lemmas.List.FromFn.{get_or-map-range_with_len, length-map-range_with_len}
use Rattle.std.proofs.lemmas.Option.{slice_get-get_or, slice_get_within}
use Rattle.std.proofs.Math.Nat.{mul-le-mul_right}
use Rattle.lalrpop_dense.specs.DenseTable.{TableNumbers}
use Rattle.lalrpop_emit.specs.Ahead.{AheadNumbers, IsAheadOf, IsCounted, Standing, StandsFor, Begin, Lost, Ended, In, Again, accepts, by_column, is_end, is_lost, is_waiting, no_rule, rule_at, rule_number}
use Rattle.lalrpop_emit.specs.Internal.Regular.{IsRegular}
use Rattle.lalrpop_emit.specs.Internal.MadeRows.{AreRowsOf}
use Rattle.lalrpop_emit.specs.Internal.Standings.{IsAmong, live_row, place_in, standing_at, standing_cells, standings_of}
use Rattle.lalrpop_emit.specs.declared.regular_ahead.Shape.{Shape}
use Rattle.lalrpop_emit.proofs.RowLists.{row_before}
use Rattle.lalrpop_emit.proofs.RegularSteps.{column_among, row_start}
use Rattle.lalrpop_emit.proofs.Standings.{Place, all_standings, among_at, at_again, at_begin, at_ended, at_in, at_place, place_cases}
use Rattle.lalrpop_emit.proofs.Standings.Place.{lost, inside, begin, ended, again}
use Rattle.lalrpop_emit.proofs.Walks.{class_below}

iff_true : (b : Bool) (P : Type 0) → b ≡ true → P → IsTrue b ↔ P
iff_true b P is p = (λ h. p, λ q. is)

iff_false : (b : Bool) (P : Type 0) → b ≡ false → ¬ P → IsTrue b ↔ P
iff_false b P is none = (λ h. (let no : false ≡ true = sym is ∙ h in cc), λ q. absurd (none q))

told_if : (b : Bool) (n : ℕ) → n < 65535 → (if b then Some n else None) ≢ Some no_rule
told_if true n l e = (let same : n ≡ 65535 = cc in omega (arith, l, same))
told_if false n l e = cc

-- a row in an open token waits just if it comes before those that accept
waits_below : (t : TableNumbers) (row : ℕ) → row < t.accept → is_waiting t (In row) ≡ true
waits_below t row l = ap (λ (b : Bool). if (if b then false else true) then false else true) (lt-ltb row t.accept l)

waits_no_more : (t : TableNumbers) (row : ℕ) → t.accept ≤ row → is_waiting t (In row) ≡ false
waits_no_more t row l = ap (λ (b : Bool). if (if b then false else true) then false else true) (le-ltb row t.accept l)

module _ (t : TableNumbers) (s : Shape) (r : IsRegular t s.dead (s.dead + s.live)) (stride : s.stride ≡ t.width + 1) (width : ℕ) (width_is : width ≡ t.width + 130) (cells : List ℕ)
    (rows : AreRowsOf (λ k. standing_cells t s width (standing_at s k)) width cells (2 * s.live + 3)) (few : s.waiting ≤ s.live) (accept : t.accept ≡ (s.dead + s.waiting) * s.stride) where
  abbrev a : AheadNumbers
  a = record { start = (s.live + 1) * (width + 1); width = width; ends = (s.live + 2) * (width + 1); waiting = s.waiting; before = 0; cells = cells }

  -- what stands there
  there : (k : ℕ) (x : Standing) → slice_get (standings_of s) k ≡ Some x → (k < 2 * s.live + 3) × (standing_at s k ≡ x)
  there k x is =
      let within = slice_get_within (standings_of s) k x is in
      let same : Some (standing_at s k) ≡ Some x = sym (slice_get-get_or (standings_of s) k Lost within) ∙ is in
      (omega (arith, within, all_standings s), cc)

  -- and where it stands
  stands : (x : Standing) → IsAmong s x → slice_get (standings_of s) (place_in s x) ≡ Some x
  stands x among =
      let place = at_place s x (omega (arith, stride)) among in
      slice_get-get_or (standings_of s) (place_in s x) Lost (omega (arith, place.0, all_standings s)) ∙ ap (λ y. Some y) place.1

  abbrev target : Standing → ℕ → ℕ
  target x column = place_in s (by_column t width x column) * (width + 1)

  column_cell : (x : Standing) (column : ℕ) → column < width → get_or (standing_cells t s width x) column 0 ≡ target x column
  column_cell x column l =
      get_or_append_left (map (target x) (range_with_len 0 width)) (rule_number (rule_at t x) ∷ []) 0 column (omega (arith, l, length-map-range_with_len (target x) 0 width))
      ∙ get_or-map-range_with_len (target x) 0 width column column 0 l (omega arith)

  rule_cell : (x : Standing) → get_or (standing_cells t s width x) width 0 ≡ rule_number (rule_at t x)
  rule_cell x =
      let none : width - width ≡ 0 = omega arith in
      get_or-append_right (map (target x) (range_with_len 0 width)) (rule_number (rule_at t x) ∷ []) width width 0 (length-map-range_with_len (target x) 0 width) (omega arith)
      ∙ ap (λ (n : ℕ). get_or (rule_number (rule_at t x) ∷ []) n 0) none

  cell_at : (row k column : ℕ) (x : Standing) → slice_get (standings_of s) k ≡ Some x → row ≡ k * (width + 1) → column ≤ width
      → get_or cells (row + column) 0 ≡ get_or (standing_cells t s width x) column 0
  cell_at row k column x at is l =
      let here = there k x at in
      ap (λ (n : ℕ). get_or cells (n + column) 0) is ∙ rows.each k column here.0 l ∙ ap (λ y. get_or (standing_cells t s width y) column 0) here.1

  among_there : (k : ℕ) (x : Standing) → slice_get (standings_of s) k ≡ Some x → IsAmong s x
  among_there k x at = let here = there k x at in subst (IsAmong s) here.1 (among_at s k here.0)

  told_there : (x : Standing) → IsAmong s x → rule_at t x ≢ Some no_rule
  told_there Begin h e = cc
  told_there Lost h e = cc
  told_there Ended h e = cc
  told_there (In row) h e =
      let start = row_start t s r stride row h in
      told_if (accepts t row) (get_or t.cells (row + t.width) 0) (subst (λ (n : ℕ). get_or t.cells (n + t.width) 0 < 65535) (sym start.2) (r.rules start.0 start.1)) e
  told_there (Again row) h e =
      let start = row_start t s r stride row h in
      told_if (accepts t row) (get_or t.cells (row + t.width) 0) (subst (λ (n : ℕ). get_or t.cells (n + t.width) 0 < 65535) (sym start.2) (r.rules start.0 start.1)) e

  end_at : (k : ℕ) → Place s k → IsTrue (is_end (standing_at s k)) ↔ (s.live + 2 ≤ k)
  end_at k (lost is) = iff_false (is_end (standing_at s k)) (s.live + 2 ≤ k) (ap (λ (n : ℕ). is_end (standing_at s n)) is) (λ h. omega (arith, h, is))
  end_at k (begin is) = iff_false (is_end (standing_at s k)) (s.live + 2 ≤ k) (ap (λ (n : ℕ). is_end (standing_at s n)) is ∙ ap is_end (at_begin s)) (λ h. omega (arith, h, is))
  end_at k (inside j l is) =
      iff_false (is_end (standing_at s k)) (s.live + 2 ≤ k) (ap (λ (n : ℕ). is_end (standing_at s n)) is ∙ ap is_end (at_in s j l)) (λ h. omega (arith, h, is, l))
  end_at k (ended is) = iff_true (is_end (standing_at s k)) (s.live + 2 ≤ k) (ap (λ (n : ℕ). is_end (standing_at s n)) is ∙ ap is_end (at_ended s)) (omega (arith, is))
  end_at k (again j l is) =
      iff_true (is_end (standing_at s k)) (s.live + 2 ≤ k) (ap (λ (n : ℕ). is_end (standing_at s n)) is ∙ ap is_end (at_again s j l)) (omega (arith, is))

  lost_at : (k : ℕ) → Place s k → IsTrue (is_lost (standing_at s k)) ↔ (k ≡ 0)
  lost_at k (lost is) = iff_true (is_lost (standing_at s k)) (k ≡ 0) (ap (λ (n : ℕ). is_lost (standing_at s n)) is) is
  lost_at k (begin is) = iff_false (is_lost (standing_at s k)) (k ≡ 0) (ap (λ (n : ℕ). is_lost (standing_at s n)) is ∙ ap is_lost (at_begin s)) (λ h. omega (arith, h, is))
  lost_at k (inside j l is) =
      iff_false (is_lost (standing_at s k)) (k ≡ 0) (ap (λ (n : ℕ). is_lost (standing_at s n)) is ∙ ap is_lost (at_in s j l)) (λ h. omega (arith, h, is))
  lost_at k (ended is) = iff_false (is_lost (standing_at s k)) (k ≡ 0) (ap (λ (n : ℕ). is_lost (standing_at s n)) is ∙ ap is_lost (at_ended s)) (λ h. omega (arith, h, is))
  lost_at k (again j l is) =
      iff_false (is_lost (standing_at s k)) (k ≡ 0) (ap (λ (n : ℕ). is_lost (standing_at s n)) is ∙ ap is_lost (at_again s j l)) (λ h. omega (arith, h, is))

  -- the live row with this number waits just if it is one of the first
  first_wait : (j : ℕ) → j < s.waiting → is_waiting t (In (live_row s j)) ≡ true
  first_wait j l =
      let next : (s.dead + j + 1) * s.stride ≤ (s.dead + s.waiting) * s.stride = mul-le-mul_right s.stride (omega (arith, l)) in
      waits_below t (live_row s j) (omega (arith, next, accept, stride))

  others_end : (j : ℕ) → s.waiting ≤ j → is_waiting t (In (live_row s j)) ≡ false
  others_end j l =
      let behind : (s.dead + s.waiting) * s.stride ≤ (s.dead + j) * s.stride = mul-le-mul_right s.stride (omega (arith, l)) in
      waits_no_more t (live_row s j) (omega (arith, behind, accept))

  abbrev IsFirst : ℕ → Type 0
  IsFirst k = (0 < k) × (k ≤ s.waiting)

  wait_at : (k : ℕ) → Place s k → IsTrue (is_waiting t (standing_at s k)) ↔ IsFirst k
  wait_at k (lost is) = iff_false (is_waiting t (standing_at s k)) (IsFirst k) (ap (λ (n : ℕ). is_waiting t (standing_at s n)) is) (λ h. omega (arith, h.0, is))
  wait_at k (inside j l is) = elim (cases_lt j s.waiting) [
    | inl less ↦
        iff_true (is_waiting t (standing_at s k)) (IsFirst k) (ap (λ (n : ℕ). is_waiting t (standing_at s n)) is ∙ ap (is_waiting t) (at_in s j l) ∙ first_wait j less)
        (omega (arith, is), omega (arith, is, less))
    | inr more ↦
        iff_false (is_waiting t (standing_at s k)) (IsFirst k) (ap (λ (n : ℕ). is_waiting t (standing_at s n)) is ∙ ap (is_waiting t) (at_in s j l) ∙ others_end j more)
        (λ h. omega (arith, h.1, is, more))
  ]
  wait_at k (begin is) =
      iff_false (is_waiting t (standing_at s k)) (IsFirst k) (ap (λ (n : ℕ). is_waiting t (standing_at s n)) is ∙ ap (is_waiting t) (at_begin s)) (λ h. omega (arith, h.1, is, few))
  wait_at k (ended is) =
      iff_false (is_waiting t (standing_at s k)) (IsFirst k) (ap (λ (n : ℕ). is_waiting t (standing_at s n)) is ∙ ap (is_waiting t) (at_ended s)) (λ h. omega (arith, h.1, is, few))
  wait_at k (again j l is) =
      iff_false (is_waiting t (standing_at s k)) (IsFirst k) (ap (λ (n : ℕ). is_waiting t (standing_at s n)) is ∙ ap (is_waiting t) (at_again s j l)) (λ h. omega (arith, h.1, is, few))

  -- rows and their numbers are in one order
  later_row : (k n : ℕ) → n ≤ k ↔ (n * (width + 1) ≤ k * (width + 1))
  later_row k n = (
    λ l. mul-le-mul_right (width + 1) l,
    λ l. elim (cases_lt k n) [ inl less ↦ absurd (omega (arith, row_before k n 0 width less (omega arith), l)) | inr more ↦ more ],
  )

  -- the rows that wait are those that are counted
  counted_is : (row : ℕ) (x : Standing) → StandsFor a (standings_of s) row x → IsTrue (is_waiting t x) ↔ IsCounted a row
  counted_is row x (k, at, is) =
      let here = there k x at in
      let told = wait_at k (place_cases s k here.0) in
      subst (λ y. IsTrue (is_waiting t y) ↔ ((0 < row) × (row ≤ s.waiting * (width + 1)))) here.1
      (subst (λ (n : ℕ). IsTrue (is_waiting t (standing_at s k)) ↔ ((0 < n) × (n ≤ s.waiting * (width + 1)))) (sym is) (
        λ h. (let first = told.0 h in (omega (arith, mul-le-mul_right (width + 1) first.0), (later_row s.waiting k).0 first.1)),
        λ h. told.1 (
          elim (cases_lt 0 k) [ inl some ↦ some | inr none ↦ absurd (let zero : k ≡ 0 = omega (arith, none) in omega (arith, ap (λ (n : ℕ). n * (width + 1)) zero, h.0)) ],
          (later_row s.waiting k).1 h.1,
        ),
      ))

  pub ahead_right : IsAheadOf a t
  ahead_right = record {
    standings = standings_of s;
    columns = omega (arith, width_is);
    beyond = λ v l k. omega (arith, class_below t v r.classes, width_is);
    size = rows.size ∙ ap (λ (n : ℕ). n * (width + 1)) (sym (all_standings s));
    begins = (s.live + 1, stands Begin tt, refl);
    leads = λ row x (k, at, is) column l.
        let next = by_column t width x column in
        let among = column_among t s r stride width width_is x column (among_there k x at) l in
        (place_in s next, stands next among, cell_at row k column x at is (omega (arith, l)) ∙ column_cell x column l);
    rules = λ row x (k, at, is). cell_at row k width x at is (omega arith) ∙ rule_cell x;
    told = λ row x (k, at, is). told_there x (among_there k x at);
    ends = λ row x (k, at, is).
        let here = there k x at in
        let told = end_at k (place_cases s k here.0) in
        subst (λ y. IsTrue (is_end y) ↔ ((s.live + 2) * (width + 1) ≤ row)) here.1
        (subst (λ (n : ℕ). IsTrue (is_end (standing_at s k)) ↔ ((s.live + 2) * (width + 1) ≤ n)) (sym is)
        (λ h. (later_row k (s.live + 2)).0 (told.0 h), λ h. told.1 ((later_row k (s.live + 2)).1 h)));
    lost = λ row x (k, at, is).
        let here = there k x at in
        let told = lost_at k (place_cases s k here.0) in
        subst (λ y. IsTrue (is_lost y) ↔ (row ≡ 0)) here.1
        (subst (λ (n : ℕ). IsTrue (is_lost (standing_at s k)) ↔ (n ≡ 0)) (sym is) (
          λ h. (let first = told.0 h in omega (arith, ap (λ (n : ℕ). n * (width + 1)) first)),
          λ h. told.1 (elim (cases_lt 0 k) [ inl some ↦ absurd (omega (arith, mul-le-mul_right (width + 1) some, h)) | inr none ↦ omega (arith, none) ]),
        ));
    waits = λ row x h. (counted_is row x h).1;
    long = λ row x h waits can. (counted_is row x h).0 waits;
  }
