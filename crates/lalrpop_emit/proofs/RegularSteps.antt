-- In a regular table each column leads from what a row can stand for to what another can.
use Rattle.std.proofs.Common.{◌≡◌, ℕ, ◌<◌, ◌≤◌, ◌+◌, ◌-◌, ◌*◌, ◌^◌, ◌∙◌, inl, inr, Bool, true, false, refl, sym, ap, subst, arith}
use Rattle.std.specs.Prelude.{if◌then◌else◌, nat_lt, ◌==◌, slice_index}
use Rattle.std.proofs.lemmas.Bool.{cases_lt, lt-ltb, ltb-true, ltb-false}
use Rattle.lalrpop_dense.specs.DenseTable.{TableNumbers, character_class}
use Rattle.lalrpop_emit.specs.Ahead.{Standing, Begin, Lost, Ended, In, Again, accepts, by_bad, by_class, by_column, by_within, is_live, led, opened, row_by, within_column}
use Rattle.lalrpop_emit.specs.Internal.Regular.{IsRegular, IsRowStart}
use Rattle.lalrpop_emit.specs.Internal.Standings.{IsAmong, live_row, place_in}
use Rattle.lalrpop_emit.specs.declared.regular_ahead.Shape.{Shape}
use Rattle.lalrpop_emit.proofs.RowLists.{row_before}
use Rattle.lalrpop_emit.proofs.Standings.{at_place}
use Rattle.lalrpop_emit.proofs.Walks.{class_below}

among_if : (s : Shape) (b : Bool) (x y : Standing) → (b ≡ true → IsAmong s x) → (b ≡ false → IsAmong s y) → IsAmong s (if b then x else y)
among_if s true x y first second = first refl
among_if s false x y first second = second refl

live_true : (t : TableNumbers) (row : ℕ) → is_live t row ≡ true → t.live ≤ row
live_true t row e = elim (cases_lt row t.live) [
  | inl less ↦ (let none : false ≡ true = sym (ap (λ (b : Bool). if b then false else true) (lt-ltb row t.live less)) ∙ e in cc)
  | inr more ↦ more
]

module _ (t : TableNumbers) (s : Shape) (r : IsRegular t s.dead (s.dead + s.live)) (stride : s.stride ≡ t.width + 1) where
  live_among : (row : ℕ) → IsRowStart t (s.dead + s.live) row → t.live ≤ row → (k : ℕ) × (k < s.live) × (row ≡ live_row s k)
  live_among row (m, l, is) live = elim (cases_lt m s.dead) [
    | inl dead ↦ absurd (omega (arith, row_before m s.dead 0 t.width dead (omega arith), is, r.live, live))
    | inr more ↦
        let number : m ≡ s.dead + (m - s.dead) = omega (arith, more) in
        (m - s.dead, omega (arith, l, more), is ∙ ap (λ (n : ℕ). m * n) (sym stride) ∙ ap (λ (n : ℕ). n * s.stride) number)
  ]

  live_start : (k : ℕ) → k < s.live → (j : ℕ) × (j < s.dead + s.live) × (live_row s k ≡ j * (t.width + 1))
  live_start k l = (s.dead + k, omega (arith, l), ap (λ (n : ℕ). (s.dead + k) * n) stride)

  led_start : (row class : ℕ) → IsRowStart t (s.dead + s.live) row → class < t.width → IsRowStart t (s.dead + s.live) (row_by t row class)
  led_start row class (j, l, is) small = subst (λ (n : ℕ). IsRowStart t (s.dead + s.live) (slice_index t.cells (n + class))) (sym is) (r.leads j class l small)

  opened_among : (class : ℕ) (none : Standing) → class < t.width → IsAmong s none → IsAmong s (opened t class none)
  opened_among class none small h =
      among_if s (is_live t (row_by t t.start class)) (Again (row_by t t.start class)) none
      (λ e. live_among (row_by t t.start class) (led_start t.start class r.start small) (live_true t (row_by t t.start class) e)) (λ e. h)

  led_among : (row class : ℕ) → IsRowStart t (s.dead + s.live) row → class < t.width → IsAmong s (led t row class)
  led_among row class start small =
      among_if s (is_live t (row_by t row class)) (In (row_by t row class)) (if accepts t row then opened t class Ended else Lost)
      (λ e. live_among (row_by t row class) (led_start row class start small) (live_true t (row_by t row class) e))
      (λ e. among_if s (accepts t row) (opened t class Ended) Lost (λ f. opened_among class Ended small tt) (λ f. tt))

  pub row_start : (row : ℕ) → (k : ℕ) × (k < s.live) × (row ≡ live_row s k) → IsRowStart t (s.dead + s.live) row
  row_start row (k, l, is) = let there = live_start k l in (there.0, there.1, is ∙ there.2)

  class_among : (class : ℕ) (x : Standing) → class < t.width → IsAmong s x → IsAmong s (by_class t class x)
  class_among class Begin small h =
      among_if s (is_live t (row_by t t.start class)) (In (row_by t t.start class)) Lost
      (λ e. live_among (row_by t t.start class) (led_start t.start class r.start small) (live_true t (row_by t t.start class) e)) (λ e. tt)
  class_among class Lost small h = opened_among class Lost small tt
  class_among class Ended small h = opened_among class Lost small tt
  class_among class (In row) small h = led_among row class (row_start row h) small
  class_among class (Again row) small h = led_among row class (row_start row h) small

  within_among : (x : Standing) → IsAmong s x → IsAmong s (by_within x)
  within_among Begin h = tt
  within_among Lost h = tt
  within_among Ended h = tt
  within_among (In row) h = h
  within_among (Again row) h = h

  bad_among : (x : Standing) → IsAmong s x → IsAmong s (by_bad t x)
  bad_among Begin h = tt
  bad_among Lost h = tt
  bad_among Ended h = tt
  bad_among (In row) h = among_if s (accepts t row) Ended Lost (λ e. tt) (λ e. tt)
  bad_among (Again row) h = among_if s (accepts t row) Ended Lost (λ e. tt) (λ e. tt)

  module _ (width : ℕ) (width_is : width ≡ t.width + 130) where
    pub column_among : (x : Standing) (column : ℕ) → IsAmong s x → column < width → IsAmong s (by_column t width x column)
    column_among x column h l =
        among_if s (nat_lt column 128) (by_class t (character_class t column) x)
        (if nat_lt column (within_column width) then by_class t (column - 128) x else (if column == within_column width then by_within x else by_bad t x))
        (λ e. class_among (character_class t column) x (class_below t column r.classes) h)
        (λ e. among_if s (nat_lt column (within_column width)) (by_class t (column - 128) x) (if column == within_column width then by_within x else by_bad t x)
        (λ f. class_among (column - 128) x (omega (arith, ltb-true column (within_column width) f, ltb-false column 128 e, width_is)) h)
        (λ f. among_if s (column == within_column width) (by_within x) (by_bad t x) (λ g. within_among x h) (λ g. bad_among x h)))

    -- the row that stands there is one of those that there are
    pub place_small : (x : Standing) (column : ℕ) → IsAmong s x → column < width → (2 * s.live + 3) * (width + 1) ≤ 2 ^ 30
        → place_in s (by_column t width x column) * (width + 1) + width < 2 ^ 30
    place_small x column h l few =
        let there = (at_place s (by_column t width x column) (omega (arith, stride)) (column_among x column h l)).0 in
        omega (arith, row_before (place_in s (by_column t width x column)) (2 * s.live + 3) width width there (omega arith), few)
