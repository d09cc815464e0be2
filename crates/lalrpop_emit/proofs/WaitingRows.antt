-- A character after which no match ends, but the token is open, leads to a row that waits; and if many more lead on so, to one that waits long.
use Rattle.std.proofs.Common.{◌≡◌, ◌≢◌, ℕ, zero, suc, ◌+◌, ◌<◌, ◌≤◌, Bool, true, false, List, refl, sym, ap, subst, ◌∙◌, arith}
use Rattle.std.specs.Prelude.{slice_index, IsTrue, Some, None, if◌then◌else◌}
use Rattle.lalrpop_dense.specs.DenseTable.{TableNumbers, character_class}
use Rattle.lalrpop_emit.specs.Ahead.{AheadNumbers, CanWait, IsAheadOf, Standing, StandsFor, accepts, by_class, by_column, character_column, is_end, is_lost, is_waiting, led, no_rule, opened, row_by, rule_at, rule_number, within_column}
use Rattle.lalrpop_emit.specs.Ahead.Standing.{Begin, Lost, Ended, In, Again}
use Rattle.lalrpop_emit.specs.Internal.AheadRows.{IsRowOf}
use Rattle.lalrpop_emit.specs.Internal.Memo.{IsStep, IsWaitingRow, LeadToEnd}
use Rattle.lalrpop_emit.proofs.AheadColumns.{by_character, has_columns}
use Rattle.lalrpop_emit.proofs.AheadPlaces.{by_size}
use Rattle.lalrpop_emit.proofs.AheadRows.{standing_of}
use Rattle.lalrpop_emit.proofs.Steps.{column_below, column_few, step_row}

-- ---- no character leads back to the beginning

abbrev is_begin : Standing → Bool
is_begin Begin = true
is_begin s = false

opened_on : (t : TableNumbers) (class : ℕ) (none : Standing) → is_begin none ≡ false → is_begin (opened t class none) ≡ false
opened_on t class none e = by_size (λ s. is_begin s ≡ false) t.live (row_by t t.start class) _ _ (λ live. refl) (λ dead. e)

led_on : (t : TableNumbers) (row class : ℕ) → is_begin (led t row class) ≡ false
led_on t row class =
    by_size (λ s. is_begin s ≡ false) t.live (row_by t row class) _ _ (λ live. refl)
    (λ dead. by_size (λ s. is_begin s ≡ false) t.accept row _ _ (λ accept. opened_on t class Ended refl) (λ less. refl))

class_on : (t : TableNumbers) (class : ℕ) (s : Standing) → is_begin (by_class t class s) ≡ false
class_on t class Begin = by_size (λ s. is_begin s ≡ false) t.live (row_by t t.start class) _ _ (λ live. refl) (λ dead. refl)
class_on t class Lost = opened_on t class Lost refl
class_on t class Ended = opened_on t class Lost refl
class_on t class (In row) = led_on t row class
class_on t class (Again row) = led_on t row class

-- ---- a row without a rule

waits_by : (ends : Bool) (rule : ℕ) → (if ends then Some rule else None) ≢ Some no_rule → rule_number (if ends then Some rule else None) ≡ no_rule → (if ends then false else true) ≡ true
waits_by true rule told none = absurd (told (ap (λ (n : ℕ). Some n) none))
waits_by false rule told none = refl

waits_there : (t : TableNumbers) (s : Standing) → is_begin s ≡ false → ¬ IsTrue (is_lost s) → ¬ IsTrue (is_end s) → rule_at t s ≢ Some no_rule → rule_number (rule_at t s) ≡ no_rule
    → IsTrue (is_waiting t s)
waits_there t Begin begun lost end told none = absurd (cc)
waits_there t Lost begun lost end told none = absurd (lost refl)
waits_there t Ended begun lost end told none = absurd (end refl)
waits_there t (In row) begun lost end told none = waits_by (accepts t row) (slice_index t.cells (row + t.width)) told none
waits_there t (Again row) begun lost end told none = absurd (end refl)

-- what the row of a step in vain stands for
record IsWaitingAt (a : AheadNumbers) (t : TableNumbers) (h : IsAheadOf a t) (s next : Standing) (row : ℕ) : Type 0 where
  column : ℕ
  few : column < within_column a.width
  leads : next ≡ by_column t a.width s column
  stands : StandsFor a h.standings row next
  waits : IsTrue (is_waiting t next)

step_waits : (a : AheadNumbers) (t : TableNumbers) (h : IsAheadOf a t) (text : List ℕ) (row at row2 at2 : ℕ) (from : Standing) → StandsFor a h.standings row from → IsStep a t text row at row2 at2
    → slice_index a.cells (row2 + a.width) ≡ no_rule → (next : Standing) × IsWaitingAt a t h from next row2
step_waits a t h text row at row2 at2 from here s none =
    let column = character_column t s.character in
    let class_led = by_class t (character_class t s.character) from in
    let there = by_column t a.width from column in
    let few = column_few a t s.character h s.here.scalar in
    let led : StandsFor a h.standings row2 there = subst (λ (r : ℕ). StandsFor a h.standings r there) (sym s.leads) (h.leads row from here column (column_below a t s.character h s.here.scalar)) in
    let same : there ≡ class_led = by_character t a.width from column s.character (has_columns a t h) s.here.scalar refl in
    let stands : StandsFor a h.standings row2 class_led = subst (StandsFor a h.standings row2) same led in
    let waits =
    waits_there t class_led (class_on t (character_class t s.character) from) (λ lost. omega (arith, s.some, (h.lost row2 class_led stands).0 lost))
    (λ end. omega (arith, s.no_end, (h.ends row2 class_led stands).0 end)) (h.told row2 class_led stands) (sym (h.rules row2 class_led stands) ∙ none) in
    (there, record { column = column; few = few; leads = refl; stands = led; waits = subst (λ (x : Standing). IsTrue (is_waiting t x)) (sym same) waits })

-- what is led to in vain can wait as long as the way is
can_wait : (a : AheadNumbers) (t : TableNumbers) (h : IsAheadOf a t) (text memo : List ℕ) (end n m row at : ℕ) (s : Standing) → StandsFor a h.standings row s
    → LeadToEnd a t text memo end n row at → m ≤ n → CanWait t a.width m s
can_wait a t h text memo end n zero row at s here lead few = tt
can_wait a t h text memo end zero (suc m) row at s here lead few = absurd (omega (arith, few))
can_wait a t h text memo end (suc n) (suc m) row at s here (row2, at2, (step, none, clear, rest)) few =
    let next = step_waits a t h text row at row2 at2 s here step none in
    let is = next.1 in
    let further = can_wait a t h text memo end n m row2 at2 next.0 is.stands rest (omega (arith, few)) in
    (is.column, (is.few, subst (λ (x : Standing). IsTrue (is_waiting t x) × CanWait t a.width m x) is.leads (is.waits, further)))

-- a step after which 16 more lead on in vain is one to a row that waits long
pub waits_long : (a : AheadNumbers) (t : TableNumbers) → IsAheadOf a t → (text memo : List ℕ) (end n row at row2 at2 : ℕ) → IsRowOf a row → IsStep a t text row at row2 at2
    → slice_index a.cells (row2 + a.width) ≡ no_rule → LeadToEnd a t text memo end n row2 at2 → 16 ≤ n → IsWaitingRow a row2
waits_long a t h text memo end n row at row2 at2 is step none rest long =
    let here = standing_of a t h row is in
    let next = step_waits a t h text row at row2 at2 here.0 here.1 step none in
    (step_row a t text row at row2 at2 step h is, h.long row2 next.0 next.1.stands next.1.waits (can_wait a t h text memo end n 16 row2 at2 next.0 next.1.stands rest long))
