-- cases: proofs/Cases/Ahead.antt
-- A table that runs on past the ends of tokens, a byte at a time: what is known at each place of a text, and where the next byte leads.
use Rattle.std.specs.Prelude.{◌≡◌, ◌≢◌, ℕ, zero, suc, ◌+◌, ◌-◌, ◌*◌, ◌<◌, ◌≤◌, ◌↔◌, ◌==◌, Bool, true, false, IsTrue, List, length, nat_lt, slice_get, slice_index, Option, Some, None, if◌then◌else◌}
use Rattle.std.specs.List.{fold}
use Rattle.lalrpop_dense.specs.DenseTable.{TableNumbers, character_class}
-- what is known at a place: src/standing.rt says what each variant means
pub use Rattle.lalrpop_emit.specs.declared.standing.Standing.{Standing}
pub use Rattle.lalrpop_emit.specs.declared.standing.Standing.TheVariants.{Begin, Lost, Ended, In, Again}

-- ---- columns

-- each character of ASCII has a column of its own; then come those of classes, for the first bytes of other characters
abbrev pub character_column : TableNumbers → ℕ → ℕ
character_column t c = if nat_lt c 128 then c else (128 + character_class t c)

-- the last column but one is that of bytes within a character, and the last that of bytes that begin none
abbrev pub within_column : ℕ → ℕ
within_column width = width - 2

abbrev pub bad_column : ℕ → ℕ
bad_column width = width - 1

-- ---- where a byte leads

-- the row that the class leads to from the row
abbrev pub row_by : TableNumbers → ℕ → ℕ → ℕ
row_by t row class = slice_index t.cells (row + class)

abbrev pub is_live : TableNumbers → ℕ → Bool
is_live t row = if nat_lt row t.live then false else true

abbrev pub accepts : TableNumbers → ℕ → Bool
accepts t row = if nat_lt row t.accept then false else true

-- the class opens a token where one has ended, or where none is open
abbrev pub opened : TableNumbers → ℕ → Standing → Standing
opened t class none = if is_live t (row_by t t.start class) then Again (row_by t t.start class) else none

-- in an open token the class leads on; or the token ends before it; or nothing matches
abbrev pub led : TableNumbers → ℕ → ℕ → Standing
led t row class = if is_live t (row_by t row class) then In (row_by t row class) else (if accepts t row then opened t class Ended else Lost)

abbrev pub by_class : TableNumbers → ℕ → Standing → Standing
by_class t class Begin = if is_live t (row_by t t.start class) then In (row_by t t.start class) else Lost
by_class t class Lost = opened t class Lost
by_class t class Ended = opened t class Lost
by_class t class (In row) = led t row class
by_class t class (Again row) = led t row class

-- a byte within a character leads nowhere new
abbrev pub by_within : Standing → Standing
by_within (In row) = In row
by_within (Again row) = In row
by_within s = Lost

-- a byte that begins no character ends what is open
abbrev pub by_bad : TableNumbers → Standing → Standing
by_bad t (In row) = if accepts t row then Ended else Lost
by_bad t (Again row) = if accepts t row then Ended else Lost
by_bad t s = Lost

abbrev pub by_column : TableNumbers → ℕ → Standing → ℕ → Standing
by_column t width s column =
    if nat_lt column 128 then by_class t (character_class t column) s
    else (if nat_lt column (within_column width) then by_class t (column - 128) s
    else (if column == within_column width then by_within s else by_bad t s))

-- what is known after the columns
abbrev pub standing_after : TableNumbers → ℕ → List ℕ → Standing
standing_after t width columns = fold (λ s column. by_column t width s column) Begin columns

-- a token ended before the last byte
abbrev pub is_end : Standing → Bool
is_end Ended = true
is_end (Again row) = true
is_end s = false

-- no token is open
abbrev pub is_lost : Standing → Bool
is_lost Lost = true
is_lost s = false

-- a token is open, and doesn't end here
abbrev pub is_waiting : TableNumbers → Standing → Bool
is_waiting t (In row) = if accepts t row then false else true
is_waiting t s = false

-- this many characters can follow, after each of which it is so
abbrev pub CanWait : TableNumbers → ℕ → ℕ → Standing → Type 0
CanWait t width zero s = Unit {0}
CanWait t width (suc n) s =
    (column : ℕ) × ((column < within_column width) × (IsTrue (is_waiting t (by_column t width s column)) × CanWait t width n (by_column t width s column)))

-- the rule of the token, if it ends here
abbrev pub rule_at : TableNumbers → Standing → Option ℕ
rule_at t (In row) = if accepts t row then Some (slice_index t.cells (row + t.width)) else None
rule_at t (Again row) = if accepts t row then Some (slice_index t.cells (row + t.width)) else None
rule_at t s = None

-- ---- in numbers

-- where the row of `Begin` begins, how many columns there are, where the first row of an end begins; how many rows wait long, and how many those of
-- the modes before do; and for each row a cell for each column, and one for the rule
pub record AheadNumbers : Type 0 where
  pub start : ℕ
  pub width : ℕ
  pub ends : ℕ
  pub waiting : ℕ
  pub before : ℕ
  pub cells : List ℕ

-- no rule has this number
abbrev pub no_rule : ℕ
no_rule = 65535

abbrev pub rule_number : Option ℕ → ℕ
rule_number None = no_rule
rule_number (Some rule) = rule

-- the row stands for what is known; the list has what each row stands for
abbrev pub StandsFor : AheadNumbers → List Standing → ℕ → Standing → Type 0
StandsFor a standings row s = (k : ℕ) × (slice_get standings k ≡ Some s) × (row ≡ k * (a.width + 1))

-- the row is counted among those that wait long
abbrev pub IsCounted : AheadNumbers → ℕ → Type 0
IsCounted a row = (0 < row) × (row ≤ a.waiting * (a.width + 1))

-- the numbers are those of the table
pub record IsAheadOf (a : AheadNumbers) (t : TableNumbers) : Type 0 where
  pub standings : List Standing
  pub columns : 130 ≤ a.width
  -- each class of a character beyond ASCII has a column
  pub beyond : (c : ℕ) → 128 ≤ c → c < 1114112 → 128 + character_class t c < within_column a.width
  pub size : length a.cells ≡ length standings * (a.width + 1)
  pub begins : StandsFor a standings a.start Begin
  pub leads : (row : ℕ) (s : Standing) → StandsFor a standings row s → (column : ℕ) → column < a.width
      → StandsFor a standings (slice_index a.cells (row + column)) (by_column t a.width s column)
  pub rules : (row : ℕ) (s : Standing) → StandsFor a standings row s → slice_index a.cells (row + a.width) ≡ rule_number (rule_at t s)
  -- no rule has the number of none
  pub told : (row : ℕ) (s : Standing) → StandsFor a standings row s → rule_at t s ≢ Some no_rule
  pub ends : (row : ℕ) (s : Standing) → StandsFor a standings row s → (IsTrue (is_end s) ↔ (a.ends ≤ row))
  -- the row of `Lost` begins at 0
  pub lost : (row : ℕ) (s : Standing) → StandsFor a standings row s → (IsTrue (is_lost s) ↔ (row ≡ 0))
  -- those that are counted come right after it: they wait, and among them are all that can wait for 16 characters more
  pub waits : (row : ℕ) (s : Standing) → StandsFor a standings row s → IsCounted a row → IsTrue (is_waiting t s)
  pub long : (row : ℕ) (s : Standing) → StandsFor a standings row s → IsTrue (is_waiting t s) → CanWait t a.width 16 s → IsCounted a row
