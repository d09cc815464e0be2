-- cases: proofs/Cases/Walking.antt
-- A walk along an automaton, by its table if it has one.
use Rattle.std.specs.Prelude.{◌≡◌, ℕ, ◌+◌, ◌*◌, ◌<◌, List, [], ◌∷◌, ◌++◌, length, drop, nat_lt, if◌then◌else◌, Option, Some, None, slice_get, slice_index, IsSomeAnd}
use Rattle.std.specs.Char.{encode_utf8}
use Rattle.std.specs.List.{All}
use Rattle.lalrpop_dfa.specs.Dfa.{Row, IsWellFormed, step, after}
use Rattle.lalrpop_dfa.specs.declared.Kind.{Kind}
use Rattle.lalrpop_dfa.specs.declared.Kind.TheVariants.{Accepts, Reject, Neither}
use Rattle.lalrpop_dense.specs.DenseTable.{TableNumbers, IsTableFor, table_numbers, next_row}
use Rattle.bajofeki.specs.declared.walker.Walker.{Walker}
use Rattle.bajofeki.specs.declared.walker.Walker.TheVariants.{Table, States}

-- the place where each walk begins
abbrev pub first_of : Walker → ℕ
first_of (Table t) = t.start
first_of (States d) = 0

-- the place that the character leads to
abbrev pub next_of : Walker → ℕ → ℕ → ℕ
next_of (Table t) place c = next_row (table_numbers t) place c
next_of (States d) place c = step d.now place c

-- the place that the characters lead to from this one, one after another
abbrev pub behind_from : Walker → ℕ → List ℕ → ℕ
behind_from w place [] = place
behind_from w place (c ∷ word) = behind_from w (next_of w place c) word

-- the character of the text between these bytes leads from the one place to the other
pub record Reads (w : Walker) (text : List ℕ) (place at place2 at2 : ℕ) : Type 0 where
  pub character : ℕ
  pub split : drop at text ≡ encode_utf8 character ++ drop at2 text
  pub size : at2 ≡ at + length (encode_utf8 character)
  pub leads : place2 ≡ next_of w place character

-- the place that the word leads to
abbrev pub behind : Walker → List ℕ → ℕ
behind w word = behind_from w (first_of w) word

-- a row is dead, does not accept, or accepts the pattern that its last cell holds
abbrev pub row_says : TableNumbers → ℕ → Kind
row_says t row = if nat_lt row t.live then Reject else if nat_lt row t.accept then Neither else Accepts (slice_index t.cells (row + t.width))

-- a state says its kind
abbrev pub state_says : Option Row → Kind
state_says None = Reject
state_says (Some r) = r.kind

-- what the place says of the words that lead to it
abbrev pub says : Walker → ℕ → Kind
says (Table t) place = row_says (table_numbers t) place
says (States d) place = state_says (slice_get d.now place)

-- the numbers are those of the table of some automaton, and the states are those of one
abbrev pub IsRight : Walker → Type 0
IsRight (Table t) = (d : List Row) × IsTableFor (table_numbers t) d
IsRight (States d) = IsWellFormed d.now

-- some word of characters leads to the place
pub record IsMet (w : Walker) (place : ℕ) : Type 0 where
  pub word : List ℕ
  pub scalars : All (λ c. c < 1114112) word
  pub reached : place ≡ behind w word

-- after each word of characters the walk says what the automaton says
abbrev pub IsWalkerOf : Walker → List Row → Type 0
IsWalkerOf w d = (word : List ℕ) → All (λ c. c < 1114112) word → IsSomeAnd (slice_get d (after d word)) (λ r. r.kind ≡ says w (behind w word))

-- words that lead to one state of the automaton lead the walk to one place
abbrev pub HasOnePlace : Walker → List Row → Type 0
HasOnePlace w d = (u v : List ℕ) → All (λ c. c < 1114112) u → All (λ c. c < 1114112) v → after d u ≡ after d v → behind w u ≡ behind w v

-- where the character at this offset leads to from the row, in a page with this block
abbrev pub cell_of_block : TableNumbers → ℕ → ℕ → ℕ → ℕ
cell_of_block t row block offset = slice_index t.cells (row + slice_index t.blocks (block * 128 + offset))
