-- A walk along the rows of a table that runs ahead, a character at a time, and what is noted of places from which no match comes.
use Rattle.std.specs.Prelude.{◌≡◌, ◌≢◌, ℕ, zero, suc, ◌+◌, ◌-◌, ◌*◌, ◌/◌, ◌%◌, ◌<◌, ◌≤◌, ◌⊎◌, List, [], ◌∷◌, length, take, drop, slice_index}
use Rattle.std.specs.List.{sum_by}
use Rattle.std.specs.Char.{encode_utf8}
use Rattle.std.specs.Int.{bit_at}
use Rattle.lalrpop_dense.specs.DenseTable.{TableNumbers}
use Rattle.lalrpop_emit.specs.Ahead.{AheadNumbers, IsCounted, character_column, no_rule}
use Rattle.lalrpop_emit.specs.Internal.AheadRows.{IsRowOf}
use Rattle.lalrpop_emit.specs.Internal.Characters.{IsCharacterAt}
use Rattle.lalrpop_emit.specs.Internal.Running.{OfMode}
use Rattle.lalrpop_emit.specs.NumberedRules.{NumberedRules, row_words}

-- the character at the place leads from the row to one in which the same token is open: neither that of `Lost`, at 0, nor that of an end
pub record IsStep (a : AheadNumbers) (t : TableNumbers) (text : List ℕ) (row at row2 at2 : ℕ) : Type 0 where
  pub character : ℕ
  pub here : IsCharacterAt text at character
  pub place : at2 ≡ at + length (encode_utf8 character)
  pub leads : row2 ≡ slice_index a.cells (row + character_column t character)
  pub some : 0 < row2
  pub no_end : row2 < a.ends

-- none does
abbrev pub StopsAt : AheadNumbers → TableNumbers → List ℕ → ℕ → ℕ → Type 0
StopsAt a t text row at = (row2 at2 : ℕ) → ¬ IsStep a t text row at row2 at2

-- from the row at the place on no match ends within `n` characters
abbrev pub NothingWithin : AheadNumbers → TableNumbers → List ℕ → ℕ → ℕ → ℕ → Type 0
NothingWithin a t text zero row at = Unit {0}
NothingWithin a t text (suc n) row at =
    (row2 at2 : ℕ) → IsStep a t text row at row2 at2 → (slice_index a.cells (row2 + a.width) ≡ no_rule) × NothingWithin a t text n row2 at2

-- no match comes
abbrev pub NothingFrom : AheadNumbers → TableNumbers → List ℕ → ℕ → ℕ → Type 0
NothingFrom a t text row at = (n : ℕ) → NothingWithin a t text n row at

-- this number of characters from the start on leads to the row and the place
abbrev pub LeadTo : AheadNumbers → TableNumbers → List ℕ → ℕ → ℕ → ℕ → ℕ → Type 0
LeadTo a t text start zero row at = (row ≡ a.start) × (at ≡ start)
LeadTo a t text start (suc n) row at = (row1 : ℕ) × (at1 : ℕ) × (LeadTo a t text start n row1 at1 × IsStep a t text row1 at1 row at)

-- a walk from the start on ends a match there, or is still at the start
pub record IsLastMatch (a : AheadNumbers) (t : TableNumbers) (text : List ℕ) (start row at : ℕ) : Type 0 where
  pub characters : ℕ
  pub lead : LeadTo a t text start characters row at
  pub matched : 0 < characters → slice_index a.cells (row + a.width) ≢ no_rule

-- a character that begins before a multiple of 64 ends at the place, which is that or lies after it
pub record IsPassed (text : List ℕ) (at : ℕ) : Type 0 where
  pub before : ℕ
  pub character : ℕ
  pub here : IsCharacterAt text before character
  pub place : at ≡ before + length (encode_utf8 character)
  pub passes : before / 64 < at / 64

-- the word of the row and the place: each row but the first has a bit for each 64 bytes of a text of this size
abbrev pub memo_word : AheadNumbers → ℕ → ℕ → ℕ → ℕ
memo_word a size row at = (row / (a.width + 1) - 1) * (size / 4096 + 1) + at / 4096

abbrev pub IsNoted : List ℕ → AheadNumbers → ℕ → ℕ → ℕ → Type 0
IsNoted memo a size row at = bit_at (slice_index memo (memo_word a size row at)) (at / 64 % 64) ≡ 1

-- what is noted holds of the text, wherever a walk began
abbrev pub IsMemoFor : AheadNumbers → TableNumbers → List ℕ → List ℕ → Type 0
IsMemoFor a t text memo = (row at : ℕ) → IsRowOf a row → 0 < row → IsPassed text at → IsNoted memo a (length text) row at → NothingFrom a t text row at

-- ---- what is read in vain, and what pays for it

-- how many of the first k bits are set
abbrev pub set_below : ℕ → ℕ → ℕ
set_below word zero = 0
set_below word (suc k) = bit_at word k + set_below word k

-- how many of the bits of a word are set
unfoldable pub set_bits : ℕ → ℕ
set_bits word = set_below word 64

-- how many are set in all words
abbrev pub noted_count : List ℕ → ℕ
noted_count memo = sum_by set_bits memo

-- the row is one of those that wait long
abbrev pub IsWaitingRow : AheadNumbers → ℕ → Type 0
IsWaitingRow a row = IsRowOf a row × IsCounted a row

-- each row that waits long has its words for a text of this size
abbrev pub IsRoomy : AheadNumbers → ℕ → List ℕ → Type 0
IsRoomy a size memo = a.waiting * row_words size ≤ length memo

-- this number of characters leads on from the row at the place to another
abbrev pub LeadOn : AheadNumbers → TableNumbers → List ℕ → ℕ → ℕ → ℕ → ℕ → ℕ → Type 0
LeadOn a t text row at zero row2 at2 = (row2 ≡ row) × (at2 ≡ at)
LeadOn a t text row at (suc n) row2 at2 = (row1 : ℕ) × (at1 : ℕ) × (LeadOn a t text row at n row1 at1 × IsStep a t text row1 at1 row2 at2)

-- a walk goes on from the row at the place to the end: none leads on from there, or a bit is set there
pub record IsReadTo (a : AheadNumbers) (t : TableNumbers) (text memo : List ℕ) (row at end : ℕ) : Type 0 where
  pub characters : ℕ
  pub row_there : ℕ
  pub lead : LeadOn a t text row at characters row_there end
  pub stop : StopsAt a t text row_there end ⊎ (IsPassed text end × IsNoted memo a (length text) row_there end)

-- this number of characters leads on from the row at the place to the end, and no match ends; before the end none passes where a bit is set for a row that waits long
abbrev pub LeadToEnd : AheadNumbers → TableNumbers → List ℕ → List ℕ → ℕ → ℕ → ℕ → ℕ → Type 0
LeadToEnd a t text memo end zero row at = at ≡ end
LeadToEnd a t text memo end (suc n) row at =
    (row2 : ℕ) × (at2 : ℕ)
    × (IsStep a t text row at row2 at2 × (slice_index a.cells (row2 + a.width) ≡ no_rule)
    × (IsWaitingRow a row2 → at2 < end → at / 64 < at2 / 64 → ¬ IsNoted memo a (length text) row2 at2) × LeadToEnd a t text memo end n row2 at2)

abbrev pub IsInVain : AheadNumbers → TableNumbers → List ℕ → List ℕ → ℕ → ℕ → ℕ → Type 0
IsInVain a t text memo end row at = (n : ℕ) × LeadToEnd a t text memo end n row at

-- a call that looks for the longest match: where that ends, up to where the call read, and the memo as it found it and left it
pub record Call : Type 0 where
  pub last : ℕ
  pub end : ℕ
  pub before : List ℕ
  pub after : List ℕ

-- how many bytes it read in vain
abbrev pub vain : Call → ℕ
vain call = call.end - call.last

-- bits that are new pay for what it read in vain, 64 bytes each, all but the last 192
pub record IsPaid (call : Call) : Type 0 where
  pub behind : call.last ≤ call.end
  pub size : length call.after ≡ length call.before
  pub paid : call.end + 64 * noted_count call.before ≤ call.last + 64 * noted_count call.after + 192

-- the first call finds this memo, and each further one that which the call before it left; each is paid for
abbrev pub ArePaid : List ℕ → List Call → Type 0
ArePaid memo [] = Unit {0}
ArePaid memo (call ∷ calls) = (call.before ≡ memo) × IsPaid call × ArePaid call.after calls

-- the part of a table: the words of its rows that wait long, for a text of this size, after those of the tables before
abbrev pub memo_part : AheadNumbers → ℕ → List ℕ → List ℕ
memo_part a size memo = take (a.waiting * row_words size) (drop (a.before * row_words size) memo)

-- what is noted in the part of each mode holds of the text, by the tables of that mode
abbrev pub IsMemoOf : NumberedRules → List ℕ → List ℕ → Type 0
IsMemoOf n text memo = (mode : ℕ) → OfMode n mode (λ a t. IsMemoFor a t text (memo_part a (length text) memo))
