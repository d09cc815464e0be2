-- cases: proofs/Cases/Terminal.antt
-- A text in colours for a terminal, and the text of such a page.
use Rattle.std.specs.Prelude.{◌≡◌, ℕ, ◌+◌, ◌-◌, ◌%◌, Bool, true, false, not, List, [], ◌∷◌, ◌++◌, Option, Some, None, codes, chars, encode_utf8, flat_map, slice_get, if◌then◌else◌, ◌==◌, ◌||◌, ◌&&◌, nat_lt}
use Rattle.std.specs.Char.{is_control}
use Rattle.std.specs.List.{position_or_len}
use Rattle.std.specs.Str.{bytes_eq}
use Rattle.std.specs.Str.Parse.{IsNumeral}
use Rattle.lalrpop_rules.specs.declared.piece.Piece.{Piece}
use Rattle.lalrpop_rules.specs.declared.piece.Piece.TheVariants.{Token, Skipped, Fault}

-- ---- writing

-- an escape sequence: the character ESC, 27, and then `[`, parameters and `m`
abbrev pub sequence : List ℕ → List ℕ
sequence parameters = 27 ∷ 91 ∷ (parameters ++ codes "m")

-- one whose parameters are a decimal number
abbrev pub IsSequence : List ℕ → Type 0
IsSequence text = (number : List ℕ) × ((text ≡ sequence number) × IsNumeral 10 number)

-- ends every colour
abbrev pub reset : List ℕ
reset = sequence (codes "0")

-- a control character that must not be sent to a terminal: any but the newline and the tab
abbrev pub is_hidden : ℕ → Bool
is_hidden c = is_control c && not (c == 10 || c == 9)

-- its two letters: below 128, `^` and the character whose code value is 64 more, modulo 128; from 128 on, `~` and the one 64 less
abbrev pub sign : ℕ → ℕ
sign c = if nat_lt c 128 then 94 else 126

abbrev pub letter : ℕ → ℕ
letter c = if nat_lt c 128 then (c + 64) % 128 else c - 64

-- a character as it is shown: itself, or its two letters in reverse video
abbrev pub visible : ℕ → List ℕ
visible c = if is_hidden c then sequence (codes "7") ++ (sign c ∷ letter c ∷ sequence (codes "27")) else encode_utf8 c

-- and in colour: no colour runs past the end of a line
abbrev pub visible_in : List ℕ → ℕ → List ℕ
visible_in colour c = if c == 10 then reset ++ (10 ∷ sequence colour) else visible c

abbrev pub coloured : List ℕ → List ℕ → List ℕ
coloured colour text = sequence colour ++ (flat_map (visible_in colour) (chars text) ++ reset)

-- the colours 31 to 36 in turn, by the index of the first rule with this name
abbrev pub colour_of : List (List ℕ) → List ℕ → List ℕ
colour_of names name = 51 ∷ (49 + position_or_len (bytes_eq name) names % 6) ∷ []

-- a text in the colour of a name, if there is one
abbrev pub by_name : List (List ℕ) → Option (List ℕ) → List ℕ → List ℕ
by_name names None text = flat_map visible (chars text)
by_name names (Some name) text = coloured (colour_of names name) text

-- a piece of a text: a token in the colour of its rule, or a fault on red, 41
abbrev pub painted : List (List ℕ) → Piece → List ℕ
painted names (Token token) = by_name names (slice_get names token.index) token.slice.now
painted names (Skipped token) = flat_map visible (chars token.slice.now)
painted names (Fault start slice) = coloured (codes "41") slice.now

-- ---- reading: the text of a page is what is outside sequences, with control characters in place of their letters

-- the bytes of the control character with these letters
abbrev pub hidden_of : ℕ → ℕ → List ℕ
hidden_of s l = if s == 94 then encode_utf8 ((l + 64) % 128) else encode_utf8 (l + 64)

abbrev mutual
  -- outside a sequence: ESC begins one
  pub unpainted : List ℕ → List ℕ
  unpainted [] = []
  unpainted (b ∷ bs) = elim (b == 27) [ true ↦ within [] bs | false ↦ b ∷ unpainted bs ]

  -- within a sequence that is this so far, and which `m` ends; `[7` begins two letters
  pub within : List ℕ → List ℕ → List ℕ
  within so_far [] = []
  within so_far (b ∷ bs) = elim (b == 109) [ true ↦ elim (bytes_eq so_far (codes "[7")) [ true ↦ two_letters bs | false ↦ unpainted bs ] | false ↦ within (so_far ++ b ∷ []) bs ]

  pub two_letters : List ℕ → List ℕ
  two_letters [] = []
  two_letters (s ∷ []) = []
  two_letters (s ∷ l ∷ bs) = hidden_of s l ++ unpainted bs
