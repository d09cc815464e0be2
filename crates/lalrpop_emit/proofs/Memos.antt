-- What is noted of a text, one bit more at a time.
use Rattle.std.proofs.Common.{◌≡◌, ℕ, zero, suc, ◌+◌, ◌-◌, ◌*◌, ◌/◌, ◌%◌, ◌^◌, ◌<◌, ◌≤◌, ◌⊎◌, inl, inr, List, length, get_or, set, refl, sym, ap, subst, ◌∙◌, arith}
use Rattle.std.specs.Prelude.{slice_index, bit_or}
use Rattle.std.specs.Char.{encode_utf8}
use Rattle.std.specs.Int.{bit_at}
use Rattle.std.proofs.lemmas.Bool.{cases_lt, cases_eq, cond-false, le-ltb}
use Rattle.std.proofs.lemmas.List.{get_or-set_same, get_or-set_other}
use Rattle.std.proofs.lemmas.List.Sums.{sum_by-le, sum_by-set}
use Rattle.std.proofs.Math.Nat.{div-mul-le_self, lt-div-mul-add, lt_of_mul-lt-mul_right, mul-le-mul_right}
use Rattle.std.proofs.lemmas.Nat.{div-mul-add, one_shl}
use Rattle.std.proofs.lemmas.Nat.Bits.{bit_at_or, bit_at-lt, bit_at-pow_other, bit_at-pow_same}
use Rattle.std.proofs.lemmas.Str.{encode_ascii}
use Rattle.lalrpop_dense.specs.DenseTable.{TableNumbers}
use Rattle.lalrpop_emit.specs.Ahead.{AheadNumbers}
use Rattle.lalrpop_emit.specs.Internal.AheadRows.{IsRowOf}
use Rattle.lalrpop_emit.specs.Internal.Characters.{IsCharacterAt}
use Rattle.lalrpop_emit.specs.Internal.Memo.{IsPassed, IsNoted, IsMemoFor, IsRoomy, IsWaitingRow, NothingFrom, memo_word, noted_count, set_below, set_bits}
use Rattle.lalrpop_emit.specs.NumberedRules.{row_words}
use Rattle.lalrpop_emit.proofs.CharacterBytes.{bytes_at, encode_two, encode_three, encode_four, none_first}
use Rattle.lalrpop_emit.proofs.Steps.{same_character, character_fits}
use Rattle.lalrpop_emit.proofs.Walks.{character_size}

-- ---- the place where a walk passes a multiple of 64

none_behind : (text : List ℕ) (at j k m d : ℕ) → k ≡ at + j → at + j < length text → slice_index text (at + j) ≡ 128 + m → m < 64 → ¬ IsCharacterAt text k d
none_behind text at j k m d place within byte small =
    subst (λ (n : ℕ). ¬ IsCharacterAt text n d) (sym place) (none_first text (at + j) within (omega (arith, byte)) (omega (arith, byte, small)) d)

-- no character begins within another
none_within : (text : List ℕ) (at c k d : ℕ) → IsCharacterAt text at c → at < k → k < at + length (encode_utf8 c) → ¬ IsCharacterAt text k d
none_within text at c k d h above below =
    elim (bytes_at text at c (omega (arith, character_fits text at c h, character_size c)) h) [
      | inl one ↦ absurd (omega (arith, above, below, ap length (encode_ascii c one.0)))
      | inr more ↦ elim more [
        | inl b ↦ none_behind text at 1 k (c % 64) d (omega (arith, above, below, ap length (encode_two c b.0 b.1))) b.2 b.4 (omega arith)
        | inr most ↦ elim most [
          | inl b ↦ elim (cases_eq k (at + 1)) [
            | inl first ↦ none_behind text at 1 k ((c / 64) % 64) d first (omega (arith, b.2)) b.4 (omega arith)
            | inr other ↦ none_behind text at 2 k (c % 64) d (omega (arith, above, below, other, ap length (encode_three c b.0 b.1))) b.2 b.5 (omega arith)
          ]
          | inr b ↦ elim (cases_eq k (at + 1)) [
            | inl first ↦ none_behind text at 1 k ((c / 4096) % 64) d first (omega (arith, b.1)) b.3 (omega arith)
            | inr other ↦ elim (cases_eq k (at + 2)) [
              | inl second ↦ none_behind text at 2 k ((c / 64) % 64) d second (omega (arith, b.1)) b.4 (omega arith)
              | inr last ↦ none_behind text at 3 k (c % 64) d (omega (arith, above, below, other, last, ap length (encode_four c b.0))) b.1 b.5 (omega arith)
            ]
          ]
        ]
      ]
    ]

-- each multiple of 64 is passed at one place
passed_same : (text : List ℕ) (at at2 : ℕ) → IsPassed text at → IsPassed text at2 → at / 64 ≡ at2 / 64 → at ≡ at2
passed_same text at at2 p q same = elim (cases_lt p.before q.before) [
  | inl less ↦ absurd (none_within text p.before p.character q.before q.character p.here less (omega (arith, p.place, q.passes, same)) q.here)
  | inr more ↦ elim (cases_lt q.before p.before) [
    | inl less ↦ absurd (none_within text q.before q.character p.before p.character q.here less (omega (arith, q.place, p.passes, same)) p.here)
    | inr less ↦
        let here : p.before ≡ q.before = omega (arith, more, less) in
        let c = same_character text q.before p.character q.character (subst (λ (n : ℕ). IsCharacterAt text n p.character) here p.here) q.here in
        p.place ∙ ap (λ (n : ℕ). n + length (encode_utf8 p.character)) here ∙ ap (λ (c2 : ℕ). q.before + length (encode_utf8 c2)) c ∙ sym q.place
  ]
]

-- ---- the bit of a row and a place

same_parts : (x y z u w : ℕ) → y < w → u < w → x * w + y ≡ z * w + u → (x ≡ z) × (y ≡ u)
same_parts x y z u w small small2 e =
    let first : x ≡ z = sym (div-mul-add x w y small) ∙ ap (λ (n : ℕ). n / w) e ∙ div-mul-add z w u small2 in
    (first, omega (arith, e, ap (λ (n : ℕ). n * w) first))

less_by_product : (k rows w : ℕ) → k * w + w ≤ rows → 0 < w → k < rows / w
less_by_product k rows w fits some = elim (cases_lt k (rows / w)) [
  | inl less ↦ less
  | inr more ↦
      let low : rows / w * w ≤ k * w = mul-le-mul_right w more in
      absurd (omega (arith, low, fits, lt-div-mul-add {a = rows} {b = w} some))
]

row_by_number : (a : AheadNumbers) (row : ℕ) → IsRowOf a row → row ≡ row / (a.width + 1) * (a.width + 1)
row_by_number a row (k, is, within) =
    let number : row / (a.width + 1) ≡ k = ap (λ (n : ℕ). n / (a.width + 1)) (omega (arith, is)) ∙ div-mul-add k (a.width + 1) 0 (omega arith) in
    is ∙ ap (λ (n : ℕ). n * (a.width + 1)) (sym number)

pub row_above : (a : AheadNumbers) (row : ℕ) → IsRowOf a row → 0 < row → a.width < row
row_above a row (zero, is, within) some = absurd (omega (arith, is, some))
row_above a row (suc k, is, within) some = omega (arith, is)

-- only the first row has the number 0
pub number_above : (width row : ℕ) → width < row → 0 < row / (width + 1)
number_above width row above = less_by_product 0 row (width + 1) (omega (arith, above)) (omega arith)

same_place : (a : AheadNumbers) (text : List ℕ) (row at row2 at2 : ℕ) → IsRowOf a row → 0 < row → IsRowOf a row2 → 0 < row2 → IsPassed text at → IsPassed text at2
    → memo_word a (length text) row at ≡ memo_word a (length text) row2 at2 → at / 64 % 64 ≡ at2 / 64 % 64 → (row ≡ row2) × (at ≡ at2)
same_place a text row at row2 at2 is some is2 some2 p p2 word bit =
    let fits = character_fits text p.before p.character p.here in
    let fits2 = character_fits text p2.before p2.character p2.here in
    let parts = same_parts (row / (a.width + 1) - 1) (at / 4096) (row2 / (a.width + 1) - 1) (at2 / 4096) (length text / 4096 + 1) (omega (arith, fits, p.place)) (omega (arith, fits2, p2.place)) word in
    let number : row / (a.width + 1) ≡ row2 / (a.width + 1) = omega (arith, parts.0, number_above a.width row (row_above a row is some), number_above a.width row2 (row_above a row2 is2 some2)) in (
      row_by_number a row is ∙ ap (λ (n : ℕ). n * (a.width + 1)) number ∙ sym (row_by_number a row2 is2),
      passed_same text at at2 p p2 (omega (arith, parts.1, bit)),
    )

-- a bit that is set was set, or is this one
set_bit : (old k i : ℕ) → k < 64 → bit_at (bit_or old (1 * 2 ^ k % 2 ^ 64)) i ≡ 1 → (bit_at old i ≡ 1) ⊎ (i ≡ k)
set_bit old k i small is = elim (cases_eq i k) [
  | inl same ↦ inr same
  | inr other ↦
      let one : 1 * 2 ^ k % 2 ^ 64 ≡ 2 ^ k = one_shl k 64 small in
      inl (omega (arith, is, bit_at_or old (1 * 2 ^ k % 2 ^ 64) i, ap (λ (n : ℕ). bit_at n i) one, bit_at-pow_other k i other))
]

pub memo_more : (a : AheadNumbers) (t : TableNumbers) (text memo : List ℕ) (row at word : ℕ) → IsRowOf a row → 0 < row → IsPassed text at → NothingFrom a t text row at → IsMemoFor a t text memo
    → word ≡ memo_word a (length text) row at → word < length memo
    → IsMemoFor a t text (set memo word (bit_or (get_or memo word 0) (1 * 2 ^ (at / 64 % 64) % 2 ^ 64)))
memo_more a t text memo row at word is some p nothing right word_is within row2 at2 is2 some2 p2 noted =
    let bits = bit_or (get_or memo word 0) (1 * 2 ^ (at / 64 % 64) % 2 ^ 64) in
    let word2 = memo_word a (length text) row2 at2 in
    elim (cases_eq word2 word) [
      | inl same ↦
          let there : bit_at bits (at2 / 64 % 64) ≡ 1 =
          ap (λ (n : ℕ). bit_at n (at2 / 64 % 64)) (sym (get_or-set_same memo word bits 0 within) ∙ ap (slice_index (set memo word bits)) (sym same)) ∙ noted in
          elim (set_bit (get_or memo word 0) (at / 64 % 64) (at2 / 64 % 64) (omega arith) there) [
            | inl old ↦ right row2 at2 is2 some2 p2 (ap (λ (n : ℕ). bit_at (slice_index memo n) (at2 / 64 % 64)) same ∙ old)
            | inr bit ↦
                let place = same_place a text row at row2 at2 is some is2 some2 p p2 (sym word_is ∙ sym same) (sym bit) in
                subst (λ (r : ℕ). NothingFrom a t text r at2) place.0 (subst (NothingFrom a t text row) place.1 nothing)
          ]
      | inr other ↦ right row2 at2 is2 some2 p2 (ap (λ (n : ℕ). bit_at n (at2 / 64 % 64)) (sym (get_or-set_other memo word word2 bits 0 other)) ∙ noted)
    ]

-- ---- what is set by one bit more

module _ (a : AheadNumbers) (text memo : List ℕ) (row at word : ℕ) (is : IsRowOf a row) (some : 0 < row) (p : IsPassed text at) (word_is : word ≡ memo_word a (length text) row at) (within : word < length memo) where
  abbrev old_word : ℕ
  old_word = get_or memo word 0

  abbrev new_word : ℕ
  new_word = bit_or old_word (1 * 2 ^ (at / 64 % 64) % 2 ^ 64)

  pub noted_others : (row2 at2 : ℕ) → IsRowOf a row2 → 0 < row2 → IsPassed text at2 → IsNoted (set memo word new_word) a (length text) row2 at2 → IsNoted memo a (length text) row2 at2 ⊎ (at2 ≡ at)
  noted_others row2 at2 is2 some2 p2 noted =
      let word2 = memo_word a (length text) row2 at2 in
      elim (cases_eq word2 word) [
        | inl same ↦
            let there : bit_at new_word (at2 / 64 % 64) ≡ 1 =
            ap (λ (n : ℕ). bit_at n (at2 / 64 % 64)) (sym (get_or-set_same memo word new_word 0 within) ∙ ap (slice_index (set memo word new_word)) (sym same)) ∙ noted in
            elim (set_bit old_word (at / 64 % 64) (at2 / 64 % 64) (omega arith) there) [
              | inl old ↦ inl (ap (λ (n : ℕ). bit_at (slice_index memo n) (at2 / 64 % 64)) same ∙ old)
              | inr bit ↦ inr (sym (same_place a text row at row2 at2 is some is2 some2 p p2 (sym word_is ∙ sym same) (sym bit)).1)
            ]
        | inr other ↦ inl (ap (λ (n : ℕ). bit_at n (at2 / 64 % 64)) (sym (get_or-set_other memo word word2 new_word 0 other)) ∙ noted)
      ]

  pub count_by_word : noted_count (set memo word new_word) + set_bits old_word ≡ noted_count memo + set_bits new_word
  count_by_word = sum_by-set set_bits memo word new_word 0 within

-- the bit k is set too
bits_more : (old k j : ℕ) → k < 64 → set_below old j ≤ set_below (bit_or old (1 * 2 ^ k % 2 ^ 64)) j
bits_more old k zero small = omega arith
bits_more old k (suc j) small = omega (arith, bits_more old k j small, bit_at_or old (1 * 2 ^ k % 2 ^ 64) j)

same_below : (old k j : ℕ) → k < 64 → j ≤ k → set_below (bit_or old (1 * 2 ^ k % 2 ^ 64)) j ≡ set_below old j
same_below old k zero small l = refl
same_below old k (suc j) small l =
    let one : 1 * 2 ^ k % 2 ^ 64 ≡ 2 ^ k = one_shl k 64 small in
    omega (arith, same_below old k j small (omega (arith, l)), bit_at_or old (1 * 2 ^ k % 2 ^ 64) j, ap (λ (n : ℕ). bit_at n j) one, bit_at-pow_other k j (λ e. omega (arith, e, l)))

one_above : (old k j : ℕ) → k < 64 → bit_at old k ≡ 0 → k < j → set_below (bit_or old (1 * 2 ^ k % 2 ^ 64)) j ≡ set_below old j + 1
one_above old k zero small clear l = absurd (omega (arith, l))
one_above old k (suc j) small clear l =
    let one : 1 * 2 ^ k % 2 ^ 64 ≡ 2 ^ k = one_shl k 64 small in
    let bit = bit_at_or old (1 * 2 ^ k % 2 ^ 64) j in
    elim (cases_lt k j) [
      | inl less ↦ omega (arith, one_above old k j small clear less, bit, ap (λ (n : ℕ). bit_at n j) one, bit_at-pow_other k j (λ e. omega (arith, e, less)))
      | inr more ↦
          let same : j ≡ k = omega (arith, l, more) in
          let here : bit_at (bit_or old (1 * 2 ^ k % 2 ^ 64)) j ≡ 1 =
          ap (bit_at (bit_or old (1 * 2 ^ k % 2 ^ 64))) same ∙ bit_at_or old (1 * 2 ^ k % 2 ^ 64) k
          ∙ omega (arith, clear, ap (λ (n : ℕ). bit_at n k) one, bit_at-pow_same k) in
          let none : bit_at old j ≡ 0 = ap (bit_at old) same ∙ clear in
          omega (arith, here, none, same_below old k j small (omega (arith, same)))
    ]

set_bits_more : (old k : ℕ) → k < 64 → set_bits old ≤ set_bits (bit_or old (1 * 2 ^ k % 2 ^ 64))
unfolding set_bits
set_bits_more old k small = bits_more old k 64 small

set_bits_one : (old k : ℕ) → k < 64 → bit_at old k ≡ 0 → set_bits (bit_or old (1 * 2 ^ k % 2 ^ 64)) ≡ set_bits old + 1
unfolding set_bits
set_bits_one old k small clear = one_above old k 64 small clear small

module _ (a : AheadNumbers) (text memo : List ℕ) (row at word : ℕ) (is : IsRowOf a row) (some : 0 < row) (p : IsPassed text at) (word_is : word ≡ memo_word a (length text) row at) (within : word < length memo) where
  abbrev more_noted : List ℕ
  more_noted = set memo word (bit_or (get_or memo word 0) (1 * 2 ^ (at / 64 % 64) % 2 ^ 64))

  pub count_more : noted_count memo ≤ noted_count more_noted
  count_more = omega (arith, count_by_word a text memo row at word is some p word_is within, set_bits_more (get_or memo word 0) (at / 64 % 64) (omega arith))

  pub count_one : ¬ IsNoted memo a (length text) row at → noted_count more_noted ≡ noted_count memo + 1
  count_one clear =
      let same : bit_at (get_or memo word 0) (at / 64 % 64) ≡ bit_at (slice_index memo (memo_word a (length text) row at)) (at / 64 % 64) =
      ap (λ (n : ℕ). bit_at (slice_index memo n) (at / 64 % 64)) word_is in
      let none : bit_at (get_or memo word 0) (at / 64 % 64) ≡ 0 =
      elim (cases_eq (bit_at (get_or memo word 0) (at / 64 % 64)) 1) [
        | inl set_is ↦ absurd (clear (sym same ∙ set_is))
        | inr other ↦ omega (arith, other, bit_at-lt (get_or memo word 0) (at / 64 % 64))
      ] in
      omega (arith, count_by_word a text memo row at word is some p word_is within, set_bits_one (get_or memo word 0) (at / 64 % 64) (omega arith) none)

-- ---- room

pub words_of_row : (size : ℕ) → 64 ≤ size → row_words size ≡ size / 4096 + 1
words_of_row size large = cond-false _ 0 (size / 4096 + 1) (le-ltb size 64 large)

has_room : (number waiting each words : ℕ) → 0 < number → number ≤ waiting → 0 < each → waiting * each ≤ words → number - 1 < words / each
has_room zero waiting each words some few least fits = absurd (omega (arith, some))
has_room (suc k) waiting each words some few least fits =
    let all : (k + 1) * each ≤ waiting * each = mul-le-mul_right each (omega (arith, few)) in
    let below : k < words / each = less_by_product k words each (omega (arith, all, fits)) least in
    omega (arith, below)

-- a row that waits has words of its own
pub row_has_room : (a : AheadNumbers) (size : ℕ) (memo : List ℕ) (row : ℕ) → 64 ≤ size → IsWaitingRow a row → IsRoomy a size memo
    → row / (a.width + 1) - 1 < length memo / (size / 4096 + 1)
row_has_room a size memo row large (is, (some, within)) roomy =
    let number = row / (a.width + 1) in
    let below : number * (a.width + 1) < (a.waiting + 1) * (a.width + 1) = omega (arith, within, row_by_number a row is) in
    let few : number < a.waiting + 1 = lt_of_mul-lt-mul_right (a.width + 1) below in
    let fits : a.waiting * (size / 4096 + 1) ≤ length memo = subst (λ (n : ℕ). a.waiting * n ≤ length memo) (words_of_row size large) roomy in
    has_room number a.waiting (size / 4096 + 1) (length memo) (number_above a.width row (row_above a row is some)) (omega (arith, few)) (omega arith) fits

-- so then the memo isn't empty
pub some_room : (a : AheadNumbers) (size : ℕ) (memo : List ℕ) (row : ℕ) → 64 ≤ size → IsWaitingRow a row → IsRoomy a size memo → 0 < length memo
some_room a size memo row large waits roomy =
    let there = row_has_room a size memo row large waits roomy in
    let all : 1 * (size / 4096 + 1) ≤ length memo / (size / 4096 + 1) * (size / 4096 + 1) = mul-le-mul_right (size / 4096 + 1) (omega (arith, there)) in
    omega (arith, all, div-mul-le_self (length memo) (size / 4096 + 1))

-- ---- no more bits than 64 for each word

below_most : (word k : ℕ) → set_below word k ≤ k
below_most word zero = omega arith
below_most word (suc k) = omega (arith, below_most word k, bit_at-lt word k)

bits_most : (word : ℕ) → set_bits word ≤ 64
unfolding set_bits
bits_most word = below_most word 64

pub noted_most : (memo : List ℕ) → noted_count memo ≤ length memo * 64
noted_most memo = sum_by-le set_bits 64 memo (λ k d within. bits_most _)
