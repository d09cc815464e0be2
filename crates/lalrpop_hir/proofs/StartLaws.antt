-- A character has one byte with which it begins.
use Rattle.std.proofs.Common.{◌≡◌, ℕ, ◌+◌, ◌/◌, ◌%◌, ◌<◌, ◌≤◌, inl, inr, List, [], ◌∷◌, length, if◌then◌else◌, refl, ap, subst, ◌∙◌, arith, lt-ltb, le-ltb}
use Rattle.std.specs.List.{count_by}
use Rattle.std.specs.Str.{chars, IsUtf8}
use Rattle.std.proofs.Math.Utf8.{encode, encodes}
use Rattle.std.proofs.lemmas.Bool.{cases_lt}
use Rattle.std.proofs.lemmas.Bool.Decides.{nat_tests}
use Rattle.std.proofs.lemmas.List.Sums.{sum_by-append, sum_by-cons}
use Rattle.std.proofs.lemmas.Str.{chars_from_encodes, encodes-chars, length-le-encodes}
use Rattle.lalrpop_hir.specs.Starts.{is_start}

-- how many characters begin with the byte: one or none
abbrev started : ℕ → ℕ
started b = if is_start b then 1 else 0

pub follows : (x : ℕ) → started (128 + x % 64) ≡ 0
follows x = grind (arith, nat_tests)

pub begins : (b : ℕ) → 192 ≤ b → started b ≡ 1
begins b h = grind (arith, nat_tests)

pub begins_low : (b : ℕ) → b < 128 → started b ≡ 1
begins_low b h = grind (arith, nat_tests)

first : (b : ℕ) (bs : List ℕ) → count_by is_start (b ∷ bs) ≡ started b + count_by is_start bs
first b bs = sum_by-cons started b bs

pub encode_one : (c : ℕ) → c < 128 → encode c ≡ c ∷ []
unfolding encode
encode_one c l = rw (lt-ltb c 128 l) refl

pub encode_two : (c : ℕ) → 128 ≤ c → c < 2048 → encode c ≡ (192 + c / 64) ∷ (128 + c % 64) ∷ []
unfolding encode
encode_two c l h = rw (le-ltb c 128 l, lt-ltb c 2048 h) refl

pub encode_three : (c : ℕ) → 2048 ≤ c → c < 65536 → encode c ≡ (224 + c / 4096) ∷ (128 + c / 64 % 64) ∷ (128 + c % 64) ∷ []
unfolding encode
encode_three c l h = rw (le-ltb c 128 (omega arith), le-ltb c 2048 l, lt-ltb c 65536 h) refl

pub encode_four : (c : ℕ) → 65536 ≤ c → encode c ≡ (240 + c / 262144) ∷ (128 + c / 4096 % 64) ∷ (128 + c / 64 % 64) ∷ (128 + c % 64) ∷ []
unfolding encode
encode_four c l = rw (le-ltb c 128 (omega arith), le-ltb c 2048 (omega arith), le-ltb c 65536 l) refl

one_start : (c : ℕ) → count_by is_start (encode c) ≡ 1
one_start c =
    elim (cases_lt c 128) [
      | inl low ↦ ap (count_by is_start) (encode_one c low) ∙ omega (arith, first c [], begins_low c low)
      | inr high ↦ elim (cases_lt c 2048) [
        | inl two ↦ ap (count_by is_start) (encode_two c high two)
            ∙ omega (arith, first (192 + c / 64) ((128 + c % 64) ∷ []), first (128 + c % 64) [], begins (192 + c / 64) (omega arith), follows c)
        | inr more ↦ elim (cases_lt c 65536) [
          | inl three ↦ ap (count_by is_start) (encode_three c more three)
              ∙ omega (
                arith,
                first (224 + c / 4096) ((128 + c / 64 % 64) ∷ (128 + c % 64) ∷ []),
                first (128 + c / 64 % 64) ((128 + c % 64) ∷ []),
                first (128 + c % 64) [],
                begins (224 + c / 4096) (omega arith),
                follows (c / 64),
                follows c,
              )
          | inr four ↦ ap (count_by is_start) (encode_four c four)
              ∙ omega (
                arith,
                first (240 + c / 262144) ((128 + c / 4096 % 64) ∷ (128 + c / 64 % 64) ∷ (128 + c % 64) ∷ []),
                first (128 + c / 4096 % 64) ((128 + c / 64 % 64) ∷ (128 + c % 64) ∷ []),
                first (128 + c / 64 % 64) ((128 + c % 64) ∷ []),
                first (128 + c % 64) [],
                begins (240 + c / 262144) (omega arith),
                follows (c / 4096),
                follows (c / 64),
                follows c,
              )
        ]
      ]
    ]

all_starts : (cs : List ℕ) → count_by is_start (encodes cs) ≡ length cs
all_starts [] = refl
all_starts (c ∷ cs) = omega (arith, sum_by-append started (encode c) (encodes cs), one_start c, all_starts cs)

pub count_starts : (bs : List ℕ) → IsUtf8 bs → count_by is_start bs ≡ length (chars bs)
count_starts bs u =
    let same : u.0 ≡ chars bs = chars_from_encodes u.0 bs u u.1.1 in
    subst (λ (xs : List ℕ). count_by is_start xs ≡ length (chars bs)) u.1.1 (all_starts u.0 ∙ ap length same)

-- a text has no more characters than bytes
pub few_chars : (text : List ℕ) → IsUtf8 text → length (chars text) ≤ length text
few_chars text u = omega (arith, length-le-encodes (chars text), ap length (encodes-chars text u))
