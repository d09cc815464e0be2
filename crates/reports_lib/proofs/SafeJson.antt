-- Lines of JSON are safe to show, whatever they tell of.
use Rattle.std.proofs.Common.{◌≡◌, ◌≢◌, ℕ, zero, suc, ◌+◌, ◌-◌, ◌/◌, ◌%◌, ◌<◌, ◌≤◌, ◌⊎◌, inl, inr, Bool, true, false, List, [], ◌∷◌, ◌++◌, length, take, drop, Option, Some, None, flat_map, codes, IsUtf8, refl, subst, arith}
use Rattle.std.specs.Prelude.{nat_lt, ◌==◌, if◌then◌else◌, unwrap_or, slice_index}
use Rattle.std.specs.Char.{IsScalar, encode_utf8}
use Rattle.std.specs.Char.Escape.{encode_utf16, hex_digit_at}
use Rattle.std.specs.Int.{is_in_range}
use Rattle.std.specs.Str.{chars, all_scalars, is_utf8}
use Rattle.std.specs.Str.Lossy.{after_first_chunk, error_len_after_one, error_len_after_two, replacement_bytes, second_byte_max, second_byte_min, utf8_error_len, utf8_invalid_len, utf8_lossy, utf8_lossy_within, utf8_valid_len, valid_len_up_to}
use Rattle.std.proofs.lemmas.Bool.{and_parts}
use Rattle.std.proofs.lemmas.Bool.Decides.{eqb_tells, nat_tests}
use Rattle.std.proofs.lemmas.List.{length-drop, take_all}
use Rattle.std.proofs.lemmas.Str.{scalars-chars, IsUtf8-nil, IsUtf8-append, IsUtf8-from_is_utf8, utf8_valid_len_le}
use Rattle.json.specs.Token.{Token}
use Rattle.bajofeki_rules.specs.Quoted.{is_unseen}
use Rattle.reports_lib.specs.PieceLines.{escaped, json_told, object_line, unit_told}
use Rattle.reports_lib.specs.Safe.{IsSafe}
use Rattle.reports_lib.proofs.SafeLaws.{is_printed, plain_is_safe, safe_append, safe_char, safe_nil, seen_steers_not}
use Rattle.reports_lib.proofs.SafeMessages.{each_is_safe}

-- ---- what is read with signs for what isn't UTF-8 is UTF-8

-- a sign stands for one byte at least, of n
record Counts (n : ℕ) (len : Option ℕ) : Type 0 where
  some : 0 < unwrap_or len n

either : (t : Bool) {n : ℕ} {one other : Option ℕ} → Counts n one → Counts n other → Counts n (if t then one else other)
either true first second = first
either false first second = second

module _ (bs : List ℕ) (some : 0 < length bs) where
  rest : Counts (length bs) None
  rest = record { some = some }

  these : (k : ℕ) → Counts (length bs) (Some (suc k))
  these k = record { some = omega arith }

  after_two : Counts (length bs) (error_len_after_two bs)
  after_two =
      either (nat_lt (length bs) 3) rest
      (either (is_in_range 0x80 0xBF (slice_index bs 2)) (either (nat_lt (length bs) 4) rest (these 2)) (these 1))

  after_one : Counts (length bs) (error_len_after_one bs)
  after_one =
      either (nat_lt (length bs) 2) rest
      (either (is_in_range (second_byte_min (slice_index bs 0)) (second_byte_max (slice_index bs 0)) (slice_index bs 1)) after_two (these 0))

  counts : Counts (length bs) (utf8_error_len bs)
  unfolding utf8_error_len
  counts = either (length bs == 0) rest (either (is_in_range 0xC2 0xF4 (slice_index bs 0)) after_one (these 0))

valid_is_text : (bs : List ℕ) (n : ℕ) → IsUtf8 (take (valid_len_up_to bs n) bs)
valid_is_text bs zero = IsUtf8-nil
valid_is_text bs (suc n) = by (is_utf8 (take (suc n) bs)) refl (valid_is_text bs n)
  where
    by : (t : Bool) → is_utf8 (take (suc n) bs) ≡ t → IsUtf8 (take (valid_len_up_to bs n) bs) → IsUtf8 (take (if t then suc n else valid_len_up_to bs n) bs)
    by true is shorter = IsUtf8-from_is_utf8 (take (suc n) bs) is
    by false is shorter = shorter

front_is_text : (bs : List ℕ) → IsUtf8 (take (utf8_valid_len bs) bs)
unfolding utf8_valid_len
front_is_text bs = valid_is_text bs (length bs)

sign_is_text : IsUtf8 replacement_bytes
unfolding lib.Utf8.encode
sign_is_text = (65533 ∷ [], (refl, refl))

shorter : (bs : List ℕ) (k : ℕ) → length bs ≤ suc k → utf8_valid_len bs ≢ length bs → length (after_first_chunk bs) ≤ k
shorter bs k small part =
    let n = utf8_valid_len bs in
    let within : n ≤ length bs = utf8_valid_len_le bs in
    let left : length (drop n bs) ≡ length bs - n = length-drop n bs in
    let some : 0 < utf8_invalid_len (drop n bs) = (counts (drop n bs) (omega (arith, left, within, part))).some in
    omega (arith, length-drop (n + utf8_invalid_len (drop n bs)) bs, within, some, small)

lossy_within : (k : ℕ) (bs : List ℕ) → length bs ≤ k → IsUtf8 (utf8_lossy_within k bs)
lossy_within zero [] small = IsUtf8-nil
lossy_within zero (b ∷ bs) small = absurd (omega (arith, small))
lossy_within (suc k) bs small = by (eqb_tells (utf8_valid_len bs) (length bs)) (lossy_within k)
  where
    by : (((utf8_valid_len bs == length bs) ≡ true) × (utf8_valid_len bs ≡ length bs)) ⊎ (((utf8_valid_len bs == length bs) ≡ false) × (utf8_valid_len bs ≢ length bs))
        → ((cs : List ℕ) → length cs ≤ k → IsUtf8 (utf8_lossy_within k cs)) → IsUtf8 (utf8_lossy_within (suc k) bs)
    by (inl whole) later = rw whole.0 (subst IsUtf8 (take_all _ bs (omega (arith, whole.1))) (front_is_text bs))
    by (inr part) later =
        rw part.0 (IsUtf8-append _ _ (front_is_text bs) (IsUtf8-append _ _ sign_is_text (later (after_first_chunk bs) (shorter bs k small part.1))))

lossy_is_text : (bs : List ℕ) → IsUtf8 (utf8_lossy bs)
unfolding utf8_lossy
lossy_is_text bs = lossy_within (length bs) bs (omega arith)

-- ---- lines

digit_is_printed : (place u : ℕ) → is_printed (hex_digit_at place u) ≡ true
digit_is_printed place u = let small : u / place % 16 < 16 = omega arith in grind (arith, nat_tests)

unit_is_safe : (u : ℕ) → IsSafe (unit_told u)
unit_is_safe u = plain_is_safe (unit_told u) (rw (digit_is_printed 4096 u, digit_is_printed 256 u, digit_is_printed 16 u, digit_is_printed 1 u) refl)

character_is_safe : (c : ℕ) → IsScalar c → IsSafe (json_told c)
character_is_safe c scalar = by (is_unseen c) refl
  where
    by : (unseen : Bool) → is_unseen c ≡ unseen → IsSafe (if unseen then flat_map unit_told (encode_utf16 c) else encode_utf8 c)
    by true is = each_is_safe unit_told unit_is_safe (encode_utf16 c)
    by false is = safe_char c scalar (seen_steers_not c is)

characters_are_safe : (cs : List ℕ) → all_scalars cs ≡ true → IsSafe (flat_map json_told cs)
characters_are_safe [] scalars = safe_nil
characters_are_safe (c ∷ cs) scalars = let parts = and_parts _ (all_scalars cs) scalars in safe_append (character_is_safe c parts.0) (characters_are_safe cs parts.1)

-- the line of what was printed
pub printed_line_is_safe : (printed : List ℕ) → IsSafe (escaped printed ++ codes "\n")
printed_line_is_safe printed =
    let text = utf8_lossy printed in
    safe_append (characters_are_safe (chars text) (scalars-chars text (lossy_is_text printed))) (plain_is_safe (codes "\n") refl)

pub object_lines_are_safe : (members : List Token) → IsSafe (object_line members)
object_lines_are_safe members = printed_line_is_safe _
