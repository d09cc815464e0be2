-- The place after bytes, which needn't be UTF-8.
use Rattle.std.proofs.Common.{◌≡◌, ℕ, ◌+◌, ◌-◌, ◌/◌, ◌%◌, ◌<◌, ◌≤◌, inl, inr, Bool, true, false, cond, List, [], ◌∷◌, ◌++◌, length, take, drop, get_or, arith, refl, sym, ap, subst, ◌∙◌, append_assoc, append-nil, length-append}
use Rattle.std.specs.Prelude.{if◌then◌else◌, not}
use Rattle.std.specs.List.{fold, count_by, after_last, suffix_len}
use Rattle.std.specs.Str.{chars, IsUtf8, IsCharBoundary}
use Rattle.std.proofs.Math.Utf8.{encode, encodes}
use Rattle.std.proofs.lemmas.Bool.{cases_lt, ne_eqb}
use Rattle.std.proofs.lemmas.List.{drop-append-le, drop_all, take_more}
use Rattle.std.proofs.lemmas.List.Sums.{count_by-le-length, fold-append, suffix_len-le-length}
use Rattle.std.proofs.lemmas.Str.{chars_from_encodes, IsUtf8-take}
use Rattle.bajofeki_rules.specs.Position.{byte_place, byte_place_of, is_line_feed, moved, place_behind, position_of}
use Rattle.bajofeki_rules.specs.declared.position.Position.{Position}
use Rattle.bajofeki_rules.specs.Internal.Places.{next_place, place_after_byte}
use Rattle.lalrpop_hir.specs.Starts.{is_start}
use Rattle.bajofeki_rules.proofs.Places.{count_by-push, length-after_last, place_more, same_place, suffix_len-push}
use Rattle.bajofeki_rules.proofs.PlaceLaws.{at, moved_step}
use Rattle.lalrpop_hir.proofs.StartLaws.{begins, begins_low, encode_one, encode_two, encode_three, encode_four, follows}

-- ---- one byte further

after_last-found : (p : ℕ → Bool) (xs : List ℕ) (x : ℕ) → p x ≡ true → after_last p (xs ++ x ∷ []) ≡ []
after_last-found p xs x found =
    let q : ℕ → Bool = λ y. not (p y) in
    let none : suffix_len q (xs ++ x ∷ []) ≡ 0 = suffix_len-push q xs x ∙ ap (λ b. cond (not b) (1 + suffix_len q xs) 0) found in
    drop_all (length (xs ++ x ∷ []) - suffix_len q (xs ++ x ∷ [])) (xs ++ x ∷ []) (omega (arith, none))

after_last-more : (p : ℕ → Bool) (xs : List ℕ) (x : ℕ) → p x ≡ false → after_last p (xs ++ x ∷ []) ≡ after_last p xs ++ x ∷ []
after_last-more p xs x none =
    let q : ℕ → Bool = λ y. not (p y) in
    let n = suffix_len q xs in
    let more : suffix_len q (xs ++ x ∷ []) ≡ 1 + n = suffix_len-push q xs x ∙ ap (λ b. cond (not b) (1 + n) 0) none in
    let same : length (xs ++ x ∷ []) - suffix_len q (xs ++ x ∷ []) ≡ length xs - n =
    omega (arith, more, length-append xs (x ∷ []), suffix_len-le-length q xs) in
    ap (λ (k : ℕ). drop k (xs ++ x ∷ [])) same ∙ drop-append-le (length xs - n) xs (x ∷ []) (omega arith)

byte_more : (bs : List ℕ) (b : ℕ) → byte_place (bs ++ b ∷ []) ≡ place_after_byte (byte_place bs) b
byte_more bs b = by (is_line_feed b) refl
  where
    line : count_by is_line_feed (bs ++ b ∷ []) ≡ count_by is_line_feed bs + cond (is_line_feed b) 1 0
    line = count_by-push is_line_feed bs b

    by : (t : Bool) → is_line_feed b ≡ t → byte_place (bs ++ b ∷ []) ≡ place_after_byte (byte_place bs) b
    by true e =
        let l = rw e at line in
        rw e (same_place _ _ _ _ (omega (arith, l)) (ap (λ xs. 1 + count_by is_start xs) (after_last-found is_line_feed bs b e)))
    by false e =
        let l = rw e at line in
        let k : 1 + count_by is_start (after_last is_line_feed (bs ++ b ∷ [])) ≡ 1 + count_by is_start (after_last is_line_feed bs) + cond (is_start b) 1 0 =
        ap (λ xs. 1 + count_by is_start xs) (after_last-more is_line_feed bs b e) ∙ omega (arith, count_by-push is_start (after_last is_line_feed bs) b) in
        rw e (same_place _ _ _ _ (omega (arith, l)) k)

pub byte_further : (bs : List ℕ) (i d : ℕ) → i < length bs → byte_place (take (i + 1) bs) ≡ place_after_byte (byte_place (take i bs)) (get_or bs i d)
byte_further bs i d within = ap byte_place (take_more bs i d within) ∙ byte_more (take i bs) (get_or bs i d)

-- no line and no column is greater than the number of bytes
pub byte_line_within : (bs : List ℕ) → (byte_place bs).line ≤ 1 + length bs
byte_line_within bs = omega (arith, count_by-le-length is_line_feed bs)

pub byte_column_within : (bs : List ℕ) → (byte_place bs).column ≤ 1 + length bs
byte_column_within bs =
    omega (arith, count_by-le-length is_start (after_last is_line_feed bs), length-after_last is_line_feed bs, suffix_len-le-length (λ x. not (is_line_feed x)) bs)

-- the place after the first bytes, and those after it
pub bytes_more : (front bs : List ℕ) → byte_place (front ++ bs) ≡ moved (byte_place front) (byte_place bs)
bytes_more front [] = ap byte_place (append-nil front) ∙ same_place _ _ _ _ refl (omega arith)
bytes_more front (b ∷ bs) =
    let after : byte_place (b ∷ bs) ≡ moved (place_after_byte (at 1 1) b) (byte_place bs) = bytes_more (b ∷ []) bs ∙ ap (λ (p : Position). moved p (byte_place bs)) (byte_more [] b) in
    ap byte_place (sym (append_assoc front (b ∷ []) bs)) ∙ bytes_more (front ++ b ∷ []) bs ∙ ap (λ (p : Position). moved p (byte_place bs)) (byte_more front b)
    ∙ moved_step (byte_place front) (byte_place bs) (is_line_feed b) (if is_start b then 1 else 0) (omega arith) (omega arith)
    ∙ ap (moved (byte_place front)) (sym after)

fold_bytes : (front bs : List ℕ) → fold place_after_byte (byte_place front) bs ≡ byte_place (front ++ bs)
fold_bytes front [] = ap byte_place (sym (append-nil front))
fold_bytes front (b ∷ bs) =
    ap (λ (p : Position). fold place_after_byte p bs) (sym (byte_more front b)) ∙ fold_bytes (front ++ b ∷ []) bs ∙ ap byte_place (append_assoc front (b ∷ []) bs)

-- ---- in UTF-8

byte_begins : (p : Position) (b : ℕ) → 192 ≤ b → place_after_byte p b ≡ at p.line (p.column + 1)
byte_begins p b h = rw (ne_eqb b 10 (λ e. omega (arith, h, e))) (same_place _ _ _ _ refl (omega (arith, begins b h)))

byte_follows : (p : Position) (x : ℕ) → place_after_byte p (128 + x % 64) ≡ p
byte_follows p x = rw (ne_eqb (128 + x % 64) 10 (λ e. omega (arith, e))) (same_place _ _ _ _ refl (omega (arith, follows x)))

byte_alone : (p : Position) (c : ℕ) → c < 128 → place_after_byte p c ≡ next_place p c
byte_alone p c h =
    elim (is_line_feed c)
    as (λ (b : Bool). (if b then at (p.line + 1) 1 else at p.line (p.column + (if is_start c then 1 else 0))) ≡ (if b then at (p.line + 1) 1 else at p.line (p.column + 1))) [
      | true ↦ refl
      | false ↦ same_place _ _ _ _ refl (omega (arith, begins_low c h))
    ]

not_alone : (p : Position) (c : ℕ) → 128 ≤ c → next_place p c ≡ at p.line (p.column + 1)
not_alone p c h = rw (ne_eqb c 10 (λ e. omega (arith, h, e))) refl

-- the bytes of a character lead to the place after it
place_after_char : (p : Position) (c : ℕ) → fold place_after_byte p (encode c) ≡ next_place p c
place_after_char p c =
    elim (cases_lt c 128) [
      | inl low ↦ ap (fold place_after_byte p) (encode_one c low) ∙ byte_alone p c low
      | inr high ↦ elim (cases_lt c 2048) [
        | inl two ↦ ap (fold place_after_byte p) (encode_two c high two) ∙ byte_follows (place_after_byte p (192 + c / 64)) c
            ∙ byte_begins p (192 + c / 64) (omega arith) ∙ sym (not_alone p c high)
        | inr more ↦ elim (cases_lt c 65536) [
          | inl three ↦ ap (fold place_after_byte p) (encode_three c more three)
              ∙ byte_follows (place_after_byte (place_after_byte p (224 + c / 4096)) (128 + c / 64 % 64)) c
              ∙ byte_follows (place_after_byte p (224 + c / 4096)) (c / 64)
              ∙ byte_begins p (224 + c / 4096) (omega arith) ∙ sym (not_alone p c high)
          | inr four ↦ ap (fold place_after_byte p) (encode_four c four)
              ∙ byte_follows (place_after_byte (place_after_byte (place_after_byte p (240 + c / 262144)) (128 + c / 4096 % 64)) (128 + c / 64 % 64)) c
              ∙ byte_follows (place_after_byte (place_after_byte p (240 + c / 262144)) (128 + c / 4096 % 64)) (c / 64)
              ∙ byte_follows (place_after_byte p (240 + c / 262144)) (c / 4096)
              ∙ byte_begins p (240 + c / 262144) (omega arith) ∙ sym (not_alone p c high)
        ]
      ]
    ]

-- and those of all characters so far to the place after them
place_after_chars : (front cs : List ℕ) → fold place_after_byte (place_behind front) (encodes cs) ≡ place_behind (front ++ cs)
place_after_chars front [] = ap place_behind (sym (append-nil front))
place_after_chars front (c ∷ cs) =
    fold-append place_after_byte (place_behind front) (encode c) (encodes cs)
    ∙ ap (λ (p : Position). fold place_after_byte p (encodes cs)) (place_after_char (place_behind front) c ∙ sym (place_more front c))
    ∙ place_after_chars (front ++ c ∷ []) cs ∙ ap place_behind (append_assoc front (c ∷ []) cs)

place_after_bytes : (text : List ℕ) → IsUtf8 text → fold place_after_byte (at 1 1) text ≡ place_behind (chars text)
place_after_bytes text u =
    let same : u.0 ≡ chars text = chars_from_encodes u.0 text u u.1.1 in
    subst (λ (bs : List ℕ). fold place_after_byte (at 1 1) bs ≡ place_behind (chars text)) u.1.1 (place_after_chars [] u.0 ∙ ap place_behind same)

-- so columns count characters
pub bytes_text : (bs : List ℕ) → IsUtf8 bs → byte_place bs ≡ place_behind (chars bs)
bytes_text bs u = sym (fold_bytes [] bs) ∙ place_after_bytes bs u

pub byte_place_in_text : (text : List ℕ) (at : ℕ) → IsUtf8 text → IsCharBoundary text at → byte_place_of text at ≡ position_of text at
byte_place_in_text text at u b = bytes_text (take at text) (IsUtf8-take text at u b)
