-- What is known of the open token at a place of a run.
use Rattle.std.proofs.Common.{◌≡◌, ℕ, ◌+◌, ◌-◌, ◌<◌, ◌≤◌, ⊎_elim, List, ◌∷◌, length, drop, refl, sym, ap, subst, ◌∙◌, arith, lt-ltb, le-ltb}
use Rattle.std.specs.Prelude.{true, false, nat_lt, if◌then◌else◌}
use Rattle.std.specs.Char.{encode_utf8}
use Rattle.std.proofs.lemmas.Bool.{cond-true, cond-false, cases_lt}
use Rattle.std.proofs.lemmas.List.{drop-drop}
use Rattle.lalrpop_dense.specs.DenseTable.{TableNumbers, character_class}
use Rattle.lalrpop_emit.specs.Internal.Characters.{IsCharacterAt}
use Rattle.lalrpop_emit.specs.Ahead.{Standing, row_by, opened, led, by_class, by_within, by_bad, by_column, is_end}
use Rattle.lalrpop_emit.specs.Internal.Columns.{AreColumns}
use Rattle.lalrpop_emit.specs.Ahead.Standing.{Begin, Lost, Ended, In, Again}
use Rattle.lalrpop_emit.proofs.AheadColumns.{HasColumns, first_column, by_character, by_within_column, by_bad_column}
use Rattle.lalrpop_emit.proofs.AheadColumns.FirstColumn.{within, character, bad}
use Rattle.lalrpop_emit.proofs.Walks.{IsWalked, walked_start, walked_first, walked_more, character_size}

-- ---- what is known of the open token

-- the characters up to this place lead to the row of the token that is open, if one is
abbrev pub IsOpen : TableNumbers → List ℕ → ℕ → Standing → Type 0
IsOpen t text at Begin = at ≡ 0
IsOpen t text at Lost = Unit {0}
IsOpen t text at Ended = Unit {0}
IsOpen t text at (In row) = IsWalked t text at row × (t.live ≤ row)
IsOpen t text at (Again row) = IsWalked t text at row × (t.live ≤ row)

-- what is known at a place of a text that begins where the token does: the next `left` bytes are the rest of a character, and the row is that after it
pub record IsPlace (t : TableNumbers) (width : ℕ) (text : List ℕ) (at : ℕ) (s : Standing) (columns : List ℕ) : Type 0 where
  pub left : ℕ
  pub columns_are : AreColumns t width left (drop at text) columns
  pub token : IsOpen t text (at + left) s

-- what holds of both answers of a test for a row's size
pub by_size : {X : Type 0} (P : X → Type 0) (least row : ℕ) (x y : X) → (least ≤ row → P x) → (row < least → P y)
    → P (if (if nat_lt row least then false else true) then x else y)
by_size P least row x y above below =
    ⊎_elim
    (λ (less : row < least). subst P (sym (cond-false _ x y (cond-true _ false true (lt-ltb row least less)))) (below less))
    (λ (more : least ≤ row). subst P (sym (cond-true _ x y (cond-false _ false true (le-ltb row least more)))) (above more))
    (cases_lt row least)

-- ---- one more column

module _ (t : TableNumbers) (text : List ℕ) where
  -- a character leads on from the row
  row_open : (at at2 row c : ℕ) → IsWalked t text at row → IsCharacterAt text at c → at2 ≡ at + length (encode_utf8 c) → t.live ≤ row_by t row (character_class t c)
      → IsWalked t text at2 (row_by t row (character_class t c)) × (t.live ≤ row_by t row (character_class t c))
  row_open at at2 row c w here size live = (walked_more t text at at2 row (row_by t row (character_class t c)) c w here size refl, live)

  -- a character opens this token, or what else there is
  opens : (at c : ℕ) (none : Standing) → IsCharacterAt text 0 c → at ≡ length (encode_utf8 c) → IsOpen t text at none → IsOpen t text at (opened t (character_class t c) none)
  opens at c none here size other =
      by_size (IsOpen t text at) t.live (row_by t t.start (character_class t c)) (Again (row_by t t.start (character_class t c))) none
      (row_open 0 at t.start c (walked_start t text) here (omega (arith, size)))
      (λ dead. other)

  -- a character that ends the token before opens this one, or none
  led_opens : (at row c : ℕ) → IsCharacterAt text 0 c → at ≡ length (encode_utf8 c) → is_end (led t row (character_class t c)) ≡ true → IsOpen t text at (led t row (character_class t c))
  led_opens at row c here size =
      by_size (λ s. is_end s ≡ true → IsOpen t text at s) t.live (row_by t row (character_class t c)) _ _
      (λ live e. absurd cc)
      (λ dead. by_size (λ s. is_end s ≡ true → IsOpen t text at s) t.accept row _ _
      (λ accept e. opens at c Ended here size tt)
      (λ low e. absurd cc))

  -- a character before which a token ends, as the text begins
  class_opens : (s : Standing) (at c : ℕ) → IsCharacterAt text 0 c → at ≡ length (encode_utf8 c) → is_end (by_class t (character_class t c) s) ≡ true
      → IsOpen t text at (by_class t (character_class t c) s)
  class_opens Begin at c here size e =
      by_size (λ s. is_end s ≡ true → IsOpen t text at s) t.live (row_by t t.start (character_class t c)) _ _ (λ live e. absurd cc) (λ dead e. absurd cc) e
  class_opens Lost at c here size e = opens at c Lost here size tt
  class_opens Ended at c here size e = opens at c Lost here size tt
  class_opens (In row) at c here size e = led_opens at row c here size e
  class_opens (Again row) at c here size e = led_opens at row c here size e

  -- where none is open and none opens
  none_opens : (at class : ℕ) → is_end (opened t class Lost) ≡ false → IsOpen t text at (opened t class Lost)
  none_opens at class = by_size (λ s. is_end s ≡ false → IsOpen t text at s) t.live (row_by t t.start class) _ _ (λ live e. absurd cc) (λ dead e. tt)

  opened_ends : (class : ℕ) → is_end (opened t class Ended) ≡ true
  opened_ends class = by_size (λ s. is_end s ≡ true) t.live (row_by t t.start class) _ _ (λ live. refl) (λ dead. refl)

  -- a character that doesn't end this token leads on, or the token is lost
  led_on : (at at2 row c : ℕ) → IsWalked t text at row → IsCharacterAt text at c → at2 ≡ at + length (encode_utf8 c) → is_end (led t row (character_class t c)) ≡ false
      → IsOpen t text at2 (led t row (character_class t c))
  led_on at at2 row c w here size =
      by_size (λ s. is_end s ≡ false → IsOpen t text at2 s) t.live (row_by t row (character_class t c)) _ _
      (λ live e. row_open at at2 row c w here size live)
      (λ dead. by_size (λ s. is_end s ≡ false → IsOpen t text at2 s) t.accept row _ _
      (λ accept e. absurd (let ends = opened_ends (character_class t c) in cc))
      (λ low e. tt))

  -- a character before which no token ends
  class_on : (s : Standing) (at at2 c : ℕ) → IsOpen t text at s → IsCharacterAt text at c → at2 ≡ at + length (encode_utf8 c) → is_end (by_class t (character_class t c) s) ≡ false
      → IsOpen t text at2 (by_class t (character_class t c) s)
  class_on Begin at at2 c w here size e =
      by_size (λ s. is_end s ≡ false → IsOpen t text at2 s) t.live (row_by t t.start (character_class t c)) _ _
      (λ live e. row_open at at2 t.start c (walked_first t text at w) here size live)
      (λ dead e. tt)
      e
  class_on Lost at at2 c w here size e = none_opens at2 (character_class t c) e
  class_on Ended at at2 c w here size e = none_opens at2 (character_class t c) e
  class_on (In row) at at2 c w here size e = led_on at at2 row c w.0 here size e
  class_on (Again row) at at2 c w here size e = led_on at at2 row c w.0 here size e

  within_on : (s : Standing) (at : ℕ) → IsOpen t text at s → IsOpen t text at (by_within s)
  within_on Begin at w = tt
  within_on Lost at w = tt
  within_on Ended at w = tt
  within_on (In row) at w = w
  within_on (Again row) at w = w

  pub within_no_end : (s : Standing) → is_end (by_within s) ≡ false
  within_no_end Begin = refl
  within_no_end Lost = refl
  within_no_end Ended = refl
  within_no_end (In row) = refl
  within_no_end (Again row) = refl

  bad_on : (s : Standing) (at : ℕ) → IsOpen t text at (by_bad t s)
  bad_on Begin at = tt
  bad_on Lost at = tt
  bad_on Ended at = tt
  bad_on (In row) at = by_size (IsOpen t text at) t.accept row Ended Lost (λ accept. tt) (λ low. tt)
  bad_on (Again row) at = by_size (IsOpen t text at) t.accept row Ended Lost (λ accept. tt) (λ low. tt)

  -- a character of the rest of the text
  pub here_of : (at c : ℕ) → IsCharacterAt (drop at text) 0 c → IsCharacterAt text at c
  here_of at c h = record { scalar = h.scalar; rest = h.rest; split = h.split }

module _ (t : TableNumbers) (width : ℕ) (text : List ℕ) where
  -- what is known after one more byte
  place : (at left at2 : ℕ) (s s2 : Standing) (columns : List ℕ) → AreColumns t width left (drop 1 (drop at text)) columns → at2 ≡ at + 1 + left → s ≡ s2 → IsOpen t text at2 s2
      → IsPlace t width text (at + 1) s columns
  place at left at2 s s2 columns rest size same w = record {
    left = left;
    columns_are = subst (λ bytes. AreColumns t width left bytes columns) (drop-drop 1 at text) rest;
    token = subst (λ (k : ℕ). IsOpen t text k s) size (subst (IsOpen t text at2) (sym same) w);
  }

  -- where no token ends before the next column, what is known of the open one goes on
  pub further_on : (at : ℕ) (s : Standing) (column : ℕ) (columns : List ℕ) → HasColumns t width → IsPlace t width text at s (column ∷ columns) → is_end (by_column t width s column) ≡ false
      → IsPlace t width text (at + 1) (by_column t width s column) columns
  further_on at s column columns has p open_still = elim (first_column t width p.left (drop at text) column columns p.columns_are) [
    | within k e is rest ↦
        let same = by_within_column t width s column has is in
        place at k (at + p.left) (by_column t width s column) (by_within s) columns rest (omega (arith, e)) same (within_on t text s (at + p.left) p.token)
    | character c e here is rest ↦
        let same = by_character t width s column c has here.scalar is in
        let from : at + p.left ≡ at = omega (arith, e) in
        place at (length (encode_utf8 c) - 1) (at + length (encode_utf8 c)) (by_column t width s column) (by_class t (character_class t c) s) columns rest
        (omega (arith, character_size c)) same
        (class_on t text s at (at + length (encode_utf8 c)) c (subst (λ (k : ℕ). IsOpen t text k s) from p.token) (here_of t text at c here) refl (ap is_end (sym same) ∙ open_still))
    | bad e none is rest ↦
        let same = by_bad_column t width s column has is in
        place at 0 (at + 1) (by_column t width s column) (by_bad t s) columns rest (omega arith) same (bad_on t text s (at + 1))
  ]

  -- where a token ends before the first column, the next one begins there
  pub begins : (left : ℕ) (s : Standing) (column : ℕ) (columns : List ℕ) → HasColumns t width → AreColumns t width left text (column ∷ columns) → is_end (by_column t width s column) ≡ true
      → IsPlace t width text 1 (by_column t width s column) columns
  begins left s column columns has h end = elim (first_column t width left text column columns h) [
    | within k e is rest ↦ absurd (let none = ap is_end (by_within_column t width s column has is) ∙ within_no_end t text s in cc)
    | character c e here is rest ↦
        let same = by_character t width s column c has here.scalar is in
        place 0 (length (encode_utf8 c) - 1) (length (encode_utf8 c)) (by_column t width s column) (by_class t (character_class t c) s) columns rest
        (omega (arith, character_size c)) same
        (class_opens t text s (length (encode_utf8 c)) c here refl (ap is_end (sym same) ∙ end))
    | bad e none is rest ↦
        let same = by_bad_column t width s column has is in
        place 0 0 1 (by_column t width s column) (by_bad t s) columns rest (omega arith) same (bad_on t text s 1)
  ]
