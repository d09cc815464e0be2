-- What is left of bytes after the longest text at their front: a character that has begun, or a byte of none.
use Rattle.std.proofs.Common.{◌≡◌, ◌≢◌, ℕ, ◌+◌, ◌-◌, ◌<◌, ◌≤◌, ◌⊎◌, inl, inr, ⊎_elim, Bool, true, false, cond, List, [], ◌∷◌, ◌++◌, length, take, drop, get_or, refl, ap, subst, sym, ◌∙◌, arith, IsUtf8, take-add, le-ltb, ne_eqb, true≢false, append-nil, append_assoc, nat_lt, ◌==◌}
use Rattle.std.proofs.lemmas.Grind.{common_steps}
use Rattle.std.proofs.lemmas.Bool.Decides.{nat_tests}
use Rattle.std.specs.Prelude.{Option, Some, None, is_some}
use Rattle.std.specs.Int.{is_in_range}
use Rattle.std.specs.Str.{StartsWithNoChar, IsValidUpTo}
use Rattle.std.specs.Str.Lossy.{utf8_error_len, second_byte_min, second_byte_max}
use Rattle.std.proofs.iter.FirstChar.{no_text}
use Rattle.std.proofs.str.Faults.{Ranged, no_char, valid_to, not_text}
use Rattle.std.proofs.str.Laws.{Follows, order}
use Rattle.std.proofs.str.Valid.{of_one, of_two, of_three, of_four}
use Rattle.std.proofs.lemmas.List.{take-append-drop, length-take, length-drop, length-append}
use Rattle.std.proofs.Math.Seq.{take-append_seam, drop-append_seam, take-length}
use Rattle.std.proofs.lemmas.Str.{IsUtf8-nil, IsUtf8-append, IsUtf8-encode, length-encode, len_utf8_bounds}
use Rattle.std.specs.Char.{encode_utf8}
use Rattle.bajofeki.specs.Begun.{NoCharacter, IsBegun, IsBad}

-- a byte that may be a character's first; that may be the second after it; and that may be a later one
abbrev first_fits : ℕ → Bool
first_fits x = is_in_range 0xC2 0xF4 x

abbrev second_fits : ℕ → ℕ → Bool
second_fits x y = is_in_range (second_byte_min x) (second_byte_max x) y

-- of the bytes of a list: `Ranged` at its front
abbrev RangedAt : List ℕ → Type 0
RangedAt l = Ranged (length l) (get_or l 0 0) (get_or l 1 0) (get_or l 2 0) (get_or l 3 0)

abbrev later_fits : ℕ → Bool
later_fits z = is_in_range 0x80 0xBF z

-- ---- numbers

in_range : (lo hi x : ℕ) → is_in_range lo hi x ≡ true → (lo ≤ x) × (x ≤ hi)
in_range lo hi x fits = (grind (arith, common_steps, nat_tests), grind (arith, common_steps, nat_tests))

is_in : (lo hi x : ℕ) → lo ≤ x → x ≤ hi → is_in_range lo hi x ≡ true
is_in lo hi x least most = grind (arith, common_steps, nat_tests)

later : (z : ℕ) → later_fits z ≡ true → Follows z
later z fits = let r = in_range 0x80 0xBF z fits in (r.0, omega arith)

later_is : (z : ℕ) → Follows z → later_fits z ≡ true
later_is z f = is_in 0x80 0xBF z f.0 (omega (arith, f.1))

some_none : (k : ℕ) → Some k ≡ None → ⊥
some_none k e = cc

-- what the bounds of a second byte are, as inequalities
record Second (x y : ℕ) : Type 0 where
  follows : Follows y
  after_E0 : x ≡ 0xE0 → 0xA0 ≤ y
  after_ED : x ≡ 0xED → y ≤ 0x9F
  after_F0 : x ≡ 0xF0 → 0x90 ≤ y
  after_F4 : x ≡ 0xF4 → y ≤ 0x8F

second : (x y : ℕ) → second_fits x y ≡ true → Second x y
second x y fits = record {
  follows = (grind (arith, common_steps, nat_tests), grind (arith, common_steps, nat_tests));
  after_E0 = λ e. grind (arith, common_steps, nat_tests);
  after_ED = λ e. grind (arith, common_steps, nat_tests);
  after_F0 = λ e. grind (arith, common_steps, nat_tests);
  after_F4 = λ e. grind (arith, common_steps, nat_tests);
}

second_is : (x y : ℕ) → Second x y → second_fits x y ≡ true
second_is x y s =
    let a = s.follows in
    let b = s.after_E0 in
    let c = s.after_ED in
    let d = s.after_F0 in
    let e = s.after_F4 in
    grind (arith, common_steps, nat_tests)

-- ---- n bytes begin with a character
module _ (n x y z w : ℕ) (r : Ranged n x y z w) (high : 128 ≤ x) where
  ranged_first : first_fits x ≡ true
  ranged_first = is_in 0xC2 0xF4 x (r.second high).0 (⊎_elim (λ low. omega arith) (λ large. omega (arith, (r.fourth large).2)) (order x 240))

  ranged_second : Second x y
  ranged_second = record {
    follows = (r.second high).2;
    after_E0 = λ e. omega (arith, (r.in_three (omega arith) (omega arith)).0);
    after_ED = λ e. let f = (r.second high).2 in ⊎_elim (λ l. omega arith) (λ g. absurd (omega arith)) (r.in_three (omega arith) (omega arith)).1;
    after_F0 = λ e. omega (arith, (r.fourth (omega arith)).2);
    after_F4 = λ e. omega (arith, (r.fourth (omega arith)).2);
  }

-- ---- bytes that are a character
one_byte : (x : ℕ) → x < 128 → IsUtf8 (x ∷ [])
one_byte x low = of_one (x ∷ []) 0 (omega arith) low

two_bytes : (x y : ℕ) → 0xC2 ≤ x → x < 224 → Follows y → IsUtf8 (x ∷ y ∷ [])
two_bytes x y least most f = of_two (x ∷ y ∷ []) 0 (omega arith) (least, most) f

three_bytes : (x y z : ℕ) → 224 ≤ x → x < 240 → Second x y → Follows z → IsUtf8 (x ∷ y ∷ z ∷ [])
three_bytes x y z least most s f =
    let g = s.follows in
    of_three (x ∷ y ∷ z ∷ []) 0 (omega arith) (least, most) g f
    (⊎_elim (λ above. omega (arith, g)) (λ (is : x ≤ 224). let e : x ≡ 224 = omega arith in omega (arith, s.after_E0 e)) (order 224 x))
    (⊎_elim (λ below. inl (omega (arith, g))) (λ (past : 237 ≤ x). ⊎_elim (λ above. inr (omega (arith, g))) (λ (is : x ≤ 237). let e : x ≡ 237 = omega arith in inl (omega (arith, s.after_ED e))) (order 237 x)) (order x 237))

four_bytes : (x y z w : ℕ) → 240 ≤ x → x ≤ 0xF4 → Second x y → Follows z → Follows w → IsUtf8 (x ∷ y ∷ z ∷ w ∷ [])
four_bytes x y z w least most s f h =
    let g = s.follows in
    of_four (x ∷ y ∷ z ∷ w ∷ []) 0 (omega arith) least g f h (
      ⊎_elim (λ above. omega (arith, g)) (λ (is : x ≤ 240). let e : x ≡ 240 = omega arith in omega (arith, s.after_F0 e)) (order 240 x),
      ⊎_elim (λ below. omega (arith, g)) (λ (is : 244 ≤ x). let e : x ≡ 244 = omega arith in omega (arith, s.after_F4 e)) (order x 244),
    )

-- ---- no character is at the front, and one comes whole: the kit's rule finds that the bytes end within it
module _ (more : List ℕ) where
  ends_within : (bytes : List ℕ) → NoCharacter bytes → RangedAt (bytes ++ more) → utf8_error_len bytes ≡ None
  unfolding utf8_error_len
  ends_within [] none r = refl
  ends_within (x ∷ []) none r = ⊎_elim
      (λ low. absurd (none 1 (omega arith) (omega arith) (one_byte x low)))
      (λ high. let first = ranged_first _ x _ _ _ r high in rw first)
      (order x 128)
  ends_within (x ∷ y ∷ []) none r = ⊎_elim
      (λ low. absurd (none 1 (omega arith) (omega arith) (one_byte x low)))
      (λ high. let first = ranged_first _ x _ _ _ r high in let next = second_is x y (ranged_second _ x y _ _ r high) in rw (first, next))
      (order x 128)
  ends_within (x ∷ y ∷ z ∷ []) none r = ⊎_elim
      (λ low. absurd (none 1 (omega arith) (omega arith) (one_byte x low)))
      (λ high. ⊎_elim
      (λ two. absurd (none 2 (omega arith) (omega arith) (two_bytes x y (r.second high).0 two (r.second high).2)))
      (λ (three : 224 ≤ x).
      let first = ranged_first _ x _ _ _ r high in
      let next = second_is x y (ranged_second _ x y _ _ r high) in
      let third = later_is z (r.third three).1 in
      rw (first, next, third))
      (order x 224))
      (order x 128)
  ends_within (x ∷ y ∷ z ∷ w ∷ rest) none r = absurd (⊎_elim
      (λ low. none 1 (omega arith) (omega arith) (one_byte x low))
      (λ high. ⊎_elim
      (λ two. none 2 (omega arith) (omega arith) (two_bytes x y (r.second high).0 two (r.second high).2))
      (λ (three : 224 ≤ x). ⊎_elim
      (λ below. none 3 (omega arith) (omega arith) (three_bytes x y z three below (ranged_second _ x y _ _ r high) (r.third three).1))
      (λ (four : 240 ≤ x).
      let most = in_range 0xC2 0xF4 x (ranged_first _ x _ _ _ r high) in
      none 4 (omega arith) (omega arith) (four_bytes x y z w four most.1 (ranged_second _ x y _ _ r high) (r.third three).1 (r.fourth four).1))
      (order x 240))
      (order x 224))
      (order x 128))

-- ---- the kit's rule finds that the bytes end within a character: some bytes make it whole

chosen : (b : Bool) (k : ℕ) (o : Option ℕ) → cond b o (Some k) ≡ None → (b ≡ true) × (o ≡ None)
chosen true k o e = (refl, e)
chosen false k o e = absurd (cc)

-- of four bytes and more the rule finds a fault
never_none : (n : ℕ) (first next third : Bool) → 3 < n
    → cond {A = Option ℕ} (n == 0) None (cond first (cond (nat_lt n 2) None (cond next (cond (nat_lt n 3) None (cond third (cond (nat_lt n 4) None (Some 3)) (Some 2))) (Some 1))) (Some 1)) ≢ None
never_none n first next third long e =
    some_fault first next third (rw (ne_eqb n 0 (omega arith), le-ltb n 2 (omega arith), le-ltb n 3 (omega arith), le-ltb n 4 (omega arith)) at e)
  where
    some_fault : (first next third : Bool) → cond {A = Option ℕ} first (cond next (cond third (Some 3) (Some 2)) (Some 1)) (Some 1) ≢ None
    some_fault false next third e = some_none 1 e
    some_fault true false third e = some_none 1 e
    some_fault true true false e = some_none 2 e
    some_fault true true true e = some_none 3 e

fault_in_four : (x y z w : ℕ) (rest : List ℕ) → utf8_error_len (x ∷ y ∷ z ∷ w ∷ rest) ≢ None
unfolding utf8_error_len
fault_in_four x y z w rest e = never_none (length (x ∷ y ∷ z ∷ w ∷ rest)) (first_fits x) (second_fits x y) (later_fits z) (omega arith) e

least_fits : (x : ℕ) → second_fits x (second_byte_min x) ≡ true
least_fits x = grind (arith, common_steps, nat_tests)

Comes : List ℕ → Type 0
Comes bytes = (more : List ℕ) × IsUtf8 (bytes ++ more)

after_three : (x y z : ℕ) → 240 ≤ x → x ≤ 0xF4 → Second x y → Follows z → Comes (x ∷ y ∷ z ∷ [])
unfolding Comes
after_three x y z least most s f = (0x80 ∷ [], four_bytes x y z 0x80 least most s f (omega arith, omega arith))

after_two : (x y : ℕ) → 224 ≤ x → x ≤ 0xF4 → Second x y → Comes (x ∷ y ∷ [])
unfolding Comes
after_two x y least most s = ⊎_elim
    (λ three. (0x80 ∷ [], three_bytes x y 0x80 least three s (omega arith, omega arith)))
    (λ four. let rest = after_three x y 0x80 four most s (omega arith, omega arith) in (0x80 ∷ rest.0, rest.1))
    (order x 240)

after_one : (x : ℕ) → 0xC2 ≤ x → x ≤ 0xF4 → Comes (x ∷ [])
unfolding Comes
after_one x least most = ⊎_elim
    (λ two. (0x80 ∷ [], two_bytes x 0x80 least two (omega arith, omega arith)))
    (λ three. let y = second_byte_min x in let rest = after_two x y three most (second x y (least_fits x)) in (y ∷ rest.0, rest.1))
    (order x 224)

comes_whole : (bytes : List ℕ) → NoCharacter bytes → utf8_error_len bytes ≡ None → Comes bytes
unfolding utf8_error_len Comes
comes_whole [] none e = ([], IsUtf8-nil)
comes_whole (x ∷ []) none e = let f = in_range 0xC2 0xF4 x (chosen (first_fits x) 1 None e).0 in after_one x f.0 f.1
comes_whole (x ∷ y ∷ []) none e =
    let first = chosen (first_fits x) 1 (cond (second_fits x y) None (Some 1)) e in
    let f = in_range 0xC2 0xF4 x first.0 in
    let s = second x y (chosen (second_fits x y) 1 None first.1).0 in
    ⊎_elim
    (λ two. absurd (none 2 (omega arith) (omega arith) (two_bytes x y f.0 two s.follows)))
    (λ three. after_two x y three f.1 s)
    (order x 224)
comes_whole (x ∷ y ∷ z ∷ []) none e =
    let first = chosen (first_fits x) 1 (cond (second_fits x y) (cond (later_fits z) None (Some 2)) (Some 1)) e in
    let f = in_range 0xC2 0xF4 x first.0 in
    let next = chosen (second_fits x y) 1 (cond (later_fits z) None (Some 2)) first.1 in
    let s = second x y next.0 in
    let l = later z (chosen (later_fits z) 2 None next.1).0 in
    ⊎_elim
    (λ two. absurd (none 2 (omega arith) (omega arith) (two_bytes x y f.0 two s.follows)))
    (λ (three : 224 ≤ x). ⊎_elim
    (λ below. absurd (none 3 (omega arith) (omega arith) (three_bytes x y z three below s l)))
    (λ four. after_three x y z four f.1 s l)
    (order x 240))
    (order x 224)
comes_whole (x ∷ y ∷ z ∷ w ∷ rest) none e = absurd (fault_in_four x y z w rest e)

-- ---- after the longest text at the front

no_character : (bytes : List ℕ) → StartsWithNoChar bytes → NoCharacter bytes
no_character bytes none n some within u =
    no_text (take n bytes) (drop n bytes) (subst StartsWithNoChar (sym (take-append-drop n bytes)) none) u (omega (arith, length-take n bytes))

none_after : (bytes : List ℕ) (n : ℕ) → IsValidUpTo bytes n → NoCharacter (drop n bytes)
none_after bytes n v m some within u = v.longest (n + m) (omega arith) (subst IsUtf8 (sym (take-add n m bytes)) (IsUtf8-append (take n bytes) (take m (drop n bytes)) v.front u))

pub begun_after : (bytes : List ℕ) (n : ℕ) → IsValidUpTo bytes n → utf8_error_len (drop n bytes) ≡ None → IsBegun (drop n bytes)
unfolding Comes
begun_after bytes n v e = let none = none_after bytes n v in (none, comes_whole (drop n bytes) none e)

ranged_here : (l : List ℕ) → Ranged (length l - 0) (get_or l 0 0) (get_or l 1 0) (get_or l 2 0) (get_or l 3 0) → RangedAt l
ranged_here l r = let e : length l - 0 ≡ length l = omega arith in subst (λ n. Ranged n (get_or l 0 0) (get_or l 1 0) (get_or l 2 0) (get_or l 3 0)) e r

pub none_comes : (bytes : List ℕ) → NoCharacter bytes → utf8_error_len bytes ≢ None → (more : List ℕ) → NoCharacter (bytes ++ more)
none_comes bytes none e more =
    no_character (bytes ++ more) (no_char (bytes ++ more) 0 (λ r. e (ends_within more bytes none (ranged_here (bytes ++ more) r))))

pub bad_after : (bytes : List ℕ) (n : ℕ) → IsValidUpTo bytes n → utf8_error_len (drop n bytes) ≢ None → IsBad (drop n bytes)
bad_after bytes n v e =
    ((λ empty. let short = v.short in let len = ap length empty in omega (arith, length-drop n bytes)), none_comes (drop n bytes) (none_after bytes n v) e)

-- ---- for the code

pub nothing_begun : IsBegun []
nothing_begun = ((λ n some within. absurd (omega arith)), ([], IsUtf8-nil))

not_some : (o : Option ℕ) → is_some o ≡ false → o ≡ None
not_some None e = refl
not_some (Some k) e = absurd (cc)

not_none : (o : Option ℕ) → is_some o ≡ true → o ≢ None
not_none None e none = absurd (cc)
not_none (Some k) e none = some_none k none

-- the error of the kit's test says whether what is left may still be a character
pub begun_by : (bytes left : List ℕ) (n : ℕ) (len : Option ℕ) → IsValidUpTo bytes n → len ≡ utf8_error_len (drop n bytes) → left ≡ drop n bytes → is_some len ≡ false → IsBegun left
begun_by bytes left n len v e same none = subst IsBegun (sym same) (begun_after bytes n v (sym e ∙ not_some len none))

pub bad_by : (bytes left : List ℕ) (n : ℕ) (len : Option ℕ) → IsValidUpTo bytes n → len ≡ utf8_error_len (drop n bytes) → left ≡ drop n bytes → is_some len ≡ true → IsBad left
bad_by bytes left n len v e same some = subst IsBad (sym same) (bad_after bytes n v (λ none. not_none len some (e ∙ none)))

some_byte : (left : List ℕ) → left ≢ [] → 0 < length left
some_byte [] some = absurd (some refl)
some_byte (x ∷ left) some = omega arith

-- what has begun isn't bad
pub begun_not_bad : (left : List ℕ) → IsBegun left → IsBad left → ⊥
begun_not_bad left begun bad =
    let some = some_byte left bad.0 in
    let more = begun.1.0 in
    bad.1 more (length (left ++ more)) (omega (arith, length-append left more)) (omega arith) (subst IsUtf8 (sym (take-length (left ++ more))) begun.1.1)
