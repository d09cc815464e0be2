-- Steps of the code that reads what follows a `(`.
use Rattle.std.proofs.Common.{◌≡◌, ℕ, zero, suc, ◌+◌, ◌-◌, ◌<◌, ◌≤◌, Bool, true, false, cond, not, ltb, ◌==◌, List, [], ◌∷◌, ◌++◌, length, take, drop, get_or, Option, Some, None, unwrap_or, refl, sym, ap, ◌∙◌, subst, inl, inr, arith, encode_utf8_all}
use Rattle.std.proofs.Math.Seq.{take-length}
use Rattle.std.specs.List.{list_any, list_all, position_or_len, prefix_len}
use Rattle.std.proofs.lemmas.Bool.{lt-ltb, and_parts, eqb-true}
use Rattle.std.proofs.lemmas.List.{append-nil, length-append}
use Rattle.std.proofs.lemmas.List.Sums.{prefix_len-le-length}
use Rattle.lalrpop_re.specs.Text.{Text, begins}
use Rattle.lalrpop_re.specs.CharacterSet.{is_one_of}
use Rattle.lalrpop_re.specs.declared.flags.Flags.{Flags}
use Rattle.lalrpop_re.specs.Flag.{FlagLetters, on, on_and_off, is_distinct, with_flags}
use Rattle.lalrpop_re.specs.GroupName.{is_name, begins_name, continues_name}
use Rattle.lalrpop_re.specs.Internal.Reading.{span, flags_of, ends_name, ends_letters, name_at, letters_at, opened_of, a_named_group, a_flagged_group, a_directive_to}
use Rattle.lalrpop_re.proofs.Steps.{decided, not_true, not_false, is_one, span_joins, span_passes, span_is, stops}
use Rattle.lalrpop_re.proofs.OpeningLaws.{all_weaker, not_of, flags_sound, FlagLetters-complete}

-- ---- a text up to the first mark

-- the place of the first mark, or the end
pub first_or_end : (mark : ℕ → Bool) (t : Text) → unwrap_or (cond (ltb (position_or_len mark t) (length t)) (Some (position_or_len mark t)) None) (length t) ≡ position_or_len mark t
first_or_end mark t = elim (decided (ltb (position_or_len mark t) (length t))) [
  | inl h ↦ rw h refl
  | inr h ↦
      let n = prefix_len-le-length (λ c. not (mark c)) t in
      let e : length t ≡ position_or_len mark t = grind arith in
      rw h e
]

pub span_cuts : (test : ℕ → Bool) (t : Text) → (take (prefix_len test t) t, drop (prefix_len test t) t) ≡ span test t
span_cuts test [] = refl
span_cuts test (c ∷ t) = elim (decided (test c)) [
  | inl h ↦
      let others : (take (prefix_len test t) t, drop (prefix_len test t) t) ≡ span test t = span_cuts test t in
      let longer : 1 + prefix_len test t ≡ suc (prefix_len test t) = omega arith in
      rw (h, longer) (ap (λ (p : List ℕ × Text). (c ∷ p.0, p.1)) others)
  | inr h ↦ rw h refl
]

span_stops : (test : ℕ → Bool) (t : Text) → stops test (span test t).1 ≡ true
span_stops test [] = refl
span_stops test (c ∷ t) = elim (decided (test c)) [
  | inl h ↦ rw h (span_stops test t)
  | inr h ↦ rw (h, h) refl
]

-- a text in two parts: up to the first mark, and from there on
pub record IsCut (test : ℕ → Bool) (t front behind : Text) : Type 0 where
  pub joined : front ++ behind ≡ t
  pub passed : list_all test front ≡ true
  pub stopped : stops test behind ≡ true

pub cut_of : (test : ℕ → Bool) (t front behind : Text) → (front, behind) ≡ span test t → IsCut test t front behind
cut_of test t front behind e =
    let P : List ℕ × Text → Type 0 = λ p. IsCut test t p.0 p.1 in
    subst P (sym e) (record { joined = span_joins test t; passed = span_passes test t; stopped = span_stops test t })

drop_past : (v w : Text) → drop (length v + 1) (v ++ w) ≡ drop 1 w
drop_past [] w = let e : 0 + 1 ≡ 1 = omega arith in rw e refl
drop_past (c ∷ v) w =
    let e : suc (length v) + 1 ≡ suc (length v + 1) = omega arith in
    rw e (drop_past v w)

-- what follows the mark
pub past_mark : {test : ℕ → Bool} {t front behind : Text} → IsCut test t front behind → drop (length front + 1) t ≡ drop 1 behind
past_mark {front = front} {behind = behind} k = subst (λ (u : Text). drop (length front + 1) u ≡ drop 1 behind) k.joined (drop_past front behind)

pub mark_within : {test : ℕ → Bool} {t front behind : Text} → IsCut test t front behind → 0 < length behind → length front + 1 ≤ length t
mark_within {front = front} {behind = behind} k h = omega (arith, ap length k.joined, length-append front behind)

pub span_again : {test : ℕ → Bool} {t front behind : Text} → IsCut test t front behind → span test t ≡ (front, behind)
span_again {test = test} {front = front} {behind = behind} k = subst (λ (u : Text). span test u ≡ (front, behind)) k.joined (span_is test front behind k.passed k.stopped)

-- ---- names

pub name_found : (f : Flags) {t front behind : Text} → IsCut ends_name t front behind → begins ">" behind ≡ true → is_name front ≡ true → (u : Text)
    → opened_of f (name_at t) u ≡ Some (a_named_group (encode_utf8_all front), drop (length front + 1) t)
unfolding name_at
name_found f k h n u = rw (span_again k, h, n, past_mark k) refl

pub name_of_parts : (name : List ℕ) (first : ℕ) (others : Bool) → 1 ≤ length name → first ≡ get_or name 0 first → begins_name first ≡ true
    → others ≡ list_all continues_name (take (length name - 1) (drop 1 name)) → others ≡ is_name name
name_of_parts [] first others h e b k = absurd (omega arith)
name_of_parts (c ∷ cs) first others h e b k =
    let begins : begins_name c ≡ true = subst (λ d. begins_name d ≡ true) e b in
    let all : suc (length cs) - 1 ≡ length cs = omega arith in
    rw begins (k ∙ rw (all, take-length) refl)

-- ---- flags and the mark after them

pub group_found : (f g : Flags) {t front behind : Text} → IsCut ends_letters t front behind → begins ":" behind ≡ true → flags_of f front ≡ Some g → (u : Text)
    → opened_of f (letters_at t) u ≡ Some (a_flagged_group g, drop (length front + 1) t)
unfolding letters_at
group_found f g k h e u = rw (span_again k, h, e, past_mark k) refl

pub not_empty : (w : List ℕ) → (length w == 0) ≡ false → 0 < length w
not_empty [] h = let e : true ≡ false = h in absurd cc
not_empty (c ∷ w) h = omega arith

pub directive_found : (f g : Flags) {t front behind : Text} → IsCut ends_letters t front behind → begins ":" behind ≡ false → begins ")" behind ≡ true → 0 < length front → flags_of f front ≡ Some g → (u : Text)
    → opened_of f (letters_at t) u ≡ Some (a_directive_to g, drop (length front + 1) t)
unfolding letters_at
directive_found f g {front = front} k n h z e u = rw (span_again k, n, h, lt-ltb 0 (length front) z, e, past_mark k) refl

-- ---- flags

-- all but a hyphen
abbrev pub no_hyphen : ℕ → Bool
no_hyphen c = not (is_one_of "-" c)

on_no_hyphen : (c : ℕ) → is_one_of "ismUu" c ≡ true → no_hyphen c ≡ true
on_no_hyphen c h = rw (not_of (is_one_of "ismUu") 45 c refl h) refl

off_no_hyphen : (c : ℕ) → is_one_of "ismU" c ≡ true → no_hyphen c ≡ true
off_no_hyphen c h = rw (not_of (is_one_of "ismU") 45 c refl h) refl

abbrev pub IsOn : List ℕ → Type 0
IsOn w = list_all (is_one_of "ismUu") w ≡ true

abbrev pub IsOff : List ℕ → Type 0
IsOff w = list_all (is_one_of "ismU") w ≡ true

no_hyphen_in : (w : List ℕ) → list_all no_hyphen w ≡ true → list_any (λ d. d == 45) w ≡ false
no_hyphen_in [] h = refl
no_hyphen_in (c ∷ w) h =
    let both = and_parts (no_hyphen c) _ h in
    let here : (c == 45) ≡ false = not_hyphen c both.0 in
    rw (here, no_hyphen_in w both.1) refl
  where
    not_hyphen : (c : ℕ) → no_hyphen c ≡ true → (c == 45) ≡ false
    not_hyphen c h = elim (decided (c == 45)) [
      | inl e ↦ absurd (let s : no_hyphen 45 ≡ true = subst (λ b. no_hyphen b ≡ true) (eqb-true c 45 e) h in cc)
      | inr e ↦ e
    ]

any_past_hyphen : (c : ℕ) (v w : List ℕ) → (45 == c) ≡ false → list_any (λ d. d == c) (v ++ 45 ∷ w) ≡ list_any (λ d. d == c) (v ++ w)
any_past_hyphen c [] w h = rw h refl
any_past_hyphen c (d ∷ v) w h = rw (any_past_hyphen c v w h) refl

distinct_past_hyphen : (v w : List ℕ) → IsOn v → list_all no_hyphen w ≡ true → is_distinct (v ++ 45 ∷ w) ≡ is_distinct (v ++ w)
distinct_past_hyphen [] w h k = rw (no_hyphen_in w k) refl
distinct_past_hyphen (c ∷ v) w h k =
    let both = and_parts (is_one_of "ismUu" c) _ h in
    rw (any_past_hyphen c v w (not_of (is_one_of "ismUu") 45 c refl both.0), distinct_past_hyphen v w both.1 k) refl

off_without_hyphen : (w : List ℕ) → IsOff w → list_all no_hyphen w ≡ true
off_without_hyphen w h = all_weaker (is_one_of "ismU") no_hyphen off_no_hyphen w h

-- what the code tests of the letters on both sides of a hyphen
pub record AreFlags (letters front behind : List ℕ) : Type 0 where
  pub switched_on : IsOn front
  pub switched_off : IsOff (drop 1 behind)
  pub distinct : is_distinct letters ≡ true
  pub not_alone : length behind ≡ 1 → ⊥

same_cut : {test : ℕ → Bool} {t a b v w : Text} → IsCut test t a b → IsCut test t v w → ◌≡◌ {A = List ℕ × Text} (a, b) (v, w)
same_cut k j = sym (span_again k) ∙ span_again j

FlagLetters-tested : {f g : Flags} {letters front behind : List ℕ} → FlagLetters f letters g → IsCut no_hyphen letters front behind → AreFlags letters front behind
FlagLetters-tested (on letters a d) k =
    let P : List ℕ × Text → Type 0 = λ p. AreFlags letters p.0 p.1 in
    let whole : IsCut no_hyphen letters letters [] = record { joined = append-nil letters; passed = all_weaker (is_one_of "ismUu") no_hyphen on_no_hyphen letters a; stopped = refl } in
    subst P (same_cut whole k) (record { switched_on = a; switched_off = refl; distinct = d; not_alone = λ e. absurd (omega arith) })
FlagLetters-tested (on_and_off letters others a b z d) k =
    let P : List ℕ × Text → Type 0 = λ p. AreFlags (letters ++ 45 ∷ others) p.0 p.1 in
    let parted : IsCut no_hyphen (letters ++ 45 ∷ others) letters (45 ∷ others) = record { joined = refl; passed = all_weaker (is_one_of "ismUu") no_hyphen on_no_hyphen letters a; stopped = refl } in
    subst P (same_cut parted k) (record {
      switched_on = a;
      switched_off = b;
      distinct = distinct_past_hyphen letters others a (off_without_hyphen others b) ∙ d;
      not_alone = λ e. absurd (omega arith);
    })

pub FlagLetters-from_tests : (f : Flags) (letters front behind : List ℕ) → IsCut no_hyphen letters front behind → AreFlags letters front behind
    → FlagLetters f letters (with_flags false (with_flags true f front) (drop 1 behind))
FlagLetters-from_tests f letters front [] k h =
    let same : front ≡ letters = sym (append-nil front) ∙ k.joined in
    let d : is_distinct front ≡ true = subst (λ (w : List ℕ). is_distinct w ≡ true) (sym same) h.distinct in
    subst (λ (w : List ℕ). FlagLetters f w (with_flags true f front)) same (on front h.switched_on d)
FlagLetters-from_tests f letters front (c ∷ off) k h =
    let e : 45 ≡ c = is_one 45 c (not_true (is_one_of "-" c) (not_false (no_hyphen c) k.stopped)) in
    let same : front ++ 45 ∷ off ≡ letters = ap (λ b. front ++ b ∷ off) e ∙ k.joined in
    let d : is_distinct (front ++ 45 ∷ off) ≡ true = subst (λ (w : List ℕ). is_distinct w ≡ true) (sym same) h.distinct in
    let some : 0 < length off = more (length off) h.not_alone in
    subst (λ (w : List ℕ). FlagLetters f w (with_flags false (with_flags true f front) off)) same
    (on_and_off front off h.switched_on h.switched_off some (sym (distinct_past_hyphen front off h.switched_on (off_without_hyphen off h.switched_off)) ∙ d))
  where
    more : (n : ℕ) → (suc n ≡ 1 → ⊥) → 0 < n
    more zero h = absurd (h refl)
    more (suc n) h = omega arith

pub flags_found : (f : Flags) {letters front behind : List ℕ} → IsCut no_hyphen letters front behind → AreFlags letters front behind
    → flags_of f letters ≡ Some (with_flags false (with_flags true f front) (drop 1 behind))
flags_found f {letters = letters} {front = front} {behind = behind} k h = FlagLetters-complete (FlagLetters-from_tests f letters front behind k h)

pub differ : {b : Bool} → b ≡ true → b ≡ false → ⊥
differ h k = let e : true ≡ false = sym h ∙ k in cc

none_if : {A : Type 0} (o : Option A) → ((x : A) → o ≡ Some x → ⊥) → o ≡ None
none_if None h = refl
none_if (Some x) h = absurd (h x refl)

pub flags_refused : (f : Flags) {letters front behind : List ℕ} → IsCut no_hyphen letters front behind → (AreFlags letters front behind → ⊥) → flags_of f letters ≡ None
flags_refused f {letters = letters} k h = none_if (flags_of f letters) (λ g e. h (FlagLetters-tested (flags_sound f g letters e) k))
