-- The numbers that digits write, as the code reads them.
use Rattle.std.proofs.Common.{◌≡◌, ℕ, ◌+◌, ◌*◌, ◌^◌, ◌<◌, ◌≤◌, Bool, true, false, cond, nat_lt, ◌&&◌, ◌==◌, List, [], ◌∷◌, length, drop, get_or, Option, Some, None, refl, arith, sym, ap, ◌∙◌, inl, inr}
use Rattle.std.specs.List.{list_all}
use Rattle.std.specs.Char.{is_digit, digit_value, is_ascii_digit, is_ascii_hexdigit, IsScalar, InScalarRange, OutOfScalarRange}
use Rattle.std.specs.Option.{SomeIff, MatchOption}
use Rattle.std.specs.Str.Parse.{digits_value_after}
use Rattle.std.proofs.Math.Nat.{le-mul_of_pos_right}
use Rattle.std.proofs.lemmas.Bool.{lt-ltb, le-ltb, ltb-true, ltb-false, and_parts, eqb-true, eqb-false}
use Rattle.std.proofs.lemmas.Bool.Decides.{nat_tests}
use Rattle.std.proofs.lemmas.List.{at_drop_more, at_drop_all}
use Rattle.lalrpop_re.specs.CharacterSet.{is_scalar}
use Rattle.lalrpop_re.specs.Escape.{hex_value}
use Rattle.lalrpop_re.specs.Operator.{decimal}
use Rattle.lalrpop_re.specs.Internal.Reading.{hex}
use Rattle.lalrpop_re.proofs.Steps.{decided, guarded, some_is}

-- ---- a loop over digits

-- the number that the digits write after those of n, if no step is too great
unfoldable pub number : ℕ → List ℕ → ℕ → Option ℕ
number radix [] n = Some n
number radix (c ∷ cs) n = cond (is_digit c radix && nat_lt (n * radix + digit_value c) (2 ^ 32)) (number radix cs (n * radix + digit_value c)) None

value_grows : (radix n : ℕ) (ds : List ℕ) → 0 < radix → n ≤ digits_value_after radix n ds
value_grows radix n [] h = omega arith
value_grows radix n (c ∷ cs) h =
    let a = value_grows radix (n * radix + digit_value c) cs h in
    let b : n ≤ n * radix = le-mul_of_pos_right n h in
    omega (arith, a, b)

-- what the digits write after those of n, as a test on all of them
abbrev pub written : ℕ → List ℕ → ℕ → Option ℕ
written radix ds n = cond (list_all (λ c. is_digit c radix) ds && nat_lt (digits_value_after radix n ds) (2 ^ 32)) (Some (digits_value_after radix n ds)) None

none_where : (a b : Bool) (x : Option ℕ) → b ≡ false → cond (a && b) x None ≡ None
none_where true b x h = rw h refl
none_where false b x h = refl

pub number_written : (radix : ℕ) (ds : List ℕ) (n : ℕ) → 0 < radix → n < 2 ^ 32 → number radix ds n ≡ written radix ds n
unfolding number
number_written radix [] n h lt = rw (lt-ltb n (2 ^ 32) lt) refl
number_written radix (c ∷ cs) n h lt = elim (decided (is_digit c radix)) [
  | inl d ↦ elim (decided (nat_lt (n * radix + digit_value c) (2 ^ 32))) [
    | inl k ↦ rw (d, k) (number_written radix cs (n * radix + digit_value c) h (ltb-true _ _ k))
    | inr k ↦
        let grows = value_grows radix (n * radix + digit_value c) cs h in
        let great : 2 ^ 32 ≤ n * radix + digit_value c = ltb-false _ _ k in
        rw (d, k) (sym (none_where (list_all (λ c. is_digit c radix) cs) _ _ (le-ltb _ (2 ^ 32) (omega (arith, grows, great)))))
  ]
  | inr d ↦ rw d refl
]

-- the digit c is at i, after the digits of n
module _ (radix : ℕ) (ds : List ℕ) (i n c : ℕ) (so_far : number radix (drop i ds) n ≡ number radix ds 0) (more : i < length ds) (here : c ≡ get_or ds i c) where
  number_next : number radix (c ∷ drop (i + 1) ds) n ≡ number radix ds 0
  number_next =
      let turn : number radix (drop i ds) n ≡ number radix (get_or ds i c ∷ drop (i + 1) ds) n = at_drop_more (λ (u : List ℕ). number radix u n) ds i c more in
      ap (λ d. number radix (d ∷ drop (i + 1) ds) n) here ∙ sym turn ∙ so_far

  pub number_turn : digit_value c < radix → n * radix + digit_value c < 2 ^ 32 → number radix (drop (i + 1) ds) (n * radix + digit_value c) ≡ number radix ds 0
  unfolding number
  number_turn d k = rw (lt-ltb _ _ d, lt-ltb _ _ k) at number_next

  pub number_refused : 0 < radix → 2 ^ 32 ≤ n * radix + digit_value c → written radix ds 0 ≡ None
  unfolding number
  number_refused h k = sym (number_written radix ds 0 h (omega arith)) ∙ sym number_next ∙ none_where (is_digit c radix) _ _ (le-ltb _ _ k)

pub number_end : (radix : ℕ) (ds : List ℕ) (i n : ℕ) → number radix (drop i ds) n ≡ number radix ds 0 → length ds ≤ i → 0 < radix → Some n ≡ written radix ds 0
unfolding number
number_end radix ds i n so_far done h =
    let last : number radix (drop i ds) n ≡ number radix [] n = at_drop_all (λ (u : List ℕ). number radix u n) ds i done in
    sym last ∙ so_far ∙ number_written radix ds 0 h (omega arith)

-- ---- tests of emptiness

pub not_empty : (t : List ℕ) → (length t == 0) ≡ false → nat_lt 0 (length t) ≡ true
not_empty t h = lt-ltb 0 (length t) (omega (arith, eqb-false (length t) 0 h))

pub is_empty : (t : List ℕ) → (length t == 0) ≡ true → nat_lt 0 (length t) ≡ false
is_empty t h = le-ltb 0 (length t) (omega (arith, eqb-true (length t) 0 h))

-- ---- decimal and hexadecimal numbers

list_all_same : (p q : ℕ → Bool) → ((c : ℕ) → p c ≡ q c) → (ds : List ℕ) → list_all p ds ≡ list_all q ds
list_all_same p q h [] = refl
list_all_same p q h (c ∷ cs) = rw (h c, list_all_same p q h cs) refl

digit_in_ten : (c : ℕ) → is_digit c 10 ≡ is_ascii_digit c
digit_in_ten c = grind (arith, nat_tests)

digit_in_sixteen : (c : ℕ) → is_digit c 16 ≡ is_ascii_hexdigit c
digit_in_sixteen c = grind (arith, nat_tests)

decimal_is : (ds : List ℕ) (n : ℕ) → digits_value_after 10 n ds ≡ decimal ds n
unfolding decimal
decimal_is [] n = refl
decimal_is (c ∷ cs) n = decimal_is cs (n * 10 + digit_value c)

hex_value_is : (ds : List ℕ) (n : ℕ) → digits_value_after 16 n ds ≡ hex_value ds n
unfolding hex_value
hex_value_is [] n = refl
hex_value_is (c ∷ cs) n = hex_value_is cs (n * 16 + digit_value c)

decimal_read : (ds : List ℕ) → list_all is_ascii_digit ds ≡ true → written 10 ds 0 ≡ cond (nat_lt (decimal ds 0) (2 ^ 32)) (Some (decimal ds 0)) None
decimal_read ds h = rw (list_all_same (λ c. is_digit c 10) is_ascii_digit digit_in_ten ds, h, decimal_is ds 0) refl

scalar_in : (n : ℕ) → InScalarRange n → is_scalar n ≡ true
scalar_in n h = grind (arith, nat_tests)

scalar_out : (n : ℕ) → OutOfScalarRange n → is_scalar n ≡ false
scalar_out n h = grind (arith, nat_tests)

great_out : (n : ℕ) → nat_lt n (2 ^ 32) ≡ false → is_scalar n ≡ false
great_out n h = let k : 2 ^ 32 ≤ n = ltb-false n (2 ^ 32) h in scalar_out n (inr (omega arith))

pub hex_none : (ds : List ℕ) → written 16 ds 0 ≡ None → hex ds ≡ None
unfolding hex
hex_none ds e = go (list_all is_ascii_hexdigit ds) (hex_value ds 0) (rw (list_all_same (λ c. is_digit c 16) is_ascii_hexdigit digit_in_sixteen ds, hex_value_is ds 0) at e)
  where
    go : (b : Bool) (v : ℕ) → cond (b && nat_lt v (2 ^ 32)) (Some v) None ≡ None → cond (b && is_scalar v) (Some v) None ≡ None
    go false v q = refl
    go true v q = elim (decided (nat_lt v (2 ^ 32))) [
      | inl k ↦ absurd (let s : Some v ≡ None = rw k at q in cc)
      | inr k ↦ none_where true _ _ (great_out v k)
    ]

pub hex_read : (ds : List ℕ) (n : ℕ) (r : Option ℕ) → written 16 ds 0 ≡ Some n → SomeIff r (IsScalar n) n → MatchOption r (OutOfScalarRange n) (λ c. InScalarRange n) → r ≡ hex ds
unfolding hex
hex_read ds n r e value cases = go (list_all is_ascii_hexdigit ds) (hex_value ds 0) r (rw (list_all_same (λ c. is_digit c 16) is_ascii_hexdigit digit_in_sixteen ds, hex_value_is ds 0) at e) value cases
  where
    found : (r : Option ℕ) → SomeIff r (IsScalar n) n → MatchOption r (OutOfScalarRange n) (λ c. InScalarRange n) → r ≡ cond (is_scalar n) (Some n) None
    found (Some c) value cases = rw (scalar_in n cases) (ap (λ m. Some m) value.1)
    found None value cases = rw (scalar_out n cases) refl

    go : (b : Bool) (v : ℕ) (r : Option ℕ) → cond (b && nat_lt v (2 ^ 32)) (Some v) None ≡ Some n → SomeIff r (IsScalar n) n → MatchOption r (OutOfScalarRange n) (λ c. InScalarRange n) → r ≡ cond (b && is_scalar v) (Some v) None
    go b v r q value cases =
        let g = guarded (b && nat_lt v (2 ^ 32)) (Some v) n q in
        let both = and_parts b _ g.0 in
        let same : v ≡ n = some_is v n g.1 in
        rw (both.0, same) (found r value cases)

pub decimal_of_some : (ds : List ℕ) → (length ds == 0) ≡ false → list_all is_ascii_digit ds ≡ true → written 10 ds 0 ≡ cond (nat_lt 0 (length ds) && nat_lt (decimal ds 0) (2 ^ 32)) (Some (decimal ds 0)) None
decimal_of_some ds h k = rw (not_empty ds h) (decimal_read ds k)

pub decimal_of_none : (ds : List ℕ) → (length ds == 0) ≡ true → cond (nat_lt 0 (length ds) && nat_lt (decimal ds 0) (2 ^ 32)) (Some (decimal ds 0)) None ≡ None
decimal_of_none ds h = rw (is_empty ds h) refl
