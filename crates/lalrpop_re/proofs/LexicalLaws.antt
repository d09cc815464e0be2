-- Counts, operators, flags and names: the reader finds what the grammar has.
use Rattle.std.proofs.Common.{◌≡◌, ℕ, ◌<◌, ◌≤◌, ◌^◌, Bool, true, false, nat_lt, nat_le, ◌&&◌, ◌==◌, [], ◌∷◌, ◌++◌, length, drop, Option, Some, None, refl, arith, codes, sym, ap, ◌∙◌, subst, inl, inr, length-append}
use Rattle.std.specs.List.{list_all}
use Rattle.std.specs.Char.{is_ascii_digit, is_whitespace}
use Rattle.std.proofs.lemmas.Bool.{leb-true, le-leb, lt-ltb, ltb-true, and_parts, eqb-true}
use Rattle.std.proofs.lemmas.Bool.Decides.{nat_tests}
use Rattle.unicode.specs.Binary.{is_white_space}
use Rattle.unicode.proofs.PropsStdLemmas.{is_white_space-std}
use Rattle.unicode.proofs.PropsComputing.{ucd_props}
use Rattle.lalrpop_re.specs.Text.{Text, begins}
use Rattle.lalrpop_re.specs.CharacterSet.{is_one_of}
use Rattle.lalrpop_re.specs.declared.flags.Flags.{Flags}
use Rattle.lalrpop_re.specs.Operator.{decimal, Count, count, Bounds, optional, any_number, one_or_more, exactly, at_least, between, Operator, alone, turned}
use Rattle.lalrpop_re.specs.Internal.Reading as reading
use Rattle.lalrpop_re.specs.Internal.Reading.{◌>>=◌, span, braces, bounds, operator, flags_of, ends_name, ends_letters}
use Rattle.lalrpop_re.proofs.Steps.{bind_some, some_is, chosen, guarded, decided, starts_is, span_joins, span_passes, span_is, stops, is_one}

-- ---- characters

space_stops_close : is_white_space 125 ≡ false
unfolding ucd_props
space_stops_close = refl

space_stops_comma : is_white_space 44 ≡ false
unfolding ucd_props
space_stops_comma = refl

digit_no_space : (c : ℕ) → is_ascii_digit c ≡ true → is_white_space c ≡ false
digit_no_space c h = sym (is_white_space-std c) ∙ std c h
  where
    std : (c : ℕ) → is_ascii_digit c ≡ true → is_whitespace c ≡ false
    std c h = grind (arith, nat_tests)

-- the next character is not of the class, written as a test on what follows
no_digit_next : (behind r : Text) → list_all is_white_space behind ≡ true → stops is_ascii_digit r ≡ true → stops is_ascii_digit (behind ++ r) ≡ true
no_digit_next [] r h k = k
no_digit_next (c ∷ behind) r h k = elim (decided (is_ascii_digit c)) [
  | inl d ↦ absurd (let a : is_white_space c ≡ true = (and_parts (is_white_space c) _ h).0 in let b : is_white_space c ≡ false = digit_no_space c d in let e : true ≡ false = sym a ∙ b in cc)
  | inr d ↦ rw d refl
]

no_space_next : (digits r : Text) → 0 < length digits → list_all is_ascii_digit digits ≡ true → stops is_white_space (digits ++ r) ≡ true
no_space_next [] r h k = absurd (omega arith)
no_space_next (c ∷ digits) r h k = rw (digit_no_space c (and_parts (is_ascii_digit c) _ k).0) refl

-- ---- counts

pub Count-shorter : {t r : Text} {n : ℕ} → Count t r n → length r < length t
Count-shorter (count {r = r} before digits behind a b d e v l) =
    omega (arith, length-append before digits, length-append (before ++ digits) behind, length-append before (digits ++ (behind ++ r)), length-append digits (behind ++ r), length-append behind r)

count_sound : (t : Text) (x : ℕ × Text) → reading.count t ≡ Some x → Count t x.1 x.0
unfolding reading.count
count_sound t x e =
    let g = guarded (nat_lt 0 (length (span is_ascii_digit (span is_white_space t).1).0) && nat_lt (decimal (span is_ascii_digit (span is_white_space t).1).0 0) (2 ^ 32)) _ _ e in
    let both = and_parts (nat_lt 0 (length (span is_ascii_digit (span is_white_space t).1).0)) _ g.0 in
    let a = span is_white_space t in
    let b = span is_ascii_digit a.1 in
    let d = span is_white_space b.1 in
    let whole : a.0 ++ (b.0 ++ (d.0 ++ d.1)) ≡ t =
    ap (λ (u : Text). a.0 ++ (b.0 ++ u)) (span_joins is_white_space b.1) ∙ ap (λ (u : Text). a.0 ++ u) (span_joins is_ascii_digit a.1) ∙ span_joins is_white_space t in
    subst (λ (y : ℕ × Text). Count t y.1 y.0) (some_is (decimal b.0 0, d.1) x g.1) (subst (λ (u : Text). Count u d.1 (decimal b.0 0)) whole
    (count a.0 b.0 d.0 (span_passes is_white_space t) (span_passes is_ascii_digit a.1) (ltb-true 0 _ both.0) (span_passes is_white_space b.1) refl (ltb-true _ _ both.1)))

count_complete : {t r : Text} {n : ℕ} → Count t r n → stops is_white_space r ≡ true → stops is_ascii_digit r ≡ true → reading.count t ≡ Some (n, r)
unfolding reading.count
count_complete (count {n = n} {r = r} before digits behind a b d e v l) h k =
    rw (
      span_is is_white_space before (digits ++ (behind ++ r)) a (no_space_next digits (behind ++ r) d b),
      span_is is_ascii_digit digits (behind ++ r) b (no_digit_next behind r e k),
      span_is is_white_space behind r e h,
      lt-ltb 0 (length digits) d,
      ← v,
      lt-ltb n (2 ^ 32) l,
    ) refl

-- no count begins with `}`
count_begins : {t r : Text} {n : ℕ} → Count t r n → begins "}" t ≡ false
count_begins (count {r = r} before digits behind a b d e v l) = go before digits (behind ++ r) a b d
  where
    not_close : (c : ℕ) → is_white_space c ≡ true → (125 == c) ≡ false
    not_close c h = elim (decided (125 == c)) [
      | inl q ↦ absurd (let s : is_white_space 125 ≡ true = subst (λ b. is_white_space b ≡ true) (sym (eqb-true 125 c q)) h in let z : true ≡ false = sym s ∙ space_stops_close in cc)
      | inr q ↦ q
    ]

    not_digit : (c : ℕ) → is_ascii_digit c ≡ true → (125 == c) ≡ false
    not_digit c h = elim (decided (125 == c)) [
      | inl q ↦ absurd (let s : is_ascii_digit 125 ≡ true = subst (λ b. is_ascii_digit b ≡ true) (sym (eqb-true 125 c q)) h in cc)
      | inr q ↦ q
    ]

    go : (w ds u : Text) → list_all is_white_space w ≡ true → list_all is_ascii_digit ds ≡ true → 0 < length ds → begins "}" (w ++ (ds ++ u)) ≡ false
    go [] [] u p q z = absurd (omega arith)
    go [] (c ∷ ds) u p q z = rw (not_digit c (and_parts (is_ascii_digit c) _ q).0) refl
    go (c ∷ w) ds u p q z = rw (not_close c (and_parts (is_white_space c) _ p).0) refl

-- ---- bounds and operators

pub Bounds-shorter : {t r : Text} {n : ℕ} {m : Option ℕ} → Bounds t r n m → length r < length t
Bounds-shorter optional = omega arith
Bounds-shorter any_number = omega arith
Bounds-shorter one_or_more = omega arith
Bounds-shorter (exactly c) = let k = Count-shorter c in omega arith
Bounds-shorter (at_least c) = let k = Count-shorter c in omega arith
Bounds-shorter (between c d le) = let k = Count-shorter c in let j = Count-shorter d in omega arith

pub Operator-shorter : {f : Flags} {t r : Text} {n : ℕ} {m : Option ℕ} {g : Bool} → Operator f t r n m g → length r < length t
Operator-shorter (alone b h) = Bounds-shorter b
Operator-shorter (turned b) = let k = Bounds-shorter b in omega arith

braces_sound : (t : Text) (x : ℕ × Option ℕ × Text) → braces t ≡ Some x → Bounds (123 ∷ t) x.2 x.0 x.1
unfolding braces
braces_sound t x e =
    let c = bind_some (reading.count t) _ _ e in
    let h = count_sound t c.0 c.1 in
    elim (chosen (begins "}" c.0.1) _ _ _ c.2) [
      | inl k ↦ subst (λ (y : ℕ × Option ℕ × Text). Bounds (123 ∷ t) y.2 y.0 y.1) (some_is _ x k.1) (exactly (subst (λ (u : Text). Count t u c.0.0) (sym (starts_is (codes "}") c.0.1 k.0)) h))
      | inr k ↦ elim (chosen (begins ",}" c.0.1) _ _ _ k.1) [
        | inl l ↦ subst (λ (y : ℕ × Option ℕ × Text). Bounds (123 ∷ t) y.2 y.0 y.1) (some_is _ x l.1) (at_least (subst (λ (u : Text). Count t u c.0.0) (sym (starts_is (codes ",}") c.0.1 l.0)) h))
        | inr l ↦
            let g = guarded (begins "," c.0.1) _ _ l.1 in
            let d = bind_some (reading.count (drop 1 c.0.1)) _ _ g.1 in
            let q = count_sound (drop 1 c.0.1) d.0 d.1 in
            let w = guarded (begins "}" d.0.1 && nat_le c.0.0 d.0.0) _ _ d.2 in
            let both = and_parts (begins "}" d.0.1) _ w.0 in
            subst (λ (y : ℕ × Option ℕ × Text). Bounds (123 ∷ t) y.2 y.0 y.1) (some_is _ x w.1)
            (between (subst (λ (u : Text). Count t u c.0.0) (sym (starts_is (codes ",") c.0.1 g.0)) h) (subst (λ (u : Text). Count (drop 1 c.0.1) u d.0.0) (sym (starts_is (codes "}") d.0.1 both.0)) q) (leb-true _ _ both.1))
      ]
    ]

bounds_sound : (t : Text) (x : ℕ × Option ℕ × Text) → bounds t ≡ Some x → Bounds t x.2 x.0 x.1
unfolding bounds
bounds_sound [] x e = absurd cc
bounds_sound (c ∷ t) x e = elim (chosen (is_one_of "?" c) _ _ _ e) [
  | inl k ↦ subst (λ (y : ℕ × Option ℕ × Text). Bounds (c ∷ t) y.2 y.0 y.1) (some_is (0, Some 1, t) x k.1) (subst (λ b. Bounds (b ∷ t) t 0 (Some 1)) (is_one 63 c k.0) optional)
  | inr k ↦ elim (chosen (is_one_of "*" c) _ _ _ k.1) [
    | inl l ↦ subst (λ (y : ℕ × Option ℕ × Text). Bounds (c ∷ t) y.2 y.0 y.1) (some_is (0, None, t) x l.1) (subst (λ b. Bounds (b ∷ t) t 0 None) (is_one 42 c l.0) any_number)
    | inr l ↦ elim (chosen (is_one_of "+" c) _ _ _ l.1) [
      | inl m ↦ subst (λ (y : ℕ × Option ℕ × Text). Bounds (c ∷ t) y.2 y.0 y.1) (some_is (1, None, t) x m.1) (subst (λ b. Bounds (b ∷ t) t 1 None) (is_one 43 c m.0) one_or_more)
      | inr m ↦ let g = guarded (is_one_of "{" c) _ _ m.1 in subst (λ b. Bounds (b ∷ t) x.2 x.0 x.1) (is_one 123 c g.0) (braces_sound t x g.1)
    ]
  ]
]

pub operator_sound : (f : Flags) (t : Text) (x : ℕ × Option ℕ × Bool × Text) → operator f t ≡ Some x → Operator f t x.3 x.0 x.1 x.2
unfolding operator
operator_sound f t x e =
    let b = bind_some (bounds t) _ _ e in
    let h = bounds_sound t b.0 b.1 in
    elim (chosen (begins "?" b.0.2) _ _ _ b.2) [
      | inl k ↦ subst (λ (y : ℕ × Option ℕ × Bool × Text). Operator f t y.3 y.0 y.1 y.2) (some_is _ x k.1) (turned (subst (λ (u : Text). Bounds t u b.0.0 b.0.1) (sym (starts_is (codes "?") b.0.2 k.0)) h))
      | inr k ↦ subst (λ (y : ℕ × Option ℕ × Bool × Text). Operator f t y.3 y.0 y.1 y.2) (some_is _ x k.1) (alone h k.0)
    ]

braces_exactly : (t r : Text) (n : ℕ) → Count t (125 ∷ r) n → braces t ≡ Some (n, Some n, r)
unfolding braces
braces_exactly t r n c = rw (count_complete c (rw space_stops_close refl) refl) refl

braces_at_least : (t r : Text) (n : ℕ) → Count t (44 ∷ 125 ∷ r) n → braces t ≡ Some (n, None, r)
unfolding braces
braces_at_least t r n c = rw (count_complete c (rw space_stops_comma refl) refl) refl

braces_between : (t u r : Text) (n m : ℕ) → Count t (44 ∷ u) n → Count u (125 ∷ r) m → n ≤ m → braces t ≡ Some (n, Some m, r)
unfolding braces
braces_between t u r n m c d le =
    rw (count_complete c (rw space_stops_comma refl) refl, no_close u (count_begins d), count_complete d (rw space_stops_close refl) refl, le-leb n m le) refl
  where
    no_close : (u : Text) → begins "}" u ≡ false → begins ",}" (44 ∷ u) ≡ false
    no_close [] h = refl
    no_close (c ∷ u) h = h

bounds_complete : {t r : Text} {n : ℕ} {m : Option ℕ} → Bounds t r n m → bounds t ≡ Some (n, m, r)
unfolding bounds
bounds_complete optional = refl
bounds_complete any_number = refl
bounds_complete one_or_more = refl
bounds_complete (exactly {t = t} {r = r} {n = n} c) = braces_exactly t r n c
bounds_complete (at_least {t = t} {r = r} {n = n} c) = braces_at_least t r n c
bounds_complete (between {t = t} {u = u} {r = r} {n = n} {m = m} c d le) = braces_between t u r n m c d le

pub operator_complete : {f : Flags} {g : Bool} {t r : Text} {n : ℕ} {m : Option ℕ} → Operator f t r n m g → operator f t ≡ Some (n, m, g, r)
unfolding operator
operator_complete (alone b h) = rw (bounds_complete b, h) refl
operator_complete (turned b) = rw (bounds_complete b) refl
