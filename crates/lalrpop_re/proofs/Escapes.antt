-- The reader of escapes finds what the grammar has.
use Rattle.std.proofs.Common.{◌≡◌, ℕ, suc, ◌<◌, ◌≤◌, Bool, true, false, cond, nat_lt, ◌&&◌, ◌==◌, List, [], ◌∷◌, ◌++◌, length, drop, take, Option, Some, None, refl, arith, codes, sym, ap, ◌∙◌, subst, inl, inr, length-append}
use Rattle.std.specs.List.{list_all}
use Rattle.std.specs.Char.{is_ascii_hexdigit}
use Rattle.std.proofs.lemmas.List.{take-append-drop}
use Rattle.std.proofs.Math.Seq.{take-append_seam, drop-append_seam}
use Rattle.std.proofs.lemmas.Bool.{ltb-true, lt-ltb, eqb-true, eq-eqb, and_parts}
use Rattle.lalrpop_re.specs.Text.{Text, ◌▸◌, begins}
use Rattle.lalrpop_re.specs.CharacterSet.{Set, is_scalar}
use Rattle.lalrpop_hir.specs.declared.look.Look.TheVariants.{WordUnicode, WordStartUnicode, WordEndUnicode, WordStartHalfUnicode, WordEndHalfUnicode}
use Rattle.lalrpop_re.specs.Escape.{Escaped, character, set, assertion, Sign, this, code, property, edge, unknown, sign, hex_value, is_set_name_char, IsHex, IsSetName, Signed, at_once, digits_alone, digits_braced, letter_alone, name_braced, edge_alone, edge_start, edge_end, edge_half_start, edge_half_end, Escape, escape_of}
use Rattle.lalrpop_re.specs.Internal.Reading.{span, hex, digits_of, name_of, set_named, signed, escape}
use Rattle.lalrpop_re.proofs.Steps.{bind_some, some_is, chosen, guarded, decided, starts_is, span_joins, span_is, or_none, or_parts}

-- ---- lengths

pub Signed-shorter : {g : Sign} {t r : Text} {e : Escaped} → Signed g t r e → length r ≤ length t
Signed-shorter at_once = omega arith
Signed-shorter (digits_alone {r = r} d ds n h) = omega (arith, length-append ds r)
Signed-shorter (digits_braced {r = r} digits n h) = omega (arith, length-append digits (125 ∷ r))
Signed-shorter (letter_alone h) = omega arith
Signed-shorter (name_braced {r = r} name h) = omega (arith, length-append name (125 ∷ r))
Signed-shorter (edge_alone h) = omega arith
Signed-shorter edge_start = omega arith
Signed-shorter edge_end = omega arith
Signed-shorter edge_half_start = omega arith
Signed-shorter edge_half_end = omega arith

pub Escape-shorter : {t r : Text} {e : Escaped} → Escape t r e → length r < length t
Escape-shorter (escape_of s) = let k = Signed-shorter s in omega arith

-- ---- sound

hex_sound : (digits : List ℕ) (v : ℕ) → hex digits ≡ Some v → IsHex digits v
unfolding hex
hex_sound digits v e =
    let g = guarded (list_all is_ascii_hexdigit digits && is_scalar (hex_value digits 0)) _ _ e in
    let both = and_parts (list_all is_ascii_hexdigit digits) _ g.0 in
    let same : hex_value digits 0 ≡ v = some_is _ _ g.1 in
    record { digits_only = both.0; value = sym same; scalar = subst (λ w. is_scalar w ≡ true) same both.1 }

set_named_sound : (name : List ℕ) (s : Set) → set_named name ≡ Some s → IsSetName name s
unfolding set_named
set_named_sound name s e =
    let g = guarded (nat_lt 0 (length name) && list_all is_set_name_char name) _ _ e in
    let both = and_parts (nat_lt 0 (length name)) _ g.0 in
    record { not_empty = ltb-true 0 (length name) both.0; spelled = both.1; found = g.1 }

first_and_last : (t : Text) → nat_lt 0 (length t) ≡ true → (d : ℕ) × (ds : List ℕ) × (t ≡ d ∷ ds)
first_and_last [] h = absurd cc
first_and_last (d ∷ ds) h = (d, ds, refl)

-- what is in braces
braced : (test : ℕ → Bool) (t : Text) → begins "{" t ≡ true → begins "}" (span test (drop 1 t)).1 ≡ true → t ≡ 123 ∷ ((span test (drop 1 t)).0 ++ 125 ∷ drop 1 (span test (drop 1 t)).1)
braced test t h k =
    let close : 125 ∷ drop 1 (span test (drop 1 t)).1 ≡ (span test (drop 1 t)).1 = starts_is (codes "}") _ k in
    let inner : (span test (drop 1 t)).0 ++ 125 ∷ drop 1 (span test (drop 1 t)).1 ≡ drop 1 t = ap (λ (u : Text). (span test (drop 1 t)).0 ++ u) close ∙ span_joins test (drop 1 t) in
    sym (starts_is (codes "{") t h) ∙ ap (λ (u : Text). 123 ∷ u) (sym inner)

digits_sound : (n : ℕ) (t : Text) (x : List ℕ × Text) (v : ℕ) → digits_of n t ≡ Some x → IsHex x.0 v → Signed (code n) t x.1 (character v)
unfolding digits_of
digits_sound n t x v e = elim (chosen (begins "{" t) _ _ _ e) [
  | inl k ↦
      let g = guarded (nat_lt 0 (length (span is_ascii_hexdigit (drop 1 t)).0) && begins "}" (span is_ascii_hexdigit (drop 1 t)).1) _ _ k.1 in
      let both = and_parts (nat_lt 0 (length (span is_ascii_hexdigit (drop 1 t)).0)) _ g.0 in
      subst (λ (y : List ℕ × Text). IsHex y.0 v → Signed (code n) t y.1 (character v)) (some_is _ x g.1)
      (λ h. subst (λ (u : Text). Signed (code n) u (drop 1 (span is_ascii_hexdigit (drop 1 t)).1) (character v)) (sym (braced is_ascii_hexdigit t k.0 both.1))
      (digits_braced (span is_ascii_hexdigit (drop 1 t)).0 (ltb-true 0 _ both.0) h))
  | inr k ↦
      let g = guarded (nat_lt 0 n && length (take n t) == n) _ _ k.1 in
      let both = and_parts (nat_lt 0 n) _ g.0 in
      let long : length (take n t) ≡ n = eqb-true _ _ both.1 in
      let parts = first_and_last (take n t) (subst (λ m. nat_lt 0 m ≡ true) (sym long) both.0) in
      subst (λ (y : List ℕ × Text). IsHex y.0 v → Signed (code n) t y.1 (character v)) (some_is (take n t, drop n t) x g.1)
      (λ h. subst (λ (u : Text). Signed (code n) u (drop n t) (character v)) (ap (λ (w : List ℕ). w ++ drop n t) (sym parts.2) ∙ take-append-drop n t)
      (digits_alone parts.0 parts.1 (ap length (sym parts.2) ∙ long) (subst (λ (w : List ℕ). IsHex w v) parts.2 h)))
]

name_sound : (negated : Bool) (t : Text) (x : List ℕ × Text) (s : Set) → name_of t ≡ Some x → IsSetName x.0 s → Signed (property negated) t x.1 (set s negated)
unfolding name_of
name_sound negated t x s e = elim (chosen (begins "{" t) _ _ _ e) [
  | inl k ↦
      let g = guarded (begins "}" (span is_set_name_char (drop 1 t)).1) _ _ k.1 in
      subst (λ (y : List ℕ × Text). IsSetName y.0 s → Signed (property negated) t y.1 (set s negated)) (some_is _ x g.1)
      (λ h. subst (λ (u : Text). Signed (property negated) u (drop 1 (span is_set_name_char (drop 1 t)).1) (set s negated)) (sym (braced is_set_name_char t k.0 g.0))
      (name_braced (span is_set_name_char (drop 1 t)).0 h))
  | inr k ↦ one t k.1
]
  where
    one : (u : Text) → cond (length (take 1 u) == 1) (Some (take 1 u, drop 1 u)) None ≡ Some x → IsSetName x.0 s → Signed (property negated) u x.1 (set s negated)
    one [] q = absurd cc
    one (c ∷ u) q = subst (λ (y : List ℕ × Text). IsSetName y.0 s → Signed (property negated) (c ∷ u) y.1 (set s negated)) (some_is (c ∷ [], u) x q) (λ h. letter_alone h)

edge_sound : (t : Text) (x : Escaped × Text) → signed edge t ≡ Some x → Signed edge t x.1 x.0
unfolding signed
edge_sound t x e = elim (chosen (begins "{start}" t) _ _ _ e) [
  | inl k ↦ subst (λ (y : Escaped × Text). Signed edge t y.1 y.0) (some_is _ x k.1) (subst (λ (u : Text). Signed edge u (drop 7 t) (assertion WordStartUnicode)) (starts_is (codes "{start}") t k.0) edge_start)
  | inr k ↦ elim (chosen (begins "{end}" t) _ _ _ k.1) [
    | inl l ↦ subst (λ (y : Escaped × Text). Signed edge t y.1 y.0) (some_is _ x l.1) (subst (λ (u : Text). Signed edge u (drop 5 t) (assertion WordEndUnicode)) (starts_is (codes "{end}") t l.0) edge_end)
    | inr l ↦ elim (chosen (begins "{start-half}" t) _ _ _ l.1) [
      | inl m ↦ subst (λ (y : Escaped × Text). Signed edge t y.1 y.0) (some_is _ x m.1) (subst (λ (u : Text). Signed edge u (drop 12 t) (assertion WordStartHalfUnicode)) (starts_is (codes "{start-half}") t m.0) edge_half_start)
      | inr m ↦ elim (chosen (begins "{end-half}" t) _ _ _ m.1) [
        | inl o ↦ subst (λ (y : Escaped × Text). Signed edge t y.1 y.0) (some_is _ x o.1) (subst (λ (u : Text). Signed edge u (drop 10 t) (assertion WordEndHalfUnicode)) (starts_is (codes "{end-half}") t o.0) edge_half_end)
        | inr o ↦ subst (λ (y : Escaped × Text). Signed edge t y.1 y.0) (some_is _ x o.1) (edge_alone (or_none _ _ (or_none _ _ (or_none _ _ k.0 l.0) m.0) o.0))
      ]
    ]
  ]
]

-- ---- complete

edge_none : (r : Text) → begins "{start}" r ≡ false → begins "{end}" r ≡ false → begins "{start-half}" r ≡ false → begins "{end-half}" r ≡ false → signed edge r ≡ Some (assertion WordUnicode, r)
unfolding signed
edge_none r a b d e = four _ _ _ _ _ _ _ _ _ a b d e
  where
    four : (a b d e : Bool) (x y z w v : Option (Escaped × Text)) → a ≡ false → b ≡ false → d ≡ false → e ≡ false → cond a x (cond b y (cond d z (cond e w v))) ≡ v
    four a b d e x y z w v i j k l = rw (i, j, k, l) refl

hex_complete : (digits : List ℕ) (v : ℕ) → IsHex digits v → hex digits ≡ Some v
unfolding hex
hex_complete digits v h = rw (h.digits_only, ← h.value, h.scalar) refl

set_named_complete : (name : List ℕ) (s : Set) → IsSetName name s → set_named name ≡ Some s
unfolding set_named
set_named_complete name s h = rw (lt-ltb 0 (length name) h.not_empty, h.spelled) h.found

pub signed_sound : (g : Sign) (t : Text) (x : Escaped × Text) → signed g t ≡ Some x → Signed g t x.1 x.0
unfolding signed
signed_sound (this k) t x e = subst (λ (y : Escaped × Text). Signed (this k) t y.1 y.0) (some_is (k, t) x e) at_once
signed_sound (code n) t x e =
    let d = bind_some (digits_of n t) _ _ e in
    let v = bind_some (hex d.0.0) _ _ d.2 in
    subst (λ (y : Escaped × Text). Signed (code n) t y.1 y.0) (some_is (character v.0, d.0.1) x v.2) (digits_sound n t d.0 v.0 d.1 (hex_sound d.0.0 v.0 v.1))
signed_sound (property negated) t x e =
    let d = bind_some (name_of t) _ _ e in
    let s = bind_some (set_named d.0.0) _ _ d.2 in
    subst (λ (y : Escaped × Text). Signed (property negated) t y.1 y.0) (some_is (set s.0 negated, d.0.1) x s.2) (name_sound negated t d.0 s.0 d.1 (set_named_sound d.0.0 s.0 s.1))
signed_sound edge t x e = edge_sound t x e
signed_sound unknown t x e = absurd cc

pub escape_sound : (t : Text) (x : Escaped × Text) → escape t ≡ Some x → Escape t x.1 x.0
unfolding escape
escape_sound [] x e = absurd cc
escape_sound (c ∷ t) x e = escape_of (signed_sound (sign c) t x e)

no_brace : (d : ℕ) → is_ascii_hexdigit d ≡ true → (123 == d) ≡ false
no_brace d h = elim (decided (123 == d)) [
  | inl e ↦ absurd (not_hex (subst (λ c. is_ascii_hexdigit c ≡ true) (sym (eqb-true 123 d e)) h))
  | inr e ↦ e
]
  where
    not_hex : is_ascii_hexdigit 123 ≡ true → ⊥
    not_hex q = cc

no_brace_name : (d : ℕ) → is_set_name_char d ≡ true → (123 == d) ≡ false
no_brace_name d h = elim (decided (123 == d)) [
  | inl e ↦ absurd (not_name (subst (λ c. is_set_name_char c ≡ true) (sym (eqb-true 123 d e)) h))
  | inr e ↦ e
]
  where
    not_name : is_set_name_char 123 ≡ true → ⊥
    not_name q = cc

digits_of_alone : (n d : ℕ) (ds : List ℕ) (r : Text) → is_ascii_hexdigit d ≡ true → suc (length ds) ≡ n → digits_of n (d ∷ ds ▸ r) ≡ Some (d ∷ ds, r)
unfolding digits_of
digits_of_alone n d ds r h e =
    let taken : take n (d ∷ (ds ++ r)) ≡ d ∷ ds = subst (λ m. take m (d ∷ (ds ++ r)) ≡ d ∷ ds) e (ap (λ (w : List ℕ). d ∷ w) (take-append_seam ds r)) in
    let dropped : drop n (d ∷ (ds ++ r)) ≡ r = subst (λ m. drop m (d ∷ (ds ++ r)) ≡ r) e (drop-append_seam ds r) in
    let long : (length (take n (d ∷ (ds ++ r))) == n) ≡ true = eq-eqb _ n (ap length taken ∙ e) in
    rw (no_brace d h, lt-ltb 0 n (omega arith), long, taken, dropped) refl

digits_of_braced : (n : ℕ) (digits : List ℕ) (r : Text) → 0 < length digits → list_all is_ascii_hexdigit digits ≡ true → digits_of n (codes "{" ▸ digits ▸ codes "}" ▸ r) ≡ Some (digits, r)
unfolding digits_of
digits_of_braced n digits r h k = rw (span_is is_ascii_hexdigit digits (125 ∷ r) k refl, lt-ltb 0 (length digits) h) refl

name_of_braced : (name : List ℕ) (r : Text) → list_all is_set_name_char name ≡ true → name_of (codes "{" ▸ name ▸ codes "}" ▸ r) ≡ Some (name, r)
unfolding name_of
name_of_braced name r k = rw (span_is is_set_name_char name (125 ∷ r) k refl) refl

name_of_alone : (c : ℕ) (r : Text) → is_set_name_char c ≡ true → name_of (c ∷ r) ≡ Some (c ∷ [], r)
unfolding name_of
name_of_alone c r k = rw (no_brace_name c k) refl

pub Signed-complete : {g : Sign} {t r : Text} {e : Escaped} → Signed g t r e → signed g t ≡ Some (e, r)
unfolding signed
Signed-complete at_once = refl
Signed-complete (digits_alone {n = n} {v = v} {r = r} d ds m h) = rw (digits_of_alone n d ds r (and_parts (is_ascii_hexdigit d) _ h.digits_only).0 m, hex_complete (d ∷ ds) v h) refl
Signed-complete (digits_braced {n = n} {v = v} {r = r} digits m h) = rw (digits_of_braced n digits r m h.digits_only, hex_complete digits v h) refl
Signed-complete (letter_alone {c = c} {s = s} {r = r} h) = rw (name_of_alone c r (and_parts (is_set_name_char c) true h.spelled).0, set_named_complete (c ∷ []) s h) refl
Signed-complete (name_braced {s = s} {r = r} name h) = rw (name_of_braced name r h.spelled, set_named_complete name s h) refl
Signed-complete (edge_alone {r = r} h) =
    let a = or_parts _ _ h in
    let b = or_parts _ _ a.0 in
    let d = or_parts _ _ b.0 in
    edge_none r d.0 d.1 b.1 a.1
Signed-complete edge_start = refl
Signed-complete edge_end = refl
Signed-complete edge_half_start = refl
Signed-complete edge_half_end = refl

pub Escape-complete : {t r : Text} {e : Escaped} → Escape t r e → escape t ≡ Some (e, r)
unfolding escape
Escape-complete (escape_of s) = Signed-complete s
