-- The parts that the code splits off a text are those that the reader finds.
use Rattle.std.proofs.Common.{◌≡◌, ℕ, ◌+◌, ◌^◌, Bool, true, false, cond, nat_lt, ◌&&◌, ◌==◌, [], ◌∷◌, ◌++◌, length, slice_get, take, drop, Option, Some, None, refl, arith, sym, ap, ◌∙◌, subst, inl, inr}
use Rattle.std.specs.Char.{is_ascii_digit, is_ascii_hexdigit}
use Rattle.std.specs.List.{list_all, prefix_len}
use Rattle.std.proofs.Math.Numerals.{one-add}
use Rattle.std.proofs.lemmas.List.{drop-drop}
use Rattle.std.proofs.Math.Seq.{drop-append_seam}
use Rattle.unicode.specs.Binary.{is_white_space}
use Rattle.lalrpop_re.specs.Text.{Text, begins}
use Rattle.lalrpop_re.specs.CharacterSet.{Set}
use Rattle.lalrpop_re.specs.Escape.{set, property, sign, is_set_name_char}
use Rattle.lalrpop_re.specs.NamedSet.{named}
use Rattle.lalrpop_re.specs.Operator.{decimal}
use Rattle.lalrpop_re.specs.Internal.Reading.{span, digits_of, name_of, set_named, signed, escape, count}
use Rattle.lalrpop_re.proofs.Steps.{decided, some_is, span_joins, span_passes}
use Rattle.lalrpop_re.proofs.Numbers.{not_empty, is_empty}

-- ---- spans

span_of_prefix : (test : ℕ → Bool) (t : Text) → span test t ≡ (take (prefix_len test t) t, drop (prefix_len test t) t)
span_of_prefix test [] = refl
span_of_prefix test (c ∷ t) = elim (decided (test c)) [
  | inl h ↦ rw (h, span_of_prefix test t, one-add) refl
  | inr h ↦ rw h refl
]

span_at : (test : ℕ → Bool) (t : Text) (n : ℕ) → n ≡ prefix_len test t → span test t ≡ (take n t, drop n t)
span_at test t n e = subst (λ m. span test t ≡ (take m t, drop m t)) (sym e) (span_of_prefix test t)

-- the front that passes the test, as the code splits it off
pub cut_at : (test : ℕ → Bool) (t inside front back : Text) (n : ℕ) → inside ≡ t → n ≡ prefix_len test inside → front ≡ take n inside → back ≡ drop n inside → span test t ≡ (front, back)
cut_at test t inside front back n e k f b = subst (λ (u : Text). span test u ≡ (front, back)) e (span_at test inside n k ∙ ap (λ (u : Text). (u, drop n inside)) (sym f) ∙ ap (λ (u : Text). (front, u)) (sym b))

-- ---- escapes

pub escape_ends : (t : Text) → slice_get t 0 ≡ None → escape t ≡ None
unfolding escape
escape_ends [] e = refl
escape_ends (c ∷ t) e = absurd cc

pub escape_signed : (t : Text) (c : ℕ) → slice_get t 0 ≡ Some c → escape t ≡ signed (sign c) (drop 1 t)
unfolding escape
escape_signed [] c e = absurd cc
escape_signed (d ∷ t) c e = ap (λ b. signed (sign b) t) (some_is d c e)

-- ---- the digits and the names of escapes

-- what follows the closing brace of the characters between
behind_braces : (t front back : Text) (test : ℕ → Bool) → span test (drop 1 t) ≡ (front, back) → drop 1 back ≡ drop (length front + 2) t
behind_braces t front back test e =
    let joined : front ++ back ≡ drop 1 t = ap (λ (y : Text × Text). y.0 ++ y.1) (sym e) ∙ span_joins test (drop 1 t) in
    let back_is : drop (length front) (drop 1 t) ≡ back = ap (λ (u : Text). drop (length front) u) (sym joined) ∙ drop-append_seam front back in
    let steps : drop 1 (drop (length front) (drop 1 t)) ≡ drop ((1 + length front) + 1) t = drop-drop 1 (length front) (drop 1 t) ∙ drop-drop (length front + 1) 1 t ∙ ap (λ n. drop n t) (omega arith) in
    ap (λ (u : Text). drop 1 u) (sym back_is) ∙ steps ∙ ap (λ n. drop n t) (omega arith)

pub digits_found : (n : ℕ) (t front back : Text) → begins "{" t ≡ true → span is_ascii_hexdigit (drop 1 t) ≡ (front, back) → (length front == 0) ≡ false → begins "}" back ≡ true
    → digits_of n t ≡ Some (front, drop (length front + 2) t)
unfolding digits_of
digits_found n t front back h s e k = rw (h, s, not_empty front e, k) (ap (λ (u : Text). Some (front, u)) (behind_braces t front back is_ascii_hexdigit s))

pub digits_missing : (n : ℕ) (t front back : Text) → begins "{" t ≡ true → span is_ascii_hexdigit (drop 1 t) ≡ (front, back) → (length front == 0) ≡ true → digits_of n t ≡ None
unfolding digits_of
digits_missing n t front back h s e = rw (h, s, is_empty front e) refl

pub digits_open : (n : ℕ) (t front back : Text) → begins "{" t ≡ true → span is_ascii_hexdigit (drop 1 t) ≡ (front, back) → begins "}" back ≡ false → digits_of n t ≡ None
unfolding digits_of
digits_open n t front back h s k = rw (h, s, k) (none (nat_lt 0 (length front)))
  where
    none : (b : Bool) → cond {A = Option (Text × Text)} (b && false) (Some (front, drop 1 back)) None ≡ None
    none true = refl
    none false = refl

pub name_found : (t front back : Text) → begins "{" t ≡ true → span is_set_name_char (drop 1 t) ≡ (front, back) → begins "}" back ≡ true → name_of t ≡ Some (front, drop (length front + 2) t)
unfolding name_of
name_found t front back h s k = rw (h, s, k) (ap (λ (u : Text). Some (front, u)) (behind_braces t front back is_set_name_char s))

pub name_open : (t front back : Text) → begins "{" t ≡ true → span is_set_name_char (drop 1 t) ≡ (front, back) → begins "}" back ≡ false → name_of t ≡ None
unfolding name_of
name_open t front back h s k = rw (h, s, k) refl

pub property_read : (negated : Bool) (t name after : Text) (s : Set) → name_of t ≡ Some (name, after) → (length name == 0) ≡ false → list_all is_set_name_char name ≡ true → named name ≡ Some s
    → signed (property negated) t ≡ Some (set s negated, after)
unfolding signed set_named
property_read negated t name after s e h k f = rw (e, not_empty name h, k, f) refl

-- ---- counts

pub count_is : (t u digits after : Text) → u ≡ (span is_white_space t).1 → span is_ascii_digit u ≡ (digits, after)
    → count t ≡ cond (nat_lt 0 (length digits) && nat_lt (decimal digits 0) (2 ^ 32)) (Some (decimal digits 0, (span is_white_space after).1)) None
unfolding count
count_is t u digits after e s = rw (← e, s) refl

pub decimal_passes : (u digits after : Text) → span is_ascii_digit u ≡ (digits, after) → list_all is_ascii_digit digits ≡ true
decimal_passes u digits after s = subst (λ (y : Text × Text). list_all is_ascii_digit y.0 ≡ true) s (span_passes is_ascii_digit u)

pub unfit : (b : Bool) (v : ℕ) (w : Text) → cond b (Some v) None ≡ None → cond {A = Option (ℕ × Text)} b (Some (v, w)) None ≡ None
unfit true v w e = absurd cc
unfit false v w e = refl

pub fit : (b : Bool) (v n : ℕ) (w : Text) → cond b (Some v) None ≡ Some n → cond {A = Option (ℕ × Text)} b (Some (v, w)) None ≡ Some (n, w)
fit true v n w e = ap (λ m. Some (m, w)) (some_is v n e)
fit false v n w e = absurd cc
