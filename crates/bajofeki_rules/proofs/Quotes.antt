-- What is read back from a quoted form, and what it lacks.
use Rattle.std.proofs.Common.{◌≡◌, ◌≢◌, ℕ, ◌^◌, ◌⊎◌, inl, inr, ◌<◌, ◌≤◌, Bool, true, false, List, [], ◌∷◌, ◌++◌, length, get_or, refl, sym, ap, subst, ◌∙◌, arith, append_assoc, flat_map, codes}
use Rattle.std.specs.Prelude.{nat_eq, if◌then◌else◌, ◌==◌}
use Rattle.std.specs.Char.{digit_value, encode_utf8}
use Rattle.std.specs.Fmt.{digits}
use Rattle.std.specs.Str.{chars, encode_utf8_all, IsUtf8, NoCharPasses}
use Rattle.std.specs.Str.Parse.{AllDigits, IsNumeral, digits_value}
use Rattle.std.proofs.lemmas.Bool.{ne_eqb}
use Rattle.std.proofs.lemmas.Bool.Decides.{eqb_tells, nat_tests}
use Rattle.std.proofs.lemmas.Fmt.{digits_is_IsNumeral}
use Rattle.std.proofs.lemmas.List.{append-nil}
use Rattle.std.proofs.lemmas.Str.{char_from_byte, encode_ascii, encode_same, encodes-chars, NoCharPasses-nil, NoCharPasses-append}
use Rattle.lalrpop_hir.specs.Word.{IsWord}
use Rattle.lalrpop_hir.proofs.TextWords.{text_word}
use Rattle.bajofeki_rules.specs.Quoted.{is_unseen, is_character, told, quoted, value_told, quoted_word}
use Rattle.bajofeki_rules.proofs.Unseen.{seen_in_ascii}

-- ---- the forms of a character

-- the character whose escape has this letter
abbrev escaped_by : ℕ → ℕ
escaped_by letter = if letter == 110 then 10 else (if letter == 114 then 13 else (if letter == 116 then 9 else letter))

abbrev numbered : ℕ → List ℕ
numbered c = codes "\\u{" ++ (digits 16 false c ++ codes "}")

-- a backslash and a letter
abbrev IsShort : ℕ → List ℕ → Type 0
IsShort c text = (letter : ℕ) × ((text ≡ 92 ∷ letter ∷ []) × ((escaped_by letter ≡ c) × ((32 ≤ letter) × (letter < 117))))

-- itself
abbrev IsItself : ℕ → List ℕ → Type 0
IsItself c text = (text ≡ encode_utf8 c) × ((c ≢ 34) × ((c ≢ 92) × (is_unseen c ≡ false)))

abbrev IsForm : ℕ → List ℕ → Type 0
IsForm c text = IsShort c text ⊎ ((text ≡ numbered c) ⊎ IsItself c text)

abbrev Tells : ℕ → ℕ → Type 0
Tells c x = ((nat_eq c x ≡ true) × (c ≡ x)) ⊎ ((nat_eq c x ≡ false) × (c ≢ x))

unescaped : (c : ℕ) → nat_eq c 34 ≡ false → nat_eq c 92 ≡ false → nat_eq c 10 ≡ false → nat_eq c 13 ≡ false → nat_eq c 9 ≡ false
    → told c ≡ (if is_unseen c then numbered c else encode_utf8 c)
unescaped c quote backslash lf cr tab = rw (quote, backslash, lf, cr, tab) refl

-- a character that is seen, and is neither a quote nor a backslash, is written as it is
pub told_plain : (c : ℕ) → c ≢ 34 → c ≢ 92 → is_unseen c ≡ false → told c ≡ encode_utf8 c
told_plain c quote backslash seen =
    unescaped c (ne_eqb c 34 quote) (ne_eqb c 92 backslash) (differs 10 refl) (differs 13 refl) (differs 9 refl)
    ∙ ap (λ (t : Bool). if t then numbered c else encode_utf8 c) seen
  where
    differs : (x : ℕ) → is_unseen x ≡ true → nat_eq c x ≡ false
    differs x unseen = ne_eqb c x (λ e. let no : true ≡ false = sym unseen ∙ ap is_unseen (sym e) ∙ seen in cc)

short : (x letter : ℕ) → told x ≡ 92 ∷ letter ∷ [] → escaped_by letter ≡ x → 32 ≤ letter → letter < 117 → IsForm x (told x)
short x letter text back low high = inl (letter, (text, (back, (low, high))))

form_of : (c : ℕ) → IsForm c (told c)
form_of c = by (eqb_tells c 34) (eqb_tells c 92) (eqb_tells c 10) (eqb_tells c 13) (eqb_tells c 9)
  where
    at : (x letter : ℕ) → told x ≡ 92 ∷ letter ∷ [] → escaped_by letter ≡ x → 32 ≤ letter → letter < 117 → c ≡ x → IsForm c (told c)
    at x letter text back low high is = subst (λ (d : ℕ). IsForm d (told d)) (sym is) (short x letter text back low high)

    unseen : (t : Bool) → is_unseen c ≡ t → told c ≡ (if is_unseen c then numbered c else encode_utf8 c) → c ≢ 34 → c ≢ 92 → IsForm c (told c)
    unseen true is text quote backslash = inr (inl (text ∙ ap (λ (t : Bool). if t then numbered c else encode_utf8 c) is))
    unseen false is text quote backslash = inr (inr (text ∙ ap (λ (t : Bool). if t then numbered c else encode_utf8 c) is, (quote, (backslash, is))))

    by : Tells c 34 → Tells c 92 → Tells c 10 → Tells c 13 → Tells c 9 → IsForm c (told c)
    by (inl is) b l r t = at 34 34 refl refl (omega arith) (omega arith) is.1
    by (inr q) (inl is) l r t = at 92 92 refl refl (omega arith) (omega arith) is.1
    by (inr q) (inr b) (inl is) r t = at 10 110 refl refl (omega arith) (omega arith) is.1
    by (inr q) (inr b) (inr l) (inl is) t = at 13 114 refl refl (omega arith) (omega arith) is.1
    by (inr q) (inr b) (inr l) (inr r) (inl is) = at 9 116 refl refl (omega arith) (omega arith) is.1
    by (inr q) (inr b) (inr l) (inr r) (inr t) = unseen (is_unseen c) refl (unescaped c q.0 b.0 l.0 r.0 t.0) q.1 b.1

-- ---- reading one back

-- what begins with a backslash is no character that is written as itself
no_backslash : (d : ℕ) (text behind : List ℕ) → get_or text 0 0 ≡ 92 → 0 < length text → text ≡ encode_utf8 d ++ behind → d ≢ 92 → ⊥
no_backslash d text behind first some e other =
    other (char_from_byte text behind d e (omega (arith, first)) some ∙ first)

parted : (xs ys r t : List ℕ) → AllDigits 16 xs → AllDigits 16 ys → xs ++ 125 ∷ r ≡ ys ++ 125 ∷ t → (xs ≡ ys) × (r ≡ t)
parted [] [] r t one two e = (refl, cc)
parted [] (y ∷ ys) r t one two e =
    let first : 125 ≡ y = cc in
    let digit : digit_value 125 < 16 = subst (λ (n : ℕ). digit_value n < 16) (sym first) two.0 in
    absurd (omega (arith, digit))
parted (x ∷ xs) [] r t one two e =
    let first : x ≡ 125 = cc in
    let digit : digit_value 125 < 16 = subst (λ (n : ℕ). digit_value n < 16) first one.0 in
    absurd (omega (arith, digit))
parted (x ∷ xs) (y ∷ ys) r t one two e =
    let first : x ≡ y = cc in
    let later : xs ++ 125 ∷ r ≡ ys ++ 125 ∷ t = cc in
    let same = parted xs ys r t one.1 two.1 later in
    (cc, same.1)

abbrev IsSmall : ℕ → Type 0
IsSmall c = c ≤ 4294967295

-- a number that has its digits
numeral : (c : ℕ) → IsSmall c → IsNumeral 16 (digits 16 false c) × (digits_value 16 (digits 16 false c) ≡ c)
numeral c small = let below : c < 16 ^ 64 = omega arith in digits_is_IsNumeral 16 false (omega arith) (omega arith) c below

same_number : (c d : ℕ) (r t : List ℕ) → IsSmall c → IsSmall d → numbered c ++ r ≡ numbered d ++ t → (c ≡ d) × (r ≡ t)
same_number c d r t small less e =
    let one = numeral c small in
    let two = numeral d less in
    let left : numbered c ++ r ≡ codes "\\u{" ++ (digits 16 false c ++ 125 ∷ r) = ap (λ (l : List ℕ). codes "\\u{" ++ l) (append_assoc (digits 16 false c) (codes "}") r) in
    let right : numbered d ++ t ≡ codes "\\u{" ++ (digits 16 false d ++ 125 ∷ t) = ap (λ (l : List ℕ). codes "\\u{" ++ l) (append_assoc (digits 16 false d) (codes "}") t) in
    let both : codes "\\u{" ++ (digits 16 false c ++ 125 ∷ r) ≡ codes "\\u{" ++ (digits 16 false d ++ 125 ∷ t) = sym left ∙ e ∙ right in
    let inner : digits 16 false c ++ 125 ∷ r ≡ digits 16 false d ++ 125 ∷ t = cc in
    let same = parted (digits 16 false c) (digits 16 false d) r t one.0.1 two.0.1 inner in
    (sym one.1 ∙ ap (digits_value 16) same.0 ∙ two.1, same.1)

same_form : (c d : ℕ) (text other r t : List ℕ) → IsSmall c → IsSmall d → IsForm c text → IsForm d other → text ++ r ≡ other ++ t → (c ≡ d) × (r ≡ t)
same_form c d text other r t small less (inl (letter, (is, (back, within)))) (inl (sign, (too, (from, inside)))) e =
    let both : 92 ∷ letter ∷ r ≡ 92 ∷ sign ∷ t = sym (ap (λ (l : List ℕ). l ++ r) is) ∙ e ∙ ap (λ (l : List ℕ). l ++ t) too in
    let same : letter ≡ sign = cc in
    (sym back ∙ ap escaped_by same ∙ from, cc)
same_form c d text other r t small less (inl (letter, (is, (back, within)))) (inr (inl too)) e =
    let both : 92 ∷ letter ∷ r ≡ numbered d ++ t = sym (ap (λ (l : List ℕ). l ++ r) is) ∙ e ∙ ap (λ (l : List ℕ). l ++ t) too in
    let same : letter ≡ 117 = ap (λ (l : List ℕ). get_or l 1 0) both in
    absurd (omega (arith, same, within.1))
same_form c d text other r t small less (inl (letter, (is, (back, within)))) (inr (inr too)) e =
    let both : 92 ∷ letter ∷ r ≡ encode_utf8 d ++ t = sym (ap (λ (l : List ℕ). l ++ r) is) ∙ e ∙ ap (λ (l : List ℕ). l ++ t) too.0 in
    absurd (no_backslash d (92 ∷ letter ∷ r) t refl (omega arith) both too.1.1.0)
same_form c d text other r t small less (inr (inl is)) (inl (sign, (too, (from, inside)))) e =
    let both : numbered c ++ r ≡ 92 ∷ sign ∷ t = sym (ap (λ (l : List ℕ). l ++ r) is) ∙ e ∙ ap (λ (l : List ℕ). l ++ t) too in
    let same : 117 ≡ sign = ap (λ (l : List ℕ). get_or l 1 0) both in
    absurd (omega (arith, same, inside.1))
same_form c d text other r t small less (inr (inl is)) (inr (inl too)) e =
    same_number c d r t small less (sym (ap (λ (l : List ℕ). l ++ r) is) ∙ e ∙ ap (λ (l : List ℕ). l ++ t) too)
same_form c d text other r t small less (inr (inl is)) (inr (inr too)) e =
    let both : numbered c ++ r ≡ encode_utf8 d ++ t = sym (ap (λ (l : List ℕ). l ++ r) is) ∙ e ∙ ap (λ (l : List ℕ). l ++ t) too.0 in
    absurd (no_backslash d (numbered c ++ r) t refl (omega arith) both too.1.1.0)
same_form c d text other r t small less (inr (inr is)) (inl (sign, (too, (from, inside)))) e =
    let both : 92 ∷ sign ∷ t ≡ encode_utf8 c ++ r = sym (ap (λ (l : List ℕ). l ++ t) too) ∙ sym e ∙ ap (λ (l : List ℕ). l ++ r) is.0 in
    absurd (no_backslash c (92 ∷ sign ∷ t) r refl (omega arith) both is.1.1.0)
same_form c d text other r t small less (inr (inr is)) (inr (inl too)) e =
    let both : numbered d ++ t ≡ encode_utf8 c ++ r = sym (ap (λ (l : List ℕ). l ++ t) too) ∙ sym e ∙ ap (λ (l : List ℕ). l ++ r) is.0 in
    absurd (no_backslash c (numbered d ++ t) r refl (omega arith) both is.1.1.0)
same_form c d text other r t small less (inr (inr is)) (inr (inr too)) e =
    encode_same c d r t (sym (ap (λ (l : List ℕ). l ++ r) is.0) ∙ e ∙ ap (λ (l : List ℕ). l ++ t) too.0)

-- ---- reading all back

-- no form begins with a quote
no_quote : (d : ℕ) (text rest behind : List ℕ) → IsForm d text → 34 ∷ rest ≡ text ++ behind → ⊥
no_quote d text rest behind (inl (letter, (is, others))) e =
    let first : 34 ≡ 92 = ap (λ (l : List ℕ). get_or l 0 0) (e ∙ ap (λ (l : List ℕ). l ++ behind) is) in
    omega (arith, first)
no_quote d text rest behind (inr (inl is)) e =
    let first : 34 ≡ 92 = ap (λ (l : List ℕ). get_or l 0 0) (e ∙ ap (λ (l : List ℕ). l ++ behind) is) in
    omega (arith, first)
no_quote d text rest behind (inr (inr is)) e =
    is.1.0 (char_from_byte (34 ∷ rest) behind d (e ∙ ap (λ (l : List ℕ). l ++ behind) is.0) (omega arith) (omega arith))

-- each of the values is told by one of its forms
module _ (tell : ℕ → List ℕ) (form : (c : ℕ) → IsForm c (tell c)) where
  same_values : (v w : List ℕ) → IsWord v → IsWord w → flat_map tell v ++ 34 ∷ [] ≡ flat_map tell w ++ 34 ∷ [] → v ≡ w
  same_values [] [] small less e = refl
  same_values [] (d ∷ w) small less e = absurd (no_quote d (tell d) [] (flat_map tell w ++ 34 ∷ []) (form d) (e ∙ append_assoc (tell d) (flat_map tell w) (34 ∷ [])))
  same_values (c ∷ v) [] small less e = absurd (no_quote c (tell c) [] (flat_map tell v ++ 34 ∷ []) (form c) (sym e ∙ append_assoc (tell c) (flat_map tell v) (34 ∷ [])))
  same_values (c ∷ v) (d ∷ w) small less e =
      let same = same_form c d (tell c) (tell d) (flat_map tell v ++ 34 ∷ []) (flat_map tell w ++ 34 ∷ []) small.0 less.0 (form c) (form d)
      (sym (append_assoc (tell c) (flat_map tell v) (34 ∷ [])) ∙ e ∙ append_assoc (tell d) (flat_map tell w) (34 ∷ [])) in
      let later = same_values v w small.1 less.1 same.1 in
      ap (λ (x : ℕ). x ∷ v) same.0 ∙ ap (λ (xs : List ℕ). d ∷ xs) later

value_form : (n : ℕ) → IsForm n (value_told n)
value_form n = by (is_character n)
  where
    by : (t : Bool) → IsForm n (if t then told n else numbered n)
    by true = form_of n
    by false = inr (inl refl)

-- no two texts have one quoted form
pub quoted-unique : (one other : List ℕ) → IsUtf8 one → IsUtf8 other → quoted one ≡ quoted other → one ≡ other
quoted-unique one other u v e =
    let inner : flat_map told (chars one) ++ 34 ∷ [] ≡ flat_map told (chars other) ++ 34 ∷ [] = cc in
    let same = same_values told form_of (chars one) (chars other) (text_word one u) (text_word other v) inner in
    sym (encodes-chars one u) ∙ ap encode_utf8_all same ∙ encodes-chars other v

-- and no two words
pub quoted_word-unique : (v w : List ℕ) → IsWord v → IsWord w → quoted_word v ≡ quoted_word w → v ≡ w
quoted_word-unique v w small less e =
    let inner : flat_map value_told v ++ 34 ∷ [] ≡ flat_map value_told w ++ 34 ∷ [] = cc in
    same_values value_told value_form v w small less inner

-- ---- what is seen

abbrev IsSeen : List ℕ → Type 0
IsSeen bytes = NoCharPasses is_unseen bytes

-- a character
seen_char : (c : ℕ) → is_unseen c ≡ false → IsSeen (encode_utf8 c)
seen_char c seen = (c ∷ [], append-nil (encode_utf8 c), (seen, tt))

-- characters of ASCII that aren't control characters
abbrev ArePrinted : List ℕ → Type 0
ArePrinted [] = Unit {0}
ArePrinted (b ∷ bs) = (32 ≤ b) × ((b < 127) × ArePrinted bs)

seen_bytes : (bs : List ℕ) → ArePrinted bs → IsSeen bs
seen_bytes [] printed = NoCharPasses-nil is_unseen
seen_bytes (b ∷ bs) printed =
    let one : IsSeen (b ∷ []) = subst IsSeen (encode_ascii b (omega (arith, printed.1.0))) (seen_char b (seen_in_ascii b printed.0 printed.1.0)) in
    NoCharPasses-append is_unseen (b ∷ []) bs one (seen_bytes bs printed.1.1)

-- a digit is one of them
printed_digit : (b : ℕ) → digit_value b < 16 → (32 ≤ b) × (b < 127)
printed_digit b digit = (grind (arith, nat_tests), grind (arith, nat_tests))

printed_digits : (bs : List ℕ) → AllDigits 16 bs → ArePrinted bs
printed_digits [] digits = tt
printed_digits (b ∷ bs) digits = let one = printed_digit b digits.0 in (one.0, (one.1, printed_digits bs digits.1))

seen_form : (c : ℕ) (text : List ℕ) → IsSmall c → IsForm c text → IsSeen text
seen_form c text small (inl (letter, (is, (back, within)))) =
    subst IsSeen (sym is) (seen_bytes (92 ∷ letter ∷ []) (omega arith, (omega arith, (within.0, (omega (arith, within.1), tt)))))
seen_form c text small (inr (inl is)) =
    let number = numeral c small in
    let begin : IsSeen (codes "\\u{") = seen_bytes (codes "\\u{") (omega arith, (omega arith, (omega arith, (omega arith, (omega arith, (omega arith, tt)))))) in
    let end : IsSeen (codes "}") = seen_bytes (codes "}") (omega arith, (omega arith, tt)) in
    subst IsSeen (sym is)
    (NoCharPasses-append is_unseen (codes "\\u{") (digits 16 false c ++ codes "}") begin
    (NoCharPasses-append is_unseen (digits 16 false c) (codes "}") (seen_bytes (digits 16 false c) (printed_digits (digits 16 false c) number.0.1)) end))
seen_form c text small (inr (inr is)) = subst IsSeen (sym is.0) (seen_char c is.1.1.1)

seen_values : (tell : ℕ → List ℕ) → ((c : ℕ) → IsForm c (tell c)) → (w : List ℕ) → IsWord w → IsSeen (flat_map tell w)
seen_values tell form [] small = NoCharPasses-nil is_unseen
seen_values tell form (c ∷ w) small = NoCharPasses-append is_unseen (tell c) (flat_map tell w) (seen_form c (tell c) small.0 (form c)) (seen_values tell form w small.1)

in_quotes : (text : List ℕ) → IsSeen text → IsSeen (codes "\"" ++ (text ++ codes "\""))
in_quotes text seen =
    let quote : IsSeen (codes "\"") = seen_bytes (codes "\"") (omega arith, (omega arith, tt)) in
    NoCharPasses-append is_unseen (codes "\"") (text ++ codes "\"") quote (NoCharPasses-append is_unseen text (codes "\"") seen quote)

-- a quoted form has no character that isn't seen: no line feed and no other end of a line, and none that turns the direction of writing
pub quoted_is_seen : (slice : List ℕ) → IsUtf8 slice → NoCharPasses is_unseen (quoted slice)
quoted_is_seen slice u = in_quotes (flat_map told (chars slice)) (seen_values told form_of (chars slice) (text_word slice u))

pub quoted_word_is_seen : (w : List ℕ) → IsWord w → NoCharPasses is_unseen (quoted_word w)
quoted_word_is_seen w small = in_quotes (flat_map value_told w) (seen_values value_told value_form w small)
