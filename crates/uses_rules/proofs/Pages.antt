-- What a page of HTML or for a terminal never has.
use Rattle.std.proofs.Common.{◌≡◌, ◌≢◌, ◌↔◌, ℕ, ◌<◌, inl, inr, Bool, true, false, List, [], ◌∷◌, ◌++◌, length, get_or, take, drop, refl, sym, ap, subst, ◌∙◌, arith, append_assoc, length-append, codes}
use Rattle.std.specs.Prelude.{Option, Some, None, IfSome, if◌then◌else◌, ◌==◌}
use Rattle.std.specs.Char.{digit_value, encode_utf8}
use Rattle.std.specs.Str.{chars, IsUtf8, IsCharBoundary}
use Rattle.std.specs.Str.Iter.{HasSubslice}
use Rattle.std.specs.Str.Parse.{IsNumeral}
use Rattle.std.proofs.lemmas.List.{get_or_at, take_at, drop_at}
use Rattle.std.proofs.lemmas.Str.{chars-append, chars_past_char, encode_ascii, IsUtf8-take, IsUtf8-drop, IsUtf8-past_char, IsCharBoundary-before_ascii}
use Rattle.bajofeki.specs.Markup.{entity, IsTag, IsEntity}
use Rattle.bajofeki.specs.Places.{EachBegins, EachEnds}
use Rattle.bajofeki.specs.Terminal.{sequence, is_hidden, IsSequence}

pub never : (found : Bool) (text page needle : List ℕ) → (found ≡ true) ↔ HasSubslice text needle → text ≡ page → ¬ HasSubslice page needle → found ≡ false
never true text page needle is same none = absurd (none (subst (λ (t : List ℕ). HasSubslice t needle) same (is.0 refl)))
never false text page needle is same none = refl

-- ---- HTML

script_is_no_tag : (b part behind : List ℕ) → codes "<script" ++ b ≡ part ++ behind → IsTag part → ⊥
script_is_no_tag b part behind e (inl (class, (is, lacks))) =
    let third : 99 ≡ 112 = ap (λ (l : List ℕ). get_or l 2 0) (e ∙ ap (λ (l : List ℕ). l ++ behind) is) in
    omega (arith, third)
script_is_no_tag b part behind e (inr (inl is)) =
    let second : 115 ≡ 47 = ap (λ (l : List ℕ). get_or l 1 0) (e ∙ ap (λ (l : List ℕ). l ++ behind) is) in
    omega (arith, second)
script_is_no_tag b part behind e (inr (inr (inl is))) =
    let second : 115 ≡ 109 = ap (λ (l : List ℕ). get_or l 1 0) (e ∙ ap (λ (l : List ℕ). l ++ behind) is) in
    omega (arith, second)
script_is_no_tag b part behind e (inr (inr (inr is))) =
    let second : 115 ≡ 47 = ap (λ (l : List ℕ). get_or l 1 0) (e ∙ ap (λ (l : List ℕ). l ++ behind) is) in
    omega (arith, second)

pub no_script : (page : List ℕ) → EachBegins 60 IsTag page → ¬ HasSubslice page (codes "<script")
no_script page tags (a, b, e) =
    let found = tags a (codes "script" ++ b) e in
    script_is_no_tag b found.0 found.1.0 found.1.1.0 found.1.1.1

-- what stands before the last of two lists
before_last : (u v : List ℕ) (x y z : ℕ) → u ++ x ∷ z ∷ [] ≡ v ++ y ∷ z ∷ [] → x ≡ y
before_last u v x y z e =
    let n : length v ≡ length u = omega (arith, ap length e, length-append u (x ∷ z ∷ []), length-append v (y ∷ z ∷ [])) in
    sym (get_or_at u x (z ∷ []) 0 (length u) refl) ∙ ap (λ (l : List ℕ). get_or l (length u) 0) e ∙ get_or_at v y (z ∷ []) 0 (length u) n

-- before its `>` a tag has no `-`
no_dash : (u before part : List ℕ) → u ++ 45 ∷ 62 ∷ [] ≡ before ++ part → IsTag part → ⊥
no_dash u before part e (inl (class, (is, lacks))) =
    let begin : List ℕ = codes "<span class=\"" in
    let whole : before ++ part ≡ (before ++ (begin ++ class)) ++ 34 ∷ 62 ∷ [] =
    ap (λ (l : List ℕ). before ++ l) (is ∙ sym (append_assoc begin class (34 ∷ 62 ∷ []))) ∙ sym (append_assoc before (begin ++ class) (34 ∷ 62 ∷ [])) in
    let last : 45 ≡ 34 = before_last u (before ++ (begin ++ class)) 45 34 62 (e ∙ whole) in
    omega (arith, last)
no_dash u before part e (inr (inl is)) =
    let last : 45 ≡ 110 = before_last u (before ++ codes "</spa") 45 110 62 (e ∙ ap (λ (l : List ℕ). before ++ l) is ∙ sym (append_assoc before (codes "</spa") (110 ∷ 62 ∷ []))) in
    omega (arith, last)
no_dash u before part e (inr (inr (inl is))) =
    let last : 45 ≡ 107 = before_last u (before ++ codes "<mar") 45 107 62 (e ∙ ap (λ (l : List ℕ). before ++ l) is ∙ sym (append_assoc before (codes "<mar") (107 ∷ 62 ∷ []))) in
    omega (arith, last)
no_dash u before part e (inr (inr (inr is))) =
    let last : 45 ≡ 107 = before_last u (before ++ codes "</mar") 45 107 62 (e ∙ ap (λ (l : List ℕ). before ++ l) is ∙ sym (append_assoc before (codes "</mar") (107 ∷ 62 ∷ []))) in
    omega (arith, last)

pub no_end_of_comment : (page : List ℕ) → EachEnds 62 IsTag page → ¬ HasSubslice page (codes "-->")
no_end_of_comment page tags (a, b, e) =
    let found = tags (a ++ codes "--") b (e ∙ sym (append_assoc a (codes "--") (62 ∷ b))) in
    let same : (a ++ codes "-") ++ 45 ∷ 62 ∷ [] ≡ (a ++ codes "--") ++ 62 ∷ [] = append_assoc a (codes "-") (45 ∷ 62 ∷ []) ∙ sym (append_assoc a (codes "--") (62 ∷ [])) in
    no_dash (a ++ codes "-") found.0 found.1.0 (same ∙ found.1.1.0) found.1.1.1

-- after its `&` an entity has a letter or `#`
abbrev NoSpace : Option (List ℕ) → Type 0
NoSpace found = IfSome found (λ e. (1 < length e) × (get_or e 1 0 ≢ 32))

entity_without_space : (c : ℕ) → NoSpace (entity c)
entity_without_space c = by (c == 60) (c == 62) (c == 38) (c == 34) (c == 13)
  where
    by : (lt gt amp quot return : Bool)
        → NoSpace (if lt then Some (codes "&lt;") else (if gt then Some (codes "&gt;") else (if amp then Some (codes "&amp;") else (if quot then Some (codes "&quot;") else (if return then Some (codes "&#13;") else None)))))
    by true gt amp quot return = (omega arith, λ e. omega (arith, e))
    by false true amp quot return = (omega arith, λ e. omega (arith, e))
    by false false true quot return = (omega arith, λ e. omega (arith, e))
    by false false false true return = (omega arith, λ e. omega (arith, e))
    by false false false false true = (omega arith, λ e. omega (arith, e))
    by false false false false false = tt

second_byte : (part behind : List ℕ) → 1 < length part → get_or (part ++ behind) 1 0 ≡ get_or part 1 0
second_byte (x ∷ y ∷ part) behind two = refl
second_byte (x ∷ []) behind two = absurd (omega (arith, two))
second_byte [] behind two = absurd (omega (arith, two))

pub no_bare_ampersand : (page : List ℕ) → EachBegins 38 IsEntity page → ¬ HasSubslice page (codes "& ")
no_bare_ampersand page entities (a, b, e) =
    let found = entities a (32 ∷ b) e in
    let part : List ℕ = found.0 in
    let is : NoSpace (Some part) = subst NoSpace found.1.1.1.1 (entity_without_space found.1.1.1.0) in
    is.1 (sym (ap (λ (l : List ℕ). get_or l 1 0) found.1.1.0 ∙ second_byte part found.1.0 is.0))

-- ---- a terminal

first_char : (c : ℕ) (rest : List ℕ) → c < 128 → IsUtf8 (c ∷ rest) → (chars (c ∷ rest) ≡ c ∷ chars rest) × IsUtf8 rest
first_char c rest small u =
    let e : c ∷ rest ≡ encode_utf8 c ++ rest = ap (λ (l : List ℕ). l ++ rest) (sym (encode_ascii c small)) in
    (chars_past_char (c ∷ rest) rest c u e, IsUtf8-past_char (c ∷ rest) rest c u e)

clear_screen_is_no_sequence : (cs behind number : List ℕ) → 27 ∷ 91 ∷ 50 ∷ 74 ∷ cs ≡ sequence number ++ behind → IsNumeral 10 number → ⊥
clear_screen_is_no_sequence cs behind [] e is = omega (arith, is.0)
clear_screen_is_no_sequence cs behind (d ∷ []) e is =
    let fourth : 74 ≡ 109 = ap (λ (l : List ℕ). get_or l 3 0) e in
    omega (arith, fourth)
clear_screen_is_no_sequence cs behind (d ∷ k ∷ number) e is =
    let fourth : 74 ≡ k = ap (λ (l : List ℕ). get_or l 3 0) e in
    let digit : digit_value 74 < 10 = subst (λ (n : ℕ). digit_value n < 10) (sym fourth) is.1.1.0 in
    omega (arith, digit)

at_seam : (page a b : List ℕ) (x : ℕ) → page ≡ a ++ x ∷ b → get_or page (length a) 0 ≡ x
at_seam page a b x e = ap (λ (l : List ℕ). get_or l (length a) 0) e ∙ get_or_at a x b 0 (length a) refl

sequence_chars : (b : List ℕ) → IsUtf8 (27 ∷ codes "[2J" ++ b) → chars (27 ∷ codes "[2J" ++ b) ≡ 27 ∷ codes "[2J" ++ chars b
sequence_chars b u =
    let escape = first_char 27 (codes "[2J" ++ b) (omega arith) u in
    let bracket = first_char 91 (codes "2J" ++ b) (omega arith) escape.1 in
    let two = first_char 50 (codes "J" ++ b) (omega arith) bracket.1 in
    let letter = first_char 74 b (omega arith) two.1 in
    cc

pub no_clear_screen : (page : List ℕ) → IsUtf8 page → ((c : ℕ) → is_hidden c ≡ true → EachBegins c IsSequence (chars page)) → ¬ HasSubslice page (27 ∷ codes "[2J")
no_clear_screen page u shown (a, b, e) =
    let rest : List ℕ = 27 ∷ codes "[2J" ++ b in
    let here : get_or page (length a) 0 ≡ 27 = at_seam page a (codes "[2J" ++ b) 27 e in
    let within : length a < length page = omega (arith, ap length e, length-append a rest) in
    let boundary : IsCharBoundary page (length a) = IsCharBoundary-before_ascii page (length a) within (omega (arith, here)) in
    let front : IsUtf8 a = subst IsUtf8 (ap (take (length a)) e ∙ take_at a rest (length a) refl) (IsUtf8-take page (length a) u boundary) in
    let behind : IsUtf8 rest = subst IsUtf8 (ap (drop (length a)) e ∙ drop_at a rest (length a) refl) (IsUtf8-drop page (length a) u boundary) in
    let all : chars page ≡ chars a ++ chars rest = ap chars e ∙ chars-append a rest front in
    let split : chars page ≡ chars a ++ (27 ∷ codes "[2J" ++ chars b) = all ∙ ap (λ (l : List ℕ). chars a ++ l) (sequence_chars b behind) in
    let found = shown 27 refl (chars a) (codes "[2J" ++ chars b) split in
    let is = found.1.1.1 in
    clear_screen_is_no_sequence (chars b) found.1.0 is.0 (found.1.1.0 ∙ ap (λ (l : List ℕ). l ++ found.1.0) is.1.0) is.1.1
