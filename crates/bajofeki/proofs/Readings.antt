-- The text of markup is the text that it was made of.
use Rattle.std.proofs.Common.{◌≡◌, ◌≢◌, ℕ, ◌+◌, ◌⊎◌, inl, inr, ◌<◌, Bool, true, false, List, [], ◌∷◌, ◌++◌, length, drop, refl, sym, ap, subst, ◌∙◌, arith, append_assoc, flat_map, codes}
use Rattle.std.specs.Prelude.{unwrap_or, slice_get, nat_eq}
use Rattle.std.specs.Str.{chars, IsUtf8, encode_utf8_all}
use Rattle.std.specs.Char.{encode_utf8}
use Rattle.std.proofs.lemmas.Str.{encodes-chars, encode_ascii}
use Rattle.std.proofs.lemmas.Bool.Decides.{eqb_tells}
use Rattle.bajofeki_rules.specs.Stack.{Stack}
use Rattle.lalrpop_rules.specs.Modes.{ModeRules, ArePiecesFrom, after, trees_in}
use Rattle.lalrpop_rules.specs.Pieces.{slice_of, joined}
use Rattle.lalrpop_rules.specs.declared.piece.Piece.{Piece}
use Rattle.lalrpop_rules.specs.declared.piece.Piece.TheVariants.{Token, Skipped, Fault}
use Rattle.lalrpop_rules.proofs.PieceLaws.{is_front, utf8_behind}
use Rattle.bajofeki.proofs.Characters.{Lacks, differs, lacks_char}
use Rattle.bajofeki.specs.Markup.{told, escaped, span, mark, marked, outside, inside, entity_from}

byte_out : (b : ℕ) (r : List ℕ) → nat_eq b 60 ≡ false → nat_eq b 38 ≡ false → nat_eq b 13 ≡ false → outside (b ∷ r) ≡ b ∷ outside r
byte_out b r no_tag no_entity no_return =
    let kept : ℕ → Bool → List ℕ = λ d t. elim t as (λ _. List ℕ) [ true ↦ outside r | false ↦ d ∷ outside r ] in
    let after : ℕ → Bool → Bool → List ℕ = λ d t u. elim t as (λ _. List ℕ) [ true ↦ entity_from [] r | false ↦ kept d u ] in
    subst (λ (t : Bool). elim t as (λ _. List ℕ) [ true ↦ inside r | false ↦ after b (nat_eq b 38) (nat_eq b 13) ] ≡ b ∷ outside r) (sym no_tag)
    (subst (λ (t : Bool). after b t (nat_eq b 13) ≡ b ∷ outside r) (sym no_entity) (subst (λ (t : Bool). kept b t ≡ b ∷ outside r) (sym no_return) refl))

byte_in : (b : ℕ) (r : List ℕ) → nat_eq b 62 ≡ false → inside (b ∷ r) ≡ inside r
byte_in b r no_end = subst (λ (t : Bool). elim t as (λ _. List ℕ) [ true ↦ outside r | false ↦ inside r ] ≡ inside r) (sym no_end) refl

-- bytes without `<`, `&` and carriage returns are themselves outside a tag
outside_plain : (bs rest : List ℕ) → Lacks 60 bs → Lacks 38 bs → Lacks 13 bs → outside (bs ++ rest) ≡ bs ++ outside rest
outside_plain [] rest no_tag no_entity no_return = refl
outside_plain (b ∷ bs) rest no_tag no_entity no_return =
    byte_out b (bs ++ rest) (differs b 60 no_tag.0) (differs b 38 no_entity.0) (differs b 13 no_return.0)
    ∙ ap (λ (r : List ℕ). b ∷ r) (outside_plain bs rest no_tag.1 no_entity.1 no_return.1)

-- and bytes without `>` are nothing inside one
inside_plain : (bs rest : List ℕ) → Lacks 62 bs → inside (bs ++ rest) ≡ inside rest
inside_plain [] rest no_end = refl
inside_plain (b ∷ bs) rest no_end = byte_in b (bs ++ rest) (differs b 62 no_end.0) ∙ inside_plain bs rest no_end.1

-- ---- one character

abbrev Tells : ℕ → ℕ → Type 0
Tells c x = ((nat_eq c x ≡ true) × (c ≡ x)) ⊎ ((nat_eq c x ≡ false) × (c ≢ x))

plain_told : (c : ℕ) → nat_eq c 60 ≡ false → nat_eq c 62 ≡ false → nat_eq c 38 ≡ false → nat_eq c 34 ≡ false → nat_eq c 13 ≡ false → told c ≡ encode_utf8 c
plain_told c lt gt amp quot cr = rw (lt, gt, amp, quot, cr) refl

one_byte : (c : ℕ) (rest : List ℕ) → c < 128 → c ∷ outside rest ≡ encode_utf8 c ++ outside rest
one_byte c rest small = sym (ap (λ (p : List ℕ). p ++ outside rest) (encode_ascii c small))

-- what holds of the five characters that have entities, and of all others
pub by_entity : (P : ℕ → Type 0) → P 60 → P 62 → P 38 → P 34 → P 13 → ((c : ℕ) → c ≢ 60 → c ≢ 62 → c ≢ 38 → c ≢ 34 → c ≢ 13 → told c ≡ encode_utf8 c → P c) → (c : ℕ) → P c
by_entity P lt gt amp quot cr other c = by (eqb_tells c 60) (eqb_tells c 62) (eqb_tells c 38) (eqb_tells c 34) (eqb_tells c 13)
  where
    by : Tells c 60 → Tells c 62 → Tells c 38 → Tells c 34 → Tells c 13 → P c
    by (inl l) g a q r = subst P (sym l.1) lt
    by (inr l) (inl g) a q r = subst P (sym g.1) gt
    by (inr l) (inr g) (inl a) q r = subst P (sym a.1) amp
    by (inr l) (inr g) (inr a) (inl q) r = subst P (sym q.1) quot
    by (inr l) (inr g) (inr a) (inr q) (inl r) = subst P (sym r.1) cr
    by (inr l) (inr g) (inr a) (inr q) (inr r) = other c l.1 g.1 a.1 q.1 r.1 (plain_told c l.0 g.0 a.0 q.0 r.0)

told_out : (c : ℕ) (rest : List ℕ) → outside (told c ++ rest) ≡ encode_utf8 c ++ outside rest
told_out c rest =
    by_entity (λ d. outside (told d ++ rest) ≡ encode_utf8 d ++ outside rest)
    (one_byte 60 rest (omega arith)) (one_byte 62 rest (omega arith)) (one_byte 38 rest (omega arith)) (one_byte 34 rest (omega arith)) (one_byte 13 rest (omega arith))
    (λ d no_tag no_end no_entity no_quote no_return plain. ap (λ (p : List ℕ). outside (p ++ rest)) plain
    ∙ outside_plain (encode_utf8 d) rest (lacks_char 60 d (omega arith) no_tag) (lacks_char 38 d (omega arith) no_entity) (lacks_char 13 d (omega arith) no_return)) c

told_in : (c : ℕ) (rest : List ℕ) → inside (told c ++ rest) ≡ inside rest
told_in c rest =
    by_entity (λ d. inside (told d ++ rest) ≡ inside rest) refl refl refl refl refl
    (λ d no_tag no_end no_entity no_quote no_return plain. ap (λ (p : List ℕ). inside (p ++ rest)) plain
    ∙ inside_plain (encode_utf8 d) rest (lacks_char 62 d (omega arith) no_end)) c

-- ---- texts

all_out : (cs rest : List ℕ) → outside (flat_map told cs ++ rest) ≡ encode_utf8_all cs ++ outside rest
all_out [] rest = refl
all_out (c ∷ cs) rest =
    ap outside (append_assoc (told c) (flat_map told cs) rest) ∙ told_out c (flat_map told cs ++ rest)
    ∙ ap (λ (p : List ℕ). encode_utf8 c ++ p) (all_out cs rest) ∙ sym (append_assoc (encode_utf8 c) (encode_utf8_all cs) (outside rest))

all_in : (cs rest : List ℕ) → inside (flat_map told cs ++ rest) ≡ inside rest
all_in [] rest = refl
all_in (c ∷ cs) rest = ap inside (append_assoc (told c) (flat_map told cs) rest) ∙ told_in c (flat_map told cs ++ rest) ∙ all_in cs rest

text_out : (text rest : List ℕ) → IsUtf8 text → outside (escaped text ++ rest) ≡ text ++ outside rest
text_out text rest u = all_out (chars text) rest ∙ ap (λ (p : List ℕ). p ++ outside rest) (encodes-chars text u)

span_out : (class text rest : List ℕ) → IsUtf8 text → outside (span class text ++ rest) ≡ text ++ outside rest
span_out class text rest u =
    let behind : List ℕ = codes "\">" ++ (escaped text ++ codes "</span>") in
    ap inside (append_assoc (escaped class) behind rest) ∙ all_in (chars class) (behind ++ rest)
    ∙ ap outside (append_assoc (escaped text) (codes "</span>") rest) ∙ text_out text (codes "</span>" ++ rest) u

mark_out : (text rest : List ℕ) → IsUtf8 text → outside (mark text ++ rest) ≡ text ++ outside rest
mark_out text rest u = ap outside (append_assoc (escaped text) (codes "</mark>") rest) ∙ text_out text (codes "</mark>" ++ rest) u

-- ---- pieces

marked_out : (names : List (List ℕ)) (x : Piece) (rest : List ℕ) → IsUtf8 (slice_of x) → outside (marked names x ++ rest) ≡ slice_of x ++ outside rest
marked_out names (Token token) rest u = span_out (unwrap_or (slice_get names token.index) []) token.slice.now rest u
marked_out names (Skipped token) rest u = text_out token.slice.now rest u
marked_out names (Fault start slice) rest u = mark_out slice.now rest u

pub pieces_out : (names : List (List ℕ)) (r : ModeRules) (text : List ℕ) (at : ℕ) (s : Stack) (xs : List Piece) (end : Stack)
    → IsUtf8 (drop at text) → ArePiecesFrom r text at s xs end → outside (flat_map (marked names) xs) ≡ joined xs
pieces_out names r text at s [] end u are = refl
pieces_out names r text at s (x ∷ xs) end u are =
    let front = is_front (trees_in r s.mode) r.precedences r.skips text at x u are.0 in
    marked_out names x (flat_map (marked names) xs) front.1.1
    ∙ ap (λ (p : List ℕ). slice_of x ++ p)
    (pieces_out names r text (at + length (slice_of x)) (after r.actions x s) xs end (utf8_behind text at (slice_of x) u front) are.1)
