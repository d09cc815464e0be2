-- The text of a page for a terminal is the text that it was made of.
use Rattle.std.proofs.Common.{◌≡◌, ◌≢◌, ℕ, ◌+◌, ◌-◌, ◌%◌, ◌⊎◌, inl, inr, ◌<◌, ◌≤◌, Bool, true, false, List, [], ◌∷◌, ◌++◌, length, drop, refl, sym, ap, subst, ◌∙◌, arith, append_assoc, flat_map, codes, cond}
use Rattle.std.specs.Prelude.{Option, Some, None, slice_get, nat_eq, nat_lt}
use Rattle.std.specs.List.{position_or_len}
use Rattle.std.specs.Str.{chars, IsUtf8, encode_utf8_all, bytes_eq}
use Rattle.std.specs.Char.{encode_utf8}
use Rattle.std.proofs.lemmas.Str.{encodes-chars, encode_ascii}
use Rattle.std.proofs.lemmas.Bool.Decides.{eqb_tells, nat_tests}
use Rattle.bajofeki_rules.specs.Stack.{Stack}
use Rattle.lalrpop_rules.specs.Modes.{ModeRules, ArePiecesFrom, after, trees_in}
use Rattle.lalrpop_rules.specs.Pieces.{slice_of, joined}
use Rattle.lalrpop_rules.specs.declared.piece.Piece.{Piece}
use Rattle.lalrpop_rules.specs.declared.piece.Piece.TheVariants.{Token, Skipped, Fault}
use Rattle.lalrpop_rules.proofs.PieceLaws.{is_front, utf8_behind}
use Rattle.bajofeki.proofs.Characters.{Lacks, differs, lacks_char}
use Rattle.bajofeki.specs.Terminal.{sequence, reset, is_hidden, sign, letter, visible, visible_in, coloured, colour_of, by_name, painted, hidden_of, unpainted, within, two_letters}

pub true_or_false : (b : Bool) → (b ≡ true) ⊎ (b ≡ false)
true_or_false true = inl refl
true_or_false false = inr refl

-- ---- control characters

pub hidden_below : (c : ℕ) → is_hidden c ≡ true → c < 160
hidden_below c h = grind (arith, nat_tests)

escape_is_hidden : (c : ℕ) → is_hidden c ≡ false → c ≢ 27
escape_is_hidden c shown is = let clash : is_hidden 27 ≡ false = subst (λ (d : ℕ). is_hidden d ≡ false) is shown in cc

undone : (c : ℕ) → c < 160 → hidden_of (sign c) (letter c) ≡ encode_utf8 c
undone c below = by (true_or_false (nat_lt c 128))
  where
    by : (nat_lt c 128 ≡ true) ⊎ (nat_lt c 128 ≡ false) → hidden_of (sign c) (letter c) ≡ encode_utf8 c
    by (inl low) =
        let small : c < 128 = grind (arith, nat_tests, low) in
        let back : ((c + 64) % 128 + 64) % 128 ≡ c = omega arith in
        rw low (ap encode_utf8 back)
    by (inr high) =
        let large : 128 ≤ c = grind (arith, nat_tests, high) in
        let back : c - 64 + 64 ≡ c = omega arith in
        rw high (ap encode_utf8 back)

-- ---- outside and within sequences

byte_out : (b : ℕ) (r : List ℕ) → nat_eq b 27 ≡ false → unpainted (b ∷ r) ≡ b ∷ unpainted r
byte_out b r no_escape = subst (λ (t : Bool). elim t as (λ _. List ℕ) [ true ↦ within [] r | false ↦ b ∷ unpainted r ] ≡ b ∷ unpainted r) (sym no_escape) refl

plain_out : (bs rest : List ℕ) → Lacks 27 bs → unpainted (bs ++ rest) ≡ bs ++ unpainted rest
plain_out [] rest none = refl
plain_out (b ∷ bs) rest none = byte_out b (bs ++ rest) (differs b 27 none.0) ∙ ap (λ (r : List ℕ). b ∷ r) (plain_out bs rest none.1)

-- parameters of a colour: they begin no letters, and end nothing
abbrev pub IsColour : List ℕ → Type 0
IsColour colour = (n : ℕ) × ((m : ℕ) × ((colour ≡ n ∷ m ∷ []) × ((n < 55) × (m < 109))))

within_more : (so_far bs : List ℕ) (b : ℕ) → nat_eq b 109 ≡ false → within so_far (b ∷ bs) ≡ within (so_far ++ b ∷ []) bs
within_more so_far bs b no_end =
    subst (λ (t : Bool). elim t as (λ _. List ℕ) [ true ↦ elim (bytes_eq so_far (codes "[7")) as (λ _. List ℕ) [ true ↦ two_letters bs | false ↦ unpainted bs ] | false ↦ within (so_far ++ b ∷ []) bs ] ≡ within (so_far ++ b ∷ []) bs) (sym no_end) refl

within_end : (so_far bs : List ℕ) → bytes_eq so_far (codes "[7") ≡ false → within so_far (109 ∷ bs) ≡ unpainted bs
within_end so_far bs no_letters =
    subst (λ (t : Bool). elim t as (λ _. List ℕ) [ true ↦ two_letters bs | false ↦ unpainted bs ] ≡ unpainted bs) (sym no_letters) refl

begins_no_letters : (n m : ℕ) → nat_eq n 55 ≡ false → bytes_eq (91 ∷ n ∷ m ∷ []) (codes "[7") ≡ false
begins_no_letters n m other = rw other refl

two_out : (n m : ℕ) (rest : List ℕ) → nat_eq n 109 ≡ false → nat_eq m 109 ≡ false → nat_eq n 55 ≡ false
    → unpainted (27 ∷ 91 ∷ n ∷ m ∷ 109 ∷ rest) ≡ unpainted rest
two_out n m rest no_end no_end_yet no_letters =
    within_more (91 ∷ []) (m ∷ 109 ∷ rest) n no_end ∙ within_more (91 ∷ n ∷ []) (109 ∷ rest) m no_end_yet
    ∙ within_end (91 ∷ n ∷ m ∷ []) rest (begins_no_letters n m no_letters)

sequence_out : (colour rest : List ℕ) → IsColour colour → unpainted (sequence colour ++ rest) ≡ unpainted rest
sequence_out colour rest (n, (m, (is, below))) =
    subst (λ (c : List ℕ). unpainted (sequence c ++ rest) ≡ unpainted rest) (sym is)
    (two_out n m rest (differs n 109 (λ e. absurd (omega (arith, e, below.0)))) (differs m 109 (λ e. absurd (omega (arith, e, below.1)))) (differs n 55 (λ e. absurd (omega (arith, e, below.0)))))

visible_out : (c : ℕ) (rest : List ℕ) → unpainted (visible c ++ rest) ≡ encode_utf8 c ++ unpainted rest
visible_out c rest = by (true_or_false (is_hidden c))
  where
    by : (is_hidden c ≡ true) ⊎ (is_hidden c ≡ false) → unpainted (visible c ++ rest) ≡ encode_utf8 c ++ unpainted rest
    by (inl hidden) = rw hidden (ap (λ (p : List ℕ). p ++ unpainted rest) (undone c (hidden_below c hidden)))
    by (inr shown) = rw shown (plain_out (encode_utf8 c) rest (lacks_char 27 c (omega arith) (escape_is_hidden c shown)))

pub not_a_line : (colour : List ℕ) (c : ℕ) → nat_eq c 10 ≡ false → visible_in colour c ≡ visible c
not_a_line colour c other = subst (λ (t : Bool). cond t (reset ++ (10 ∷ sequence colour)) (visible c) ≡ visible c) (sym other) refl

visible_in_out : (colour : List ℕ) (c : ℕ) (rest : List ℕ) → IsColour colour → unpainted (visible_in colour c ++ rest) ≡ encode_utf8 c ++ unpainted rest
visible_in_out colour c rest is_colour = by (eqb_tells c 10)
  where
    by : ((nat_eq c 10 ≡ true) × (c ≡ 10)) ⊎ ((nat_eq c 10 ≡ false) × (c ≢ 10)) → unpainted (visible_in colour c ++ rest) ≡ encode_utf8 c ++ unpainted rest
    by (inl line) = subst (λ (d : ℕ). unpainted (visible_in colour d ++ rest) ≡ encode_utf8 d ++ unpainted rest) (sym line.1) (ap (λ (r : List ℕ). 10 ∷ r) (sequence_out colour rest is_colour) ∙ sym (ap (λ (p : List ℕ). p ++ unpainted rest) (encode_ascii 10 (omega arith))))
    by (inr other) = ap (λ (p : List ℕ). unpainted (p ++ rest)) (not_a_line colour c other.0) ∙ visible_out c rest

-- ---- texts

all_out : (cs rest : List ℕ) → unpainted (flat_map visible cs ++ rest) ≡ encode_utf8_all cs ++ unpainted rest
all_out [] rest = refl
all_out (c ∷ cs) rest =
    ap unpainted (append_assoc (visible c) (flat_map visible cs) rest) ∙ visible_out c (flat_map visible cs ++ rest)
    ∙ ap (λ (p : List ℕ). encode_utf8 c ++ p) (all_out cs rest) ∙ sym (append_assoc (encode_utf8 c) (encode_utf8_all cs) (unpainted rest))

all_in_out : (colour cs rest : List ℕ) → IsColour colour → unpainted (flat_map (visible_in colour) cs ++ rest) ≡ encode_utf8_all cs ++ unpainted rest
all_in_out colour [] rest is_colour = refl
all_in_out colour (c ∷ cs) rest is_colour =
    ap unpainted (append_assoc (visible_in colour c) (flat_map (visible_in colour) cs) rest) ∙ visible_in_out colour c (flat_map (visible_in colour) cs ++ rest) is_colour
    ∙ ap (λ (p : List ℕ). encode_utf8 c ++ p) (all_in_out colour cs rest is_colour) ∙ sym (append_assoc (encode_utf8 c) (encode_utf8_all cs) (unpainted rest))

text_out : (text rest : List ℕ) → IsUtf8 text → unpainted (flat_map visible (chars text) ++ rest) ≡ text ++ unpainted rest
text_out text rest u = all_out (chars text) rest ∙ ap (λ (p : List ℕ). p ++ unpainted rest) (encodes-chars text u)

coloured_out : (colour text rest : List ℕ) → IsColour colour → IsUtf8 text → unpainted (coloured colour text ++ rest) ≡ text ++ unpainted rest
coloured_out colour text rest is_colour u =
    let inner : List ℕ = flat_map (visible_in colour) (chars text) in
    ap unpainted (append_assoc (sequence colour) (inner ++ reset) rest) ∙ sequence_out colour ((inner ++ reset) ++ rest) is_colour
    ∙ ap unpainted (append_assoc inner reset rest) ∙ all_in_out colour (chars text) (reset ++ rest) is_colour
    ∙ ap (λ (p : List ℕ). p ++ unpainted rest) (encodes-chars text u)

-- ---- pieces

colour_is : (names : List (List ℕ)) (name : List ℕ) → IsColour (colour_of names name)
colour_is names name = (51, (49 + position_or_len (bytes_eq name) names % 6, (refl, (omega arith, omega arith))))

by_name_out : (names : List (List ℕ)) (name : Option (List ℕ)) (text rest : List ℕ) → IsUtf8 text → unpainted (by_name names name text ++ rest) ≡ text ++ unpainted rest
by_name_out names None text rest u = text_out text rest u
by_name_out names (Some name) text rest u = coloured_out (colour_of names name) text rest (colour_is names name) u

painted_out : (names : List (List ℕ)) (x : Piece) (rest : List ℕ) → IsUtf8 (slice_of x) → unpainted (painted names x ++ rest) ≡ slice_of x ++ unpainted rest
painted_out names (Token token) rest u = by_name_out names (slice_get names token.index) token.slice.now rest u
painted_out names (Skipped token) rest u = text_out token.slice.now rest u
painted_out names (Fault start slice) rest u = coloured_out (codes "41") slice.now rest (52, (49, (refl, (omega arith, omega arith)))) u

pub pieces_out : (names : List (List ℕ)) (r : ModeRules) (text : List ℕ) (at : ℕ) (s : Stack) (xs : List Piece) (end : Stack)
    → IsUtf8 (drop at text) → ArePiecesFrom r text at s xs end → unpainted (flat_map (painted names) xs) ≡ joined xs
pieces_out names r text at s [] end u are = refl
pieces_out names r text at s (x ∷ xs) end u are =
    let front = is_front (trees_in r s.mode) r.precedences r.skips text at x u are.0 in
    painted_out names x (flat_map (painted names) xs) front.1.1
    ∙ ap (λ (p : List ℕ). slice_of x ++ p)
    (pieces_out names r text (at + length (slice_of x)) (after r.actions x s) xs end (utf8_behind text at (slice_of x) u front) are.1)
