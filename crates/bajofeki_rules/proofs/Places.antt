-- The place after one more character, and how much of a text has been passed.
use Rattle.std.proofs.Common.{◌≡◌, ℕ, ◌+◌, ◌-◌, ◌≤◌, Bool, true, false, cond, List, [], ◌∷◌, ◌++◌, length, take, drop, arith, refl, sym, ap, ◌∙◌, length-append, length-drop, length-take, append_assoc, append-nil}
use Rattle.std.specs.Prelude.{not}
use Rattle.std.specs.List.{count_by, after_last, prefix_len, suffix_len}
use Rattle.std.specs.Str.{chars, IsUtf8, IsCharBoundary}
use Rattle.std.specs.Char.{encode_utf8}
use Rattle.std.proofs.lemmas.Str.{IsUtf8-take, IsUtf8-past_char, chars-append, chars-nil, chars_past_char}
use Rattle.std.proofs.Math.Seq.{take-add}
use Rattle.std.proofs.lemmas.List.{reverse-append, nil_from_length}
use Rattle.std.proofs.lemmas.List.Sums.{suffix_len-le-length, count_by-le-length, sum_by-append}
pub use Rattle.lalrpop_hir.proofs.StartLaws.{few_chars}
use Rattle.bajofeki_rules.specs.Position.{is_line_feed, place_behind, position_of}
use Rattle.bajofeki_rules.specs.Internal.Places.{next_place}
use Rattle.bajofeki_rules.specs.declared.position.Position.{Position}

pub length-after_last : (p : ℕ → Bool) (xs : List ℕ) → length (after_last p xs) ≡ suffix_len (λ x. not (p x)) xs
length-after_last p xs =
    let n = suffix_len (λ x. not (p x)) xs in
    let short : n ≤ length xs = suffix_len-le-length (λ x. not (p x)) xs in
    omega (arith, length-drop (length xs - n) xs)

pub suffix_len-push : (q : ℕ → Bool) (xs : List ℕ) (x : ℕ) → suffix_len q (xs ++ x ∷ []) ≡ cond (q x) (1 + suffix_len q xs) 0
suffix_len-push q xs x = ap (prefix_len q) (reverse-append xs (x ∷ []))

pub count_by-push : (p : ℕ → Bool) (xs : List ℕ) (x : ℕ) → count_by p (xs ++ x ∷ []) ≡ count_by p xs + cond (p x) 1 0
count_by-push p xs x = sum_by-append (λ y. cond (p y) 1 0) xs (x ∷ []) ∙ omega arith

pub same_place : (line column l k : ℕ) → line ≡ l → column ≡ k → ◌≡◌ {A = Position} (record { line = line; column = column }) (record { line = l; column = k })
same_place line column l k e f = cc

pub place_more : (cs : List ℕ) (c : ℕ) → place_behind (cs ++ c ∷ []) ≡ next_place (place_behind cs) c
place_more cs c = by (is_line_feed c) refl
  where
    line : count_by is_line_feed (cs ++ c ∷ []) ≡ count_by is_line_feed cs + cond (is_line_feed c) 1 0
    line = count_by-push is_line_feed cs c

    column : length (after_last is_line_feed (cs ++ c ∷ [])) ≡ cond (not (is_line_feed c)) (1 + length (after_last is_line_feed cs)) 0
    column =
        length-after_last is_line_feed (cs ++ c ∷ []) ∙ suffix_len-push (λ x. not (is_line_feed x)) cs c
        ∙ ap (λ n. cond (not (is_line_feed c)) (1 + n) 0) (sym (length-after_last is_line_feed cs))

    by : (b : Bool) → is_line_feed c ≡ b → place_behind (cs ++ c ∷ []) ≡ next_place (place_behind cs) c
    by true e =
        let l = rw e at line in
        let k = rw e at column in
        rw e (same_place _ _ _ _ (omega (arith, l)) (omega (arith, k)))
    by false e =
        let l = rw e at line in
        let k = rw e at column in
        rw e (same_place _ _ _ _ (omega (arith, l)) (omega (arith, k)))

-- no line and no column is greater than the number of characters
pub line_within : (cs : List ℕ) → (place_behind cs).line ≤ 1 + length cs
line_within cs = omega (arith, count_by-le-length is_line_feed cs)

pub column_within : (cs : List ℕ) → (place_behind cs).column ≤ 1 + length cs
column_within cs = omega (arith, length-after_last is_line_feed cs, suffix_len-le-length (λ x. not (is_line_feed x)) cs)

-- the characters up to one place, and those from there up to another
pub chars_up_to : (text : List ℕ) (i j : ℕ) → IsUtf8 text → IsCharBoundary text i → i ≤ j
    → chars (take j text) ≡ chars (take i text) ++ chars (take (j - i) (drop i text))
chars_up_to text i j u b h =
    let split : take j text ≡ take i text ++ take (j - i) (drop i text) =
    (let sum : j ≡ i + (j - i) = omega arith in ap (λ n. take n text) sum ∙ take-add i (j - i) text) in
    ap chars split ∙ chars-append (take i text) (take (j - i) (drop i text)) (IsUtf8-take text i u b)

-- ---- a walk over a text from i to j: what was read from i on, what is left before j, and the place between them
pub record IsWalk (text : List ℕ) (i j : ℕ) (read left : List ℕ) (p : Position) : Type 0 where
  pub utf8 : IsUtf8 left
  pub place : p ≡ place_behind (chars (take i text) ++ read)
  pub whole : chars (take j text) ≡ (chars (take i text) ++ read) ++ chars left

pub walk_start : (text : List ℕ) (i j : ℕ) (left : List ℕ) (p : Position) → IsUtf8 text → IsCharBoundary text i → i ≤ j
    → left ≡ take (j - i) (drop i text) → IsUtf8 left → p ≡ position_of text i → IsWalk text i j [] left p
walk_start text i j left p u b h e v at =
    let none : chars (take i text) ≡ chars (take i text) ++ [] = sym (append-nil (chars (take i text))) in
    record {
      utf8 = v;
      place = at ∙ ap place_behind none;
      whole = chars_up_to text i j u b h ∙ ap (λ cs. cs ++ chars (take (j - i) (drop i text))) none ∙ ap (λ bs. (chars (take i text) ++ []) ++ chars bs) (sym e);
    }

pub walk_more : (text : List ℕ) (i j : ℕ) (read left after : List ℕ) (p q : Position) (c : ℕ) → IsWalk text i j read left p
    → left ≡ encode_utf8 c ++ after → q ≡ next_place p c → IsWalk text i j (read ++ c ∷ []) after q
walk_more text i j read left after p q c w e next =
    let seen = chars (take i text) in
    let onto : (seen ++ read) ++ c ∷ [] ≡ seen ++ (read ++ c ∷ []) = append_assoc seen read (c ∷ []) in
    record {
      utf8 = IsUtf8-past_char left after c w.utf8 e;
      place = next ∙ ap (λ x. next_place x c) w.place ∙ sym (place_more (seen ++ read) c) ∙ ap place_behind onto;
      whole =
          w.whole ∙ ap (λ cs. (seen ++ read) ++ cs) (chars_past_char left after c w.utf8 e)
          ∙ sym (append_assoc (seen ++ read) (c ∷ []) (chars after)) ∙ ap (λ cs. cs ++ chars after) onto;
    }

-- both numbers are at most one more than the length of the text
pub walk_room : (text : List ℕ) (i j : ℕ) (read left : List ℕ) (p : Position) → IsUtf8 text → IsCharBoundary text j → IsWalk text i j read left p
    → (p.line ≤ 1 + length text) × (p.column ≤ 1 + length text)
walk_room text i j read left p u b w =
    let seen = chars (take i text) ++ read in
    let some : length seen ≤ length text =
    omega (arith, ap length w.whole, length-append seen (chars left), few_chars (take j text) (IsUtf8-take text j u b), length-take j text) in
    (omega (arith, ap (λ (x : Position). x.line) w.place, line_within seen), omega (arith, ap (λ (x : Position). x.column) w.place, column_within seen))

pub walk_end : (text : List ℕ) (i j : ℕ) (read left : List ℕ) (p : Position) → IsWalk text i j read left p → length left ≡ 0 → p ≡ position_of text j
walk_end text i j read left p w none =
    let seen = chars (take i text) ++ read in
    let all : chars (take j text) ≡ seen = w.whole ∙ ap (λ bs. seen ++ chars bs) (nil_from_length left none) ∙ ap (λ cs. seen ++ cs) chars-nil ∙ append-nil seen in
    w.place ∙ ap place_behind (sym all)
