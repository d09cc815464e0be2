-- The place after characters of ASCII other than line feeds.
use Rattle.std.proofs.Common.{◌≡◌, ◌≢◌, ℕ, ◌+◌, ◌-◌, ◌<◌, ◌≤◌, suc, List, [], ◌∷◌, ◌++◌, length, get_or, take, drop, arith, refl, sym, ap, subst, ◌∙◌, length-drop, length-take, append_assoc, append-nil}
use Rattle.std.specs.Str.{chars, IsUtf8, IsCharBoundary, IsAscii}
use Rattle.std.proofs.lemmas.Bool.{ne_eqb}
use Rattle.std.proofs.lemmas.List.Elements.{All-from_get_or}
use Rattle.std.proofs.lemmas.Simd.{get_or-chunk}
use Rattle.std.proofs.lemmas.Str.{chars-IsAscii, IsUtf8-take}
use Rattle.std.proofs.lemmas.Str.Ascii.{IsAscii-from_all}
use Rattle.bajofeki_rules.specs.Position.{place_behind, position_of}
use Rattle.bajofeki_rules.specs.Internal.ByteRuns.{IsInLine}
use Rattle.bajofeki_rules.specs.Internal.Places.{next_place}
use Rattle.bajofeki_rules.specs.declared.position.Position.{Position}
use Rattle.bajofeki_rules.proofs.Places.{place_more, chars_up_to, column_within, few_chars}

-- a place so many columns further on
abbrev pub further : Position → ℕ → Position
further p n = record { line = p.line; column = p.column + n }

same_place : (line column l k : ℕ) → line ≡ l → column ≡ k → ◌≡◌ {A = Position} (record { line = line; column = column }) (record { line = l; column = k })
same_place line column l k e f = cc

one_further : (p : Position) (c : ℕ) → c ≢ 10 → next_place p c ≡ further p 1
one_further p c other = rw (ne_eqb c 10 other) refl

run_further : (seen s : List ℕ) → ((k : ℕ) → k < length s → IsInLine (get_or s k 0)) → place_behind (seen ++ s) ≡ further (place_behind seen) (length s)
run_further seen [] each = ap place_behind (append-nil seen) ∙ same_place _ _ _ _ refl (omega arith)
run_further seen (x ∷ xs) each =
    let one : place_behind (seen ++ x ∷ []) ≡ further (place_behind seen) 1 = place_more seen x ∙ one_further (place_behind seen) x (each 0 (omega arith)).feed in
    let rest = run_further (seen ++ x ∷ []) xs (λ k within. each (suc k) (omega (arith, within))) in
    ap place_behind (sym (append_assoc seen (x ∷ []) xs)) ∙ rest ∙ ap (λ (p : Position). further p (length xs)) one
    ∙ same_place _ _ _ _ refl (omega arith)

pub place_in_line : (text : List ℕ) (i j : ℕ) → IsUtf8 text → IsCharBoundary text i → i ≤ j → j ≤ length text
    → ((k : ℕ) → i ≤ k → k < j → IsInLine (get_or text k 0)) → position_of text j ≡ further (position_of text i) (j - i)
place_in_line text i j u b ordered within each =
    let s = take (j - i) (drop i text) in
    let long : length s ≡ j - i = omega (arith, length-take (j - i) (drop i text), length-drop i text) in
    let own : (k : ℕ) → k < length s → IsInLine (get_or s k 0) =
    (λ k inside. subst IsInLine (sym (get_or-chunk i (j - i) text k 0 (omega (arith, inside, long)))) (each (i + k) (omega arith) (omega (arith, inside, long)))) in
    let ascii : IsAscii s = IsAscii-from_all s (All-from_get_or (λ c. c < 128) s 0 (λ k inside. (own k inside).ascii)) in
    ap place_behind (chars_up_to text i j u b ordered ∙ ap (λ (w : List ℕ). chars (take i text) ++ w) (chars-IsAscii s ascii))
    ∙ run_further (chars (take i text)) s own ∙ ap (further (position_of text i)) long

-- there is room for the columns
pub room_in_line : (text : List ℕ) (i j : ℕ) → IsUtf8 text → IsCharBoundary text j → position_of text j ≡ further (position_of text i) (j - i)
    → (position_of text i).column + (j - i) ≤ 1 + length text
room_in_line text i j u b is =
    let column : (position_of text j).column ≡ (position_of text i).column + (j - i) = ap (λ (p : Position). p.column) is in
    omega (arith, column, column_within (chars (take j text)), few_chars (take j text) (IsUtf8-take text j u b), length-take j text)
