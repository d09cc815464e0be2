-- The text of a pattern in which each character stands for itself: its one tree, and what that matches.
use Rattle.std.proofs.Common.{◌≡◌, ℕ, ◌↔◌, Bool, true, false, ◌==◌, List, [], ◌∷◌, ◌++◌, map, refl, codes, sym, ap, ◌∙◌, subst, inl, inr, arith, encode_utf8, encode_utf8_all, append_assoc, cond, Result, Ok, Err, is_ok, OnOk}
use Rattle.std.proofs.Math.Utf8.{scalar, scalars}
use Rattle.std.specs.Str.{chars, IsUtf8}
use Rattle.std.proofs.lemmas.Str.{chars-encodes, scalars-chars}
use Rattle.std.specs.List.{list_any, list_all}
use Rattle.std.proofs.lemmas.Bool.{and_parts, eqb-true}
use Rattle.std.proofs.lemmas.List.{append-nil, map-id}
use Rattle.lalrpop_hir.specs.Tree.{Tree, literal}
use Rattle.lalrpop_hir.specs.Parts.{trees}
use Rattle.lalrpop_hir.specs.Language.{Matches, MatchInTurn}
use Rattle.lalrpop_re.specs.Text.{Text}
use Rattle.lalrpop_re.specs.Flag.{no_flags}
use Rattle.lalrpop_re.specs.GroupName.{names, all_names}
use Rattle.lalrpop_re.specs.Escape.{is_mark, sign, this, character, Signed, at_once, Escape, escape_of}
use Rattle.lalrpop_re.specs.Pattern.{is_special, branch, a_literal, an_escape, an_atom, Row, no_piece, piece_then, last_branch, of_branches, Pattern}
use Rattle.lalrpop_re.specs.Escaped.{is_escaped, escaped}
use Rattle.lalrpop_re.proofs.Steps.{decided, or_cases}

-- ---- the characters

-- a test that all characters of a word pass, and one of them
member_passes : (p : ℕ → Bool) (w : List ℕ) (c : ℕ) → list_any (λ d. d == c) w ≡ true → list_all p w ≡ true → p c ≡ true
member_passes p [] c h k = absurd cc
member_passes p (d ∷ w) c h k =
    let both = and_parts (p d) _ k in
    elim (or_cases (d == c) (list_any (λ d. d == c) w) h) [
      | inl e ↦ subst (λ b. p b ≡ true) (eqb-true d c e) both.0
      | inr e ↦ member_passes p w c e both.1
    ]

pub escaped_mark : (c : ℕ) → is_escaped c ≡ true → is_mark c ≡ true
escaped_mark c h = member_passes is_mark (codes "\\.+*?()|[]{}^$#&-~") c h refl

special_escaped : (c : ℕ) → is_special c ≡ true → is_escaped c ≡ true
special_escaped c h = member_passes is_escaped (codes "\\.+*?()|[{^$") c h refl

plain_literal : (c : ℕ) → is_escaped c ≡ false → is_special c ≡ false
plain_literal c h = elim (decided (is_special c)) [
  | inl e ↦ absurd (let q : true ≡ false = sym (special_escaped c e) ∙ h in cc)
  | inr e ↦ e
]

-- ---- the derivation

-- the tree of a character
abbrev pub one : ℕ → Tree
one c = literal (c ∷ [])

sign_mark : (c : ℕ) → is_mark c ≡ true → sign c ≡ this (character c)
unfolding sign
sign_mark c h = rw h refl

pub mark_escape : (c : ℕ) (t : Text) → is_mark c ≡ true → Escape (c ∷ t) t (character c)
mark_escape c t h = escape_of (subst (λ s. Signed s t t (character c)) (sym (sign_mark c h)) at_once)

escaped_row : (cs : List ℕ) → Row [] no_flags (escaped cs) [] (map one cs) no_flags 0
unfolding escaped
escaped_row [] = no_piece refl
escaped_row (c ∷ cs) = elim (decided (is_escaped c)) [
  | inl h ↦ rw h (piece_then (an_atom (an_escape (mark_escape c (escaped cs) (escaped_mark c h)))) (escaped_row cs))
  | inr h ↦ rw h (piece_then (an_atom (a_literal (plain_literal c h))) (escaped_row cs))
]

no_names : (cs : List ℕ) → all_names (trees (map one cs)) ≡ []
unfolding names
no_names [] = refl
no_names (c ∷ cs) = no_names cs

branch_no_names : (cs : List ℕ) → names (branch (map one cs)) ≡ []
unfolding names
branch_no_names [] = refl
branch_no_names (c ∷ []) = refl
branch_no_names (c ∷ d ∷ cs) = no_names cs

pub escaped_pattern : (cs : List ℕ) → Pattern (escaped cs) (branch (map one cs))
escaped_pattern cs = record {
  flags = no_flags;
  levels = 0;
  reads = of_branches (last_branch (escaped_row cs) refl);
  flat = omega arith;
  distinct = rw (branch_no_names cs) refl;
}

-- ---- the language

match_row : (cs w : List ℕ) → MatchInTurn (trees (map one cs)) w ↔ (w ≡ cs)
match_row [] w = (λ h. h, λ h. h)
match_row (c ∷ cs) w = (
  λ h. h.2.0 ∙ ap (λ (u : List ℕ). u ++ h.1) h.2.1 ∙ ap (λ (u : List ℕ). c ∷ u) ((match_row cs h.1).0 h.2.2),
  λ h. (c ∷ [], cs, (h, refl, (match_row cs cs).1 refl)),
)

pub escaped_matches : (cs w : List ℕ) → Matches (branch (map one cs)) w ↔ (w ≡ cs)
escaped_matches [] w = (λ h. h, λ h. h)
escaped_matches (c ∷ []) w = (λ h. h, λ h. h)
escaped_matches (c ∷ d ∷ cs) w = match_row (c ∷ d ∷ cs) w

-- ---- one character more

pub escaped-append : (v w : List ℕ) → escaped (v ++ w) ≡ escaped v ++ escaped w
unfolding escaped
escaped-append [] w = refl
escaped-append (c ∷ v) w = elim (decided (is_escaped c)) [
  | inl h ↦ rw h (ap (λ (u : Text). 92 ∷ c ∷ u) (escaped-append v w))
  | inr h ↦ rw h (ap (λ (u : Text). c ∷ u) (escaped-append v w))
]

pub escaped_scalars : (cs : List ℕ) → scalars cs ≡ true → scalars (escaped cs) ≡ true
unfolding escaped
escaped_scalars [] h = refl
escaped_scalars (c ∷ cs) h =
    let both = and_parts (scalar c) _ h in
    elim (decided (is_escaped c)) [
      | inl e ↦ rw (e, both.0, escaped_scalars cs both.1) refl
      | inr e ↦ rw (e, both.0, escaped_scalars cs both.1) refl
    ]

-- ---- pushes

-- a push of the character alone, and one of a backslash and the character
pub plain_pushed : {E : Type 0} (r : Result (Unit {0}) E) (c : ℕ) (was now : List ℕ) → is_escaped c ≡ false → now ≡ cond (is_ok r) (was ++ encode_utf8 c) was
    → OnOk r (now ≡ was ++ encode_utf8_all (escaped (c ∷ [])))
unfolding escaped
plain_pushed (Ok x) c was now h e = rw h (e ∙ ap (λ (u : List ℕ). was ++ u) (sym (append-nil (encode_utf8 c))))
plain_pushed (Err x) c was now h e = tt

pub escaped_pushed : {E : Type 0} (r : Result (Unit {0}) E) (c : ℕ) (was between now : List ℕ) → is_escaped c ≡ true → between ≡ was ++ encode_utf8 92 → now ≡ cond (is_ok r) (between ++ encode_utf8 c) between
    → OnOk r (now ≡ was ++ encode_utf8_all (escaped (c ∷ [])))
unfolding escaped
escaped_pushed (Ok x) c was between now h b e = rw h (e ∙ ap (λ (u : List ℕ). u ++ encode_utf8 c) b ∙ append_assoc was (encode_utf8 92) (encode_utf8 c) ∙ ap (λ (u : List ℕ). was ++ (encode_utf8 92 ++ u)) (sym (append-nil (encode_utf8 c))))
escaped_pushed (Err x) c was between now h b e = tt

-- ---- the call

pub text_of_bytes : (bytes text seen : List ℕ) → bytes ≡ encode_utf8_all (escaped seen) → map (λ (c : ℕ). c) seen ≡ chars text → IsUtf8 text → chars bytes ≡ escaped (chars text)
text_of_bytes bytes text seen e m u =
    let same : seen ≡ chars text = sym (map-id seen) ∙ m in
    let good : scalars (escaped (chars text)) ≡ true = escaped_scalars (chars text) (scalars-chars text u) in
    rw (e, same) (chars-encodes (escaped (chars text)) good)

pub tree_of_text : (p cs : List ℕ) → p ≡ escaped cs → (t : Tree) × Pattern p t × ((w : List ℕ) → Matches t w ↔ (w ≡ cs))
tree_of_text p cs e = (branch (map one cs), subst (λ (q : Text). Pattern q (branch (map one cs))) (sym e) (escaped_pattern cs), escaped_matches cs)
