-- The line with a number, and the signs that are shown of it.
use Rattle.std.proofs.Common.{◌≡◌, ℕ, zero, suc, ◌+◌, ◌-◌, ◌<◌, ◌≤◌, Bool, true, false, List, [], ◌∷◌, ◌++◌, length, map, take, drop, get_or, refl, sym, ap, ◌∙◌, arith, append_assoc, append-nil, IsUtf8}
use Rattle.std.specs.Prelude.{Some, None, slice_get, unwrap_or}
use Rattle.std.specs.Char.{encode_utf8}
use Rattle.std.specs.Bool.{then_some}
use Rattle.std.specs.Str.{chars, encode_utf8_all, is_utf8}
use Rattle.std.proofs.lemmas.List.{drop-drop, take_more}
use Rattle.std.proofs.lemmas.Str.{encodes-append, is_utf8-from_IsUtf8, IsUtf8-from_is_utf8}
use Rattle.lalrpop_rule_file.specs.RuleFile.{without_return}
use Rattle.reports_lib.specs.ShownLine.{dots, sign, signs_of}

-- one line further
pub next_lines : (ls : List (List ℕ)) (n : ℕ) (line : List ℕ) (rest : List (List ℕ)) → drop n ls ≡ line ∷ rest → drop (n + 1) ls ≡ rest
next_lines ls n line rest e = sym (drop-drop 1 n ls) ∙ ap (drop 1) e

pub line_found : (ls : List (List ℕ)) (n : ℕ) (line : List ℕ) (rest : List (List ℕ)) → drop n ls ≡ line ∷ rest → unwrap_or (slice_get ls n) [] ≡ line
line_found [] zero line rest e = absurd (cc e)
line_found [] (suc n) line rest e = absurd (cc e)
line_found (l ∷ ls) zero line rest e = cc
line_found (l ∷ ls) (suc n) line rest e = line_found ls n line rest e

pub no_line : (ls : List (List ℕ)) (n m : ℕ) → drop n ls ≡ [] → n ≤ m → [] ≡ unwrap_or (slice_get ls m) []
no_line [] n m e low = cc
no_line (l ∷ ls) zero m e low = absurd (cc e)
no_line (l ∷ ls) (suc n) zero e low = absurd (omega arith)
no_line (l ∷ ls) (suc n) (suc m) e low = no_line ls n m e (omega arith)

-- one sign more
pub sign_pushed : (dots signs : List ℕ) (i c : ℕ) → i < length signs → c ≡ get_or signs i c → encode_utf8_all (dots ++ take i signs) ++ encode_utf8 c ≡ encode_utf8_all (dots ++ take (i + 1) signs)
sign_pushed dots signs i c within is =
    let more : take (i + 1) signs ≡ take i signs ++ (c ∷ []) = take_more signs i c within ∙ ap (λ d. take i signs ++ (d ∷ [])) (sym is) in
    ap (λ (t : List ℕ). encode_utf8_all (dots ++ take i signs) ++ t) (sym (append-nil (encode_utf8 c)))
    ∙ sym (encodes-append (dots ++ take i signs) (c ∷ []))
    ∙ ap encode_utf8_all (append_assoc dots (take i signs) (c ∷ []) ∙ ap (λ (t : List ℕ). dots ++ t) (sym more))

-- dots at the end
pub dots_pushed : (dots signs : List ℕ) (c : ℕ) → encode_utf8_all (dots ++ signs) ++ encode_utf8 c ≡ encode_utf8_all (dots ++ (signs ++ (c ∷ [])))
dots_pushed dots signs c =
    ap (λ (t : List ℕ). encode_utf8_all (dots ++ signs) ++ t) (sym (append-nil (encode_utf8 c))) ∙ sym (encodes-append (dots ++ signs) (c ∷ [])) ∙ ap encode_utf8_all (append_assoc dots signs (c ∷ []))

pub dots_for_some : (n m : ℕ) → m < n → dots (n - m) ≡ 8230 ∷ []
dots_for_some n m some = let more : n - m ≡ suc (n - m - 1) = omega arith in ap dots more

pub dots_for_none : (n m : ℕ) → n ≤ m → dots (n - m) ≡ []
dots_for_none n m none = let zero_left : n - m ≡ 0 = omega arith in ap dots zero_left

-- the signs of a text, and of bytes that aren't text
pub signs_of_text : (line text : List ℕ) → text ≡ line → IsUtf8 line → Some (map sign (chars (without_return text))) ≡ signs_of line
signs_of_text line text same utf8 =
    ap (λ t. Some (map sign (chars (without_return t)))) same ∙ ap (λ (t : Bool). then_some t (map sign (chars (without_return line)))) (sym (is_utf8-from_IsUtf8 line utf8))

pub no_signs : (line : List ℕ) → ¬ IsUtf8 line → None ≡ signs_of line
no_signs line none = by (is_utf8 line) refl
  where
    by : (t : Bool) → is_utf8 line ≡ t → None ≡ then_some t (map sign (chars (without_return line)))
    by true is = absurd (none (IsUtf8-from_is_utf8 line is))
    by false is = refl
