-- Texts that seem to end before their end, byte by byte.
use Rattle.std.proofs.Common.{◌≡◌, ◌≢◌, ℕ, zero, suc, ◌+◌, ◌<◌, ◌≤◌, ◌⊎◌, ◌↔◌, inl, inr, Bool, true, Option, Some, None, List, ◌∷◌, ◌++◌, length, drop, take, get_or, codes, ap, refl, sym, subst, ◌∙◌, arith, eq-or-lt_of_le, length-append, Bor}
use Rattle.std.specs.Prelude.{IfSome, IfNone, IsTrue}
use Rattle.std.specs.Option.{is_some}
use Rattle.std.specs.List.{slice_range}
use Rattle.std.proofs.lemmas.Bool.{false≢true}
use Rattle.lalrpop_rule_file.specs.Words.{IsSpan, begins, begins_name, is_blank, is_of_name}
use Rattle.lalrpop_rule_file.proofs.Spans.{IsSpan-unique}
use Rattle.std.specs.Str.{IsUtf8, IsCharBoundary}
use Rattle.std.proofs.lemmas.List.{drop_at, take_at, take-append-drop}
use Rattle.std.proofs.Math.Seq.{get_or-drop}
use Rattle.std.proofs.lemmas.Str.{IsCharBoundary-before_ascii}
use Rattle.lalrpop_rule_file.specs.GoesOn.{GoesOn, LooksLikeComment, LooksLikeMore, LooksLikeRule, SeemsToEnd}

-- a name, blanks and a `=` or something else
pub rule_test : (text name after gap here : List ℕ) (found : Option (Bor (List ℕ))) → begins begins_name text ≡ true → IsSpan is_of_name text name after → IsSpan is_blank after gap here
    → IfSome found (λ rest. here ≡ 61 ∷ rest.now) → IfNone found ((rest : List ℕ) → here ≢ 61 ∷ rest) → IsTrue (is_some found) ↔ LooksLikeRule text
rule_test text name after gap here (Some rest) first named blanks some none = (
  λ _. record { name = name; after = after; gap = gap; rest = rest.now; is_name = first; named = named; equals = subst (IsSpan is_blank after gap) some blanks },
  λ _. refl,
)
rule_test text name after gap here None first named blanks some none = (λ e. absurd (false≢true e), λ rule. absurd (no_rule rule))
  where
    no_rule : LooksLikeRule text → ⊥
    no_rule rule =
        let same : after ≡ rule.after = (IsSpan-unique is_of_name text name after rule.name rule.after named rule.named).1 in
        none rule.rest (IsSpan-unique is_blank after gap here rule.gap (codes "=" ++ rule.rest) blanks (subst (λ (x : List ℕ). IsSpan is_blank x rule.gap (codes "=" ++ rule.rest)) (sym same) rule.equals)).1

-- blanks, and more after them
pub needs_blank : (text gap here : List ℕ) → IsSpan is_blank text gap here → length gap ≡ 0 → ¬ LooksLikeMore text
needs_blank text gap here span none more = let same : gap ≡ more.gap = (IsSpan-unique is_blank text gap here more.gap more.here span more.blanks).0 in let n = ap length same in omega (arith, n, none, more.some)

pub more_test : (text gap here : List ℕ) (found : Bool) → IsSpan is_blank text gap here → (length gap ≡ 0 → ⊥) → IsTrue found ↔ (LooksLikeComment here ⊎ LooksLikeRule here) → IsTrue found ↔ LooksLikeMore text
more_test text gap here found span some is = (
  λ holds. record { gap = gap; here = here; blanks = span; some = positive (length gap) some; more = is.0 holds },
  λ more. is.1 (subst (λ (x : List ℕ). LooksLikeComment x ⊎ LooksLikeRule x) (sym (IsSpan-unique is_blank text gap here more.gap more.here span more.blanks).1) more.more),
)
  where
    positive : (n : ℕ) → (n ≡ 0 → ⊥) → 0 < n
    positive zero not = absurd (not refl)
    positive (suc n) not = omega arith

-- the two sides of a place
pub seems_at : (mark : ℕ) (text front here : List ℕ) (n : ℕ) (found : Bool) → front ≡ slice_range text 0 n → here ≡ drop n text → IsTrue found ↔ SeemsToEnd mark front here → IsTrue found ↔ SeemsToEnd mark (take n text) (drop n text)
seems_at mark text front here n found part behind is =
    let before : front ≡ take n text = part ∙ ap (λ (k : ℕ). take k text) (omega arith) in
    subst (λ (x : List ℕ). IsTrue found ↔ SeemsToEnd mark x (drop n text)) before (subst (λ (x : List ℕ). IsTrue found ↔ SeemsToEnd mark front x) behind is)

-- nowhere before this place
abbrev pub NoneBeforePlace : ℕ → List ℕ → ℕ → Type 0
NoneBeforePlace mark text n = (j : ℕ) → j < n → SeemsToEnd mark (take j text) (drop j text) → ⊥

pub one_further : (mark : ℕ) (text : List ℕ) (n : ℕ) → NoneBeforePlace mark text n → ¬ SeemsToEnd mark (take n text) (drop n text) → NoneBeforePlace mark text (n + 1)
one_further mark text n none here j less seems =
    let least : j ≤ n = omega (arith, less) in
    elim (eq-or-lt_of_le least) [
      | inl e ↦ here (subst (λ (k : ℕ). SeemsToEnd mark (take k text) (drop k text)) e seems)
      | inr before ↦ none j before seems
    ]

pub here_it_seems : (mark : ℕ) (text : List ℕ) (n : ℕ) → SeemsToEnd mark (take n text) (drop n text) → GoesOn mark text
here_it_seems mark text n seems = (take n text, drop n text, (sym (take-append-drop n text), seems))

-- none within a character
pub no_boundary : (mark : ℕ) (text : List ℕ) (n : ℕ) → mark < 128 → IsUtf8 text → n < length text → ¬ IsCharBoundary text n → ¬ SeemsToEnd mark (take n text) (drop n text)
no_boundary mark text n ascii utf8 inside no_place (rest, (is, more)) =
    let first : get_or text n 0 ≡ mark = ap (λ (k : ℕ). get_or text k 0) (omega arith) ∙ sym (get_or-drop n text 0 0) ∙ ap (λ (x : List ℕ). get_or x 0 0) is in
    no_place (IsCharBoundary-before_ascii text n inside (omega (arith, first, ascii)))

-- and nowhere at all
pub nowhere : (mark : ℕ) (text : List ℕ) (n : ℕ) → length text ≤ n → NoneBeforePlace mark text n → ¬ GoesOn mark text
nowhere mark text n all none (front, here, (parts, (rest, (is, more)))) =
    let size : length text ≡ length front + length here = ap length parts ∙ length-append front here in
    let some : length here ≡ 1 + length rest = ap length is ∙ (omega arith) in
    let before : front ≡ take (length front) text = sym (ap (take (length front)) parts ∙ take_at front here (length front) refl) in
    let behind : here ≡ drop (length front) text = sym (ap (drop (length front)) parts ∙ drop_at front here (length front) refl) in
    none (length front) (omega (arith, size, some, all)) (subst (λ (x : List ℕ). SeemsToEnd mark x (drop (length front) text)) before (subst (λ (x : List ℕ). SeemsToEnd mark front x) behind (rest, (is, more))))
