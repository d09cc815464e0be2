-- A text up to its last delimiter.
use Rattle.std.proofs.Common.{◌≡◌, ◌≢◌, ℕ, suc, ◌<◌, false, true, List, [], ◌∷◌, ◌++◌, length, get_or, take, drop, refl, sym, ap, subst, ◌∙◌, arith, ne_eqb, eq-eqb}
use Rattle.std.specs.Str.{NoCharPasses}
use Rattle.std.specs.Prelude.{◌==◌, not}
use Rattle.std.specs.Str.Pattern.{RFindsChar, SplitsAroundMatch}
use Rattle.std.proofs.lemmas.Bool.{false≢true}
use Rattle.std.proofs.lemmas.List.{take-append-drop}
use Rattle.std.proofs.lemmas.Str.Pattern.{NoCharPasses-char, drop_at_char}
use Rattle.lalrpop_rule_file.specs.Words.{AreBlanks, Lacks, is_blank}
use Rattle.lalrpop_rule_file.specs.LineText.{Form, Literal, Escaped, Pattern, delimiter}

lacks_each : (c : ℕ) (bs : List ℕ) → ((i : ℕ) → i < length bs → get_or bs i 0 ≢ c) → Lacks c bs
lacks_each c [] none = tt
lacks_each c (b ∷ bs) none = (ap not (ne_eqb b c (none 0 (omega arith))), lacks_each c bs (λ i below. none (suc i) (omega arith)))

pub lacks_none : (c : ℕ) (xs us : List ℕ) → ¬ Lacks c (xs ++ (c ∷ us))
lacks_none c [] us lacks = false≢true (sym (ap not (eq-eqb c c refl)) ∙ lacks.0)
lacks_none c (x ∷ xs) us lacks = lacks_none c xs us lacks.1

-- the last delimiter is one
pub last_unique : (c : ℕ) (xs us ys vs : List ℕ) → Lacks c us → Lacks c vs → xs ++ (c ∷ us) ≡ ys ++ (c ∷ vs) → (xs ≡ ys) × (us ≡ vs)
last_unique c [] us [] vs a b e = (refl, cc)
last_unique c [] us (y ∷ ys) vs a b e =
    let same : us ≡ ys ++ (c ∷ vs) = cc in absurd (lacks_none c ys vs (subst (Lacks c) same a))
last_unique c (x ∷ xs) us [] vs a b e =
    let same : xs ++ (c ∷ us) ≡ vs = cc in absurd (lacks_none c xs us (subst (Lacks c) (sym same) b))
last_unique c (x ∷ xs) us (y ∷ ys) vs a b e =
    let same : xs ++ (c ∷ us) ≡ ys ++ (c ∷ vs) = cc in
    let rest = last_unique c xs us ys vs a b same in (cc, rest.1)

blank_differs : (b c : ℕ) → is_blank c ≡ false → is_blank b ≡ true → b ≢ c
blank_differs b c fails blank e = false≢true (sym fails ∙ sym (ap is_blank e) ∙ blank)

pub blanks_lack : (c : ℕ) (bs : List ℕ) → is_blank c ≡ false → AreBlanks bs → Lacks c bs
blanks_lack c [] fails h = tt
blanks_lack c (b ∷ bs) fails h = (ap not (ne_eqb b c (blank_differs b c fails h.0)), blanks_lack c bs fails h.1)

-- a text that is cut at its last delimiter
pub split_last : (c : ℕ) (inner text trail : List ℕ) → c < 128 → SplitsAroundMatch (RFindsChar c) inner text trail → (inner ≡ text ++ (c ∷ trail)) × Lacks c trail
split_last c inner text trail ascii (i, j, found, front, back, ordered, front_len, back_len) =
    let here : drop i inner ≡ c ∷ drop j inner = drop_at_char c inner i j found.1 ascii in
    let whole : inner ≡ take i inner ++ (c ∷ drop j inner) = sym (take-append-drop i inner) ∙ ap (λ (x : List ℕ). take i inner ++ x) here in (
      whole ∙ ap (λ (x : List ℕ). x ++ (c ∷ drop j inner)) (sym front) ∙ ap (λ (x : List ℕ). text ++ (c ∷ x)) (sym back),
      subst (Lacks c) (sym back) (lacks_each c (drop j inner) (λ k below. NoCharPasses-char c (drop j inner) k found.0 ascii below)),
    )

-- and one without any
pub no_char : (c : ℕ) (inner : List ℕ) → c < 128 → NoCharPasses (λ d. d == c) inner → Lacks c inner
no_char c inner ascii none = lacks_each c inner (λ i below. NoCharPasses-char c inner i none ascii below)

pub delimiter_ascii : (form : Form) → (delimiter form < 128) × (is_blank (delimiter form) ≡ false)
delimiter_ascii Literal = (omega arith, refl)
delimiter_ascii Escaped = (omega arith, refl)
delimiter_ascii Pattern = (omega arith, refl)

pub positive : (bs : List ℕ) → (length bs ≡ 0 → ⊥) → 0 < length bs
positive [] none = absurd (none refl)
positive (b ∷ bs) none = omega arith
