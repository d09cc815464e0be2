-- A text from A up to the first B is one.
use Rattle.std.proofs.Common.{◌≡◌, ◌≢◌, ℕ, ◌+◌, ◌<◌, ◌⊎◌, inl, inr, List, ◌∷◌, ◌++◌, length, drop, take, get_or, codes, ◌≤◌, length-take, refl, sym, ap, subst, ◌∙◌, arith, length-append}
use Rattle.std.specs.List.{slice_range}
use Rattle.std.proofs.lemmas.List.{drop_at, take_at, take-append-drop}
use Rattle.std.proofs.Math.Seq.{get_or-drop}
use Rattle.std.specs.Str.{IsUtf8, IsCharBoundary}
use Rattle.std.proofs.lemmas.Str.{IsCharBoundary-before_ascii}
use Rattle.lalrpop_rule_file.specs.Words.{IsSpan, is_blank}
use Rattle.lalrpop_rule_file.specs.LineText.{IsTo, NoToBefore, IsUpToTo}
use Rattle.lalrpop_rule_file.proofs.Spans.{IsSpan-unique}

-- what follows `' to '` is one
pub IsTo-unique : (text rest other : List ℕ) → IsTo text rest → IsTo text other → rest ≡ other
IsTo-unique text rest other g h =
    let quotes : g.first ≡ h.first = ap (drop 1) (sym g.quote ∙ h.quote) in
    let words = IsSpan-unique is_blank g.first g.gap (codes "to" ++ g.second) h.gap (codes "to" ++ h.second) g.blanks (rw quotes h.blanks) in
    let behind : g.second ≡ h.second = ap (drop 2) words.1 in
    let ends = IsSpan-unique is_blank g.second g.gap2 (codes "'" ++ rest) h.gap2 (codes "'" ++ other) g.blanks2 (rw behind h.blanks2) in
    ap (drop 1) ends.1

-- it has a character
pub to_has_some : (text rest : List ℕ) → IsTo text rest → 0 < length text
to_has_some text rest h = rw h.quote (omega arith)

-- it stands in the text
pub to_there : (text a rest : List ℕ) (h : IsUpToTo text a rest) → IsTo (drop (length a) text) rest
to_there text a rest h = subst (λ (x : List ℕ). IsTo x rest) (sym (ap (drop (length a)) h.parts ∙ drop_at a h.mark (length a) refl)) h.is_to

pub before_end : (text a rest : List ℕ) (h : IsUpToTo text a rest) → length a < length text
before_end text a rest h =
    let n : length text ≡ length a + length h.mark = ap length h.parts ∙ length-append a h.mark in omega (arith, n, to_has_some h.mark rest h.is_to)

-- so there is one first
pub no_first : (text a rest : List ℕ) → IsUpToTo text a rest → ¬ NoToBefore text (length text)
no_first text a rest h none = none (length a) (before_end text a rest h) rest (to_there text a rest h)

same_length : (text a rest b other : List ℕ) → IsUpToTo text a rest → IsUpToTo text b other → length a ≡ length b
same_length text a rest b other g h = by (order (length a) (length b))
  where
    order : (m n : ℕ) → (m ≡ n) ⊎ ((m < n) ⊎ (n < m))
    order m n = grind arith

    by : (length a ≡ length b) ⊎ ((length a < length b) ⊎ (length b < length a)) → length a ≡ length b
    by (inl same) = same
    by (inr (inl less)) = absurd (h.first (length a) less rest (to_there text a rest g))
    by (inr (inr less)) = absurd (g.first (length b) less other (to_there text b other h))

pub IsUpToTo-unique : (text a rest b other : List ℕ) → IsUpToTo text a rest → IsUpToTo text b other → (a ≡ b) × (rest ≡ other)
IsUpToTo-unique text a rest b other g h =
    let n = same_length text a rest b other g h in
    let front : a ≡ b = sym (take_at a g.mark (length a) refl) ∙ ap (take (length a)) (sym g.parts ∙ h.parts) ∙ take_at b h.mark (length a) (sym n) in
    (front, IsTo-unique (drop (length a) text) rest other (to_there text a rest g) (rw n (to_there text b other h)))

-- ---- after the first apostrophe

-- blanks stand there, and `to` after them
pub to_words : (text first gap word rest : List ℕ) → text ≡ 39 ∷ first → IsSpan is_blank first gap word → (to : IsTo text rest) → (gap ≡ to.gap) × (word ≡ codes "to" ++ to.second)
to_words text first gap word rest parts span to =
    let quotes : to.first ≡ first = ap (drop 1) (sym to.quote ∙ parts) in
    IsSpan-unique is_blank first gap word to.gap (codes "to" ++ to.second) span (rw (sym quotes) to.blanks)

pub no_blank_no_to : (text first gap word : List ℕ) → text ≡ 39 ∷ first → IsSpan is_blank first gap word → length gap ≡ 0 → (rest : List ℕ) → ¬ IsTo text rest
no_blank_no_to text first gap word parts span none rest to =
    let same : length gap ≡ length to.gap = ap length (to_words text first gap word rest parts span to).0 in omega (arith, none, same, to.some)

pub no_word_no_to : (text first gap word : List ℕ) → text ≡ 39 ∷ first → IsSpan is_blank first gap word → ((second : List ℕ) → word ≢ codes "to" ++ second) → (rest : List ℕ) → ¬ IsTo text rest
no_word_no_to text first gap word parts span none rest to = none to.second (to_words text first gap word rest parts span to).1

-- and then blanks and an apostrophe
pub no_quote_no_to : (text first gap word second gap2 quote : List ℕ) → text ≡ 39 ∷ first → IsSpan is_blank first gap word → word ≡ codes "to" ++ second → IsSpan is_blank second gap2 quote
    → ((rest : List ℕ) → quote ≢ 39 ∷ rest) → (rest : List ℕ) → ¬ IsTo text rest
no_quote_no_to text first gap word second gap2 quote parts span is blanks none rest to =
    let behind : second ≡ to.second = ap (drop 2) (sym is ∙ (to_words text first gap word rest parts span to).1) in
    none rest (IsSpan-unique is_blank second gap2 quote to.gap2 (codes "'" ++ rest) blanks (rw behind to.blanks2)).1

-- ---- the first one

pub up_to_here : (text front here rest : List ℕ) (n : ℕ) → n < length text → front ≡ slice_range text 0 n → here ≡ drop n text → IsTo here rest → NoToBefore text n → IsUpToTo text front rest
up_to_here text front here rest n inside part behind to none =
    let is : front ≡ take n text = part ∙ ap (λ (k : ℕ). take k text) (omega arith) in
    let size : length front ≡ n = ap length is ∙ length-take n text ∙ (omega arith) in
    record {
      mark = here;
      parts = sym (take-append-drop n text) ∙ ap (λ (x : List ℕ). x ++ drop n text) (sym is) ∙ ap (λ (x : List ℕ). front ++ x) (sym behind);
      is_to = to;
      first = subst (NoToBefore text) (sym size) none;
    }

pub one_further : (text : List ℕ) (n : ℕ) → NoToBefore text n → ((rest : List ℕ) → ¬ IsTo (drop n text) rest) → NoToBefore text (n + 1)
one_further text n none here k less rest = by (order k)
  where
    order : (m : ℕ) → (m < n) ⊎ ((m ≡ n) ⊎ (n + 1 ≤ m))
    order m = grind arith

    by : (k < n) ⊎ ((k ≡ n) ⊎ (n + 1 ≤ k)) → ¬ IsTo (drop k text) rest
    by (inl before) = none k before rest
    by (inr (inl same)) = subst (λ (m : ℕ). ¬ IsTo (drop m text) rest) (sym same) (here rest)
    by (inr (inr more)) = absurd (omega (arith, less, more))

first_of : (text : List ℕ) (n : ℕ) → n < length text → get_or (drop n text) 0 0 ≡ get_or text n 0
first_of text n inside = get_or-drop n text 0 0 ∙ ap (λ (k : ℕ). get_or text k 0) (omega arith)

-- none within a character
pub no_boundary : (text : List ℕ) (n : ℕ) → IsUtf8 text → n < length text → ¬ IsCharBoundary text n → (rest : List ℕ) → ¬ IsTo (drop n text) rest
no_boundary text n utf8 inside no_place rest to =
    let quote : get_or text n 0 ≡ 39 = sym (first_of text n inside) ∙ ap (λ (x : List ℕ). get_or x 0 0) to.quote in
    no_place (IsCharBoundary-before_ascii text n inside (omega (arith, quote)))
