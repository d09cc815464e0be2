-- The bytes at the front of a text that pass a test.
use Rattle.std.proofs.Common.{◌≡◌, ℕ, zero, suc, ◌+◌, ◌<◌, Bool, true, false, List, [], ◌∷◌, ◌++◌, length, take, drop, get_or, refl, sym, ap, subst, ◌∙◌, arith, add-one, one-add, cond, append-nil}
use Rattle.std.specs.Str.{IsUtf8, IsCharBoundary}
use Rattle.std.specs.List.{prefix_len}
use Rattle.std.proofs.lemmas.List.{take-append-drop}
use Rattle.std.proofs.lemmas.Bool.{false≢true}
use Rattle.std.proofs.lemmas.Str.{IsCharBoundary-start, IsCharBoundary-after_ascii}
use Rattle.std.proofs.lemmas.List.Sums.{prefix_len-le-length, prefix_len_passes}
use Rattle.lalrpop_rule_file.specs.Words.{EachByte, begins, IsSpan}

pub cut_unique : (p : ℕ → Bool) (xs us ys vs : List ℕ) → EachByte p xs → begins p us ≡ false → EachByte p ys → begins p vs ≡ false → xs ++ us ≡ ys ++ vs → (xs ≡ ys) × (us ≡ vs)
cut_unique p [] us [] vs a b c d e = (refl, e)
cut_unique p [] us (y ∷ ys) vs a b c d e = absurd (false≢true (sym b ∙ ap (begins p) e ∙ c.0))
cut_unique p (x ∷ xs) us [] vs a b c d e = absurd (false≢true (sym d ∙ ap (begins p) (sym e) ∙ a.0))
cut_unique p (x ∷ xs) us (y ∷ ys) vs a b c d e =
    let rest = cut_unique p xs us ys vs a.1 b c.1 d (cc) in (cc, rest.1)

-- a text has one such front
pub IsSpan-unique : (p : ℕ → Bool) (text xs us ys vs : List ℕ) → IsSpan p text xs us → IsSpan p text ys vs → (xs ≡ ys) × (us ≡ vs)
IsSpan-unique p text xs us ys vs h g = cut_unique p xs us ys vs h.passes h.stops g.passes g.stops (sym h.parts ∙ g.parts)

-- the text may be cut after bytes of ASCII
pub boundary_behind : (p : ℕ → Bool) → ((b : ℕ) → p b ≡ true → b < 128) → (text : List ℕ) → IsUtf8 text → IsCharBoundary text (prefix_len p text)
boundary_behind p ascii text utf8 = at (prefix_len p text) refl
  where
    at : (n : ℕ) → n ≡ prefix_len p text → IsCharBoundary text n
    at zero e = IsCharBoundary-start text utf8
    at (suc k) e =
        let below : k < prefix_len p text = omega arith in
        let within : k < length text = omega (arith, prefix_len-le-length p text) in
        subst (λ (n : ℕ). IsCharBoundary text n) (add-one k) (IsCharBoundary-after_ascii text k utf8 within (ascii (get_or text k 0) (prefix_len_passes p text k 0 below)))

passes_at : (p : ℕ → Bool) (text : List ℕ) → EachByte p (take (prefix_len p text) text)
passes_at p [] = tt
passes_at p (b ∷ bs) = by (p b) refl (passes_at p bs)
  where
    by : (t : Bool) → p b ≡ t → EachByte p (take (prefix_len p bs) bs) → EachByte p (take (cond t (1 + prefix_len p bs) 0) (b ∷ bs))
    by true e rest = rw (one-add (prefix_len p bs)) (e, rest)
    by false e rest = tt

stops_at : (p : ℕ → Bool) (text : List ℕ) → begins p (drop (prefix_len p text) text) ≡ false
stops_at p [] = refl
stops_at p (b ∷ bs) = by (p b) refl (stops_at p bs)
  where
    by : (t : Bool) → p b ≡ t → begins p (drop (prefix_len p bs) bs) ≡ false → begins p (drop (cond t (1 + prefix_len p bs) 0) (b ∷ bs)) ≡ false
    by true e rest = rw (one-add (prefix_len p bs)) rest
    by false e rest = e

parts_at : (n : ℕ) (text : List ℕ) → text ≡ take n text ++ drop n text
parts_at n text = sym (take-append-drop n text)

pub span_at : (p : ℕ → Bool) (text : List ℕ) → IsSpan p text (take (prefix_len p text) text) (drop (prefix_len p text) text)
span_at p text = record { parts = parts_at _ text; passes = passes_at p text; stops = stops_at p text }

-- all of a text passes where nothing is left
pub passes_all : (p : ℕ → Bool) (text front rest : List ℕ) → IsSpan p text front rest → length rest ≡ 0 → EachByte p text
passes_all p text front [] h none = subst (EachByte p) (sym (h.parts ∙ append-nil front)) h.passes
passes_all p text front (b ∷ rest) h none = absurd (omega arith)

-- and nothing is left where all of it passes
pub nothing_left : (p : ℕ → Bool) (text front rest : List ℕ) → IsSpan p text front rest → EachByte p text → length rest ≡ 0
nothing_left p text front rest h all =
    let whole : IsSpan p text text [] = record { parts = sym (append-nil text); passes = all; stops = refl } in
    ap length (IsSpan-unique p text front rest text [] h whole).1
