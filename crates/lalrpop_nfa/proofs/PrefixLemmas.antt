-- The walk along a text that keeps the longest prefix in a language: what holds after each character.
use Rattle.std.proofs.Common.{◌≡◌, ℕ, ◌+◌, ◌<◌, ◌≤◌, ⊎_elim, List, [], ◌++◌, length, take, sym, ap, subst, ◌∙◌, arith, length-append}
use Rattle.std.specs.Prelude.{Option, Some, None}
use Rattle.std.specs.Char.{encode_utf8}
use Rattle.std.specs.Str.{chars}
use Rattle.std.proofs.lemmas.Bool.{cases_lt}
use Rattle.std.proofs.lemmas.List.{nil_from_length}
use Rattle.std.proofs.lemmas.Str.{chars-nil, chars-append}
use Rattle.lalrpop_hir.proofs.Cuts.{IsCut, cut_within, goes_on, ends_there}
use Rattle.lalrpop_hir.specs.Prefix.{IsPrefix, IsLongestOf}

-- the longest prefix of at most n bytes whose word is in the language
abbrev pub IsLongestOfUpTo : (List ℕ → Type 0) → List ℕ → ℕ → Option (List ℕ) → Type 0
IsLongestOfUpTo L text n None = (p : List ℕ) → IsPrefix p text → L (chars p) → length p ≤ n → ⊥
IsLongestOfUpTo L text n (Some m) =
    IsPrefix m text × L (chars m) × ((p : List ℕ) → IsPrefix p text → L (chars p) → length p ≤ n → length p ≤ length m)

-- what was read is a prefix
pub of_cut : (text rest : List ℕ) (at : ℕ) (m : List ℕ) → IsCut text at rest → m ≡ take at text → IsPrefix m text
of_cut text rest at m h is = subst (λ xs. IsPrefix xs text) (sym is) (rest, (h.split, h.seen_utf8))

pub of_accept : (L : List ℕ → Type 0) (text rest : List ℕ) (at : ℕ) (m : List ℕ) → IsCut text at rest → m ≡ take at text → L (chars (take at text))
    → IsLongestOfUpTo L text at (Some m)
of_accept L text rest at m h is l =
    subst (λ xs. IsLongestOfUpTo L text at (Some xs)) (sym is) ((rest, (h.split, h.seen_utf8)), l, λ p b k below. omega (arith, h.place))

pub of_start : (L : List ℕ → Type 0) (text : List ℕ) → ¬ L [] → IsLongestOfUpTo L text 0 None
of_start L text not p b k below =
    let none : p ≡ [] = nil_from_length p (omega arith) in
    not (subst L (ap chars none ∙ chars-nil) k)

pub of_pass : (L : List ℕ → Type 0) (text rest rest2 : List ℕ) (at at2 c : ℕ) (best : Option (List ℕ)) → IsCut text at rest → rest ≡ encode_utf8 c ++ rest2
    → at2 ≡ at + length (encode_utf8 c) → ¬ L (chars (take at2 text)) → IsLongestOfUpTo L text at best → IsLongestOfUpTo L text at2 best
of_pass L text rest rest2 at at2 c None h e l not up = λ p b k below.
    ⊎_elim (λ (a : at < length p). not (subst (λ xs. L (chars xs)) (ends_there text rest rest2 p at at2 c h e l b a below) k))
    (λ (a : length p ≤ at). up p b k a)
    (cases_lt at (length p))
of_pass L text rest rest2 at at2 c (Some best) h e l not up = (
  up.0,
  up.1,
  λ p b k below.
      ⊎_elim (λ (a : at < length p). absurd (not (subst (λ xs. L (chars xs)) (ends_there text rest rest2 p at at2 c h e l b a below) k)))
      (λ (a : length p ≤ at). up.2 p b k a)
      (cases_lt at (length p)),
)

pub of_end : (L : List ℕ → Type 0) (text rest : List ℕ) (at : ℕ) (best : Option (List ℕ)) → IsCut text at rest → length rest ≡ 0
    → IsLongestOfUpTo L text at best → IsLongestOf L text best
of_end L text rest at None h none up = λ p b k. up p b k (omega (arith, cut_within text rest at h, ap length b.1.0, length-append p b.0))
of_end L text rest at (Some best) h none up = (up.0, up.1, λ p b k. up.2 p b k (omega (arith, cut_within text rest at h, ap length b.1.0, length-append p b.0)))

-- no continuation of what was read is in the language
pub of_stop : (L : List ℕ → Type 0) (text rest : List ℕ) (at : ℕ) (best : Option (List ℕ)) → IsCut text at rest
    → ((v : List ℕ) → ¬ L (chars (take at text) ++ v)) → IsLongestOfUpTo L text at best → IsLongestOf L text best
of_stop L text rest at best h none up = stop best up
  where
    within : (p : List ℕ) → IsPrefix p text → L (chars p) → length p ≤ at
    within p b k =
        ⊎_elim (λ (above : at < length p).
        let g = goes_on text rest at p h b (omega arith) in
        let word : chars p ≡ chars (take at text) ++ chars g.more = ap chars g.is ∙ chars-append (take at text) g.more h.seen_utf8 in
        absurd (none (chars g.more) (subst L word k)))
        (λ (below : length p ≤ at). below)
        (cases_lt at (length p))

    stop : (best : Option (List ℕ)) → IsLongestOfUpTo L text at best → IsLongestOf L text best
    stop None up = λ p b k. up p b k (within p b k)
    stop (Some m) up = (up.0, up.1, λ p b k. up.2 p b k (within p b k))
