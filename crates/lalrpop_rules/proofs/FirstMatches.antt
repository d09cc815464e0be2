-- Walking along a text to the first place where some tree matches.
use Rattle.std.proofs.Common.{◌≡◌, ◌≢◌, ℕ, ◌+◌, ◌<◌, ◌⊎◌, inl, inr, List, [], ◌∷◌, ◌++◌, length, take, drop, arith, refl, sym, ap, subst, ◌∙◌, length-append, length-drop, length-take}
use Rattle.std.specs.Prelude.{None}
use Rattle.std.specs.Str.{IsUtf8, IsCharBoundary}
use Rattle.std.specs.Char.{encode_utf8}
use Rattle.std.proofs.lemmas.Bool.{cases_order}
use Rattle.std.proofs.lemmas.Str.{IsCharBoundary-start, IsCharBoundary-from_rest, IsUtf8-take}
use Rattle.std.proofs.lemmas.List.{drop_at, take-append-drop}
use Rattle.lalrpop_hir.specs.Tree.{Tree}
use Rattle.lalrpop_hir.specs.Longest.{IsMatch, IsLongest}
use Rattle.lalrpop_hir.proofs.Cuts.{IsCut, cut_more, ends_there}
use Rattle.lalrpop_rules.specs.Found.{MatchesAt, NoMatchBefore, NothingFound}

pub some_length : (p : List ℕ) → p ≢ [] → 0 < length p
some_length [] some = absurd (some refl)
some_length (b ∷ p) some = omega arith

-- a match begins before the end of the text
pub match_within : (ts : List Tree) (text : List ℕ) (n : ℕ) → MatchesAt ts text n → n < length text
match_within ts text n (p, m) =
    omega (arith, some_length p m.1, length-drop n text, ap length m.0.1.0, length-append p m.0.0)

start_of_more : (p rest : List ℕ) → p ≢ [] → IsCharBoundary p 0 → IsCharBoundary (p ++ rest) 0
start_of_more [] rest some b = absurd (some refl)
start_of_more (c ∷ p) rest some b = (omega arith, λ _ high. b.1 (omega arith) high)

-- and where a character does
pub match_begins : (ts : List Tree) (text : List ℕ) (n : ℕ) → MatchesAt ts text n → IsCharBoundary text n
match_begins ts text n (p, m) =
    let within : n < length text = match_within ts text n (p, m) in
    let here : IsCharBoundary (drop n text) 0 =
    subst (λ (t : List ℕ). IsCharBoundary t 0) (sym m.0.1.0) (start_of_more p m.0.0 m.1 (IsCharBoundary-start p m.0.1.1)) in
    let same : n + 0 ≡ n = omega arith in
    subst (IsCharBoundary text) same (IsCharBoundary-from_rest text n 0 (omega arith) here)

-- what is left at a cut
pub left_at : (text rest : List ℕ) (at : ℕ) → IsCut text at rest → drop at text ≡ rest
left_at text rest at h = ap (drop at) h.split ∙ drop_at (take at text) rest at h.place

-- within a character nothing matches
within_char : (ts : List Tree) (text rest rest2 : List ℕ) (at at2 c n : ℕ) → IsUtf8 text → IsCut text at rest → rest ≡ encode_utf8 c ++ rest2
    → at2 ≡ at + length (encode_utf8 c) → at < n → n < at2 → ¬ MatchesAt ts text n
within_char ts text rest rest2 at at2 c n u h e l above below m =
    let within : n < length text = match_within ts text n m in
    let later = cut_more text rest rest2 at at2 c u h e l in
    let size : length (take n text) ≡ n = omega (arith, length-take n text) in
    let whole : take n text ≡ take at2 text =
    ends_there text rest rest2 (take n text) at at2 c h e l (drop n text, (sym (take-append-drop n text), IsUtf8-take text n u (match_begins ts text n m)))
    (omega arith) (omega arith) in
    omega (arith, ap length whole, later.place)

-- where nothing matches at the next character either, nothing matches before the one after it
pub before_next : (ts : List Tree) (ps text rest rest2 : List ℕ) (at at2 c : ℕ) → IsUtf8 text → IsCut text at rest → rest ≡ encode_utf8 c ++ rest2
    → at2 ≡ at + length (encode_utf8 c) → NoMatchBefore ts text at → IsLongest ts ps rest None → NoMatchBefore ts text at2
before_next ts ps text rest rest2 at at2 c u h e l before none n below m = by_order (cases_order n at)
  where
    by_order : (n ≡ at) ⊎ ((n < at) ⊎ (at < n)) → ⊥
    by_order (inl here) =
        let there : MatchesAt ts text at = subst (λ (k : ℕ). MatchesAt ts text k) here m in
        none there.0 (subst (λ (t : List ℕ). IsMatch ts t there.0) (left_at text rest at h) there.1)
    by_order (inr (inl earlier)) = before n earlier m
    by_order (inr (inr later)) = within_char ts text rest rest2 at at2 c n u h e l later below m

-- where nothing matches before the end, nothing matches anywhere
pub nothing_found : (ts : List Tree) (text : List ℕ) (at : ℕ) → at ≡ length text → NoMatchBefore ts text at → NothingFound ts text
nothing_found ts text at end before n m = before n (omega (arith, match_within ts text n m)) m

-- nothing stands before the beginning
pub before_start : (ts : List Tree) (text : List ℕ) → NoMatchBefore ts text 0
before_start ts text n below m = omega arith
