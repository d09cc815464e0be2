-- Texts that are alike in their first bytes.
use Rattle.std.proofs.Common.{◌≡◌, ℕ, ◌+◌, ◌<◌, ◌≤◌, List, ◌++◌, length, take, drop, arith, refl, sym, ap, ◌∙◌, length-take, take-take}
use Rattle.std.specs.Str.{IsCharBoundary}
use Rattle.std.proofs.lemmas.List.{take_all, take_at, take-append-drop, drop-take, get_or-take}
use Rattle.std.specs.Prelude.{slice_index}
use Rattle.bajofeki.specs.Internal.Reach.{AreAlike}

pub alike_less : (n m : ℕ) (text other : List ℕ) → n ≤ m → AreAlike m text other → AreAlike n text other
alike_less n m text other le alike = sym (take-take n m text le) ∙ ap (take n) alike ∙ take-take n m other le

-- after a place
pub alike_behind : (at n : ℕ) (text other : List ℕ) → AreAlike (at + n) text other → AreAlike n (drop at text) (drop at other)
alike_behind at n text other alike = sym (drop-take at n text) ∙ ap (drop at) alike ∙ drop-take at n other

-- where the end of the one was seen, they are one text
pub alike_whole : (n : ℕ) (text other : List ℕ) → length text < n → AreAlike n text other → other ≡ text
alike_whole n text other less alike =
    let whole : take n text ≡ text = take_all n text (omega arith) in
    let short : length other ≤ n = omega (arith, ap length (sym alike ∙ whole), length-take n other) in
    sym (take_all n other short) ∙ sym alike ∙ whole

-- what begins the one begins the other
pub alike_front : (n : ℕ) (u v other : List ℕ) → length u ≤ n → AreAlike n (u ++ v) other → other ≡ u ++ drop (length u) other
alike_front n u v other le alike =
    let front : take (length u) other ≡ u = sym (alike_less (length u) n (u ++ v) other le alike) ∙ take_at u v (length u) refl in
    sym (take-append-drop (length u) other) ∙ ap (λ (p : List ℕ). p ++ drop (length u) other) front

-- so many bytes are there in both
pub alike_length : (n : ℕ) (text other : List ℕ) → n ≤ length text → AreAlike n text other → n ≤ length other
alike_length n text other le alike = omega (arith, ap length alike, length-take n text, length-take n other)

-- characters begin at the same places
pub alike_boundary : (n k : ℕ) (text other : List ℕ) → k < n → n ≤ length text → AreAlike n text other → IsCharBoundary other k → IsCharBoundary text k
alike_boundary n k text other less le alike here =
    let same : slice_index text k ≡ slice_index other k =
    sym (get_or-take n text k 0 less) ∙ ap (λ (t : List ℕ). slice_index t k) alike ∙ get_or-take n other k 0 less in
    let long : n ≤ length other = alike_length n text other le alike in
    (omega arith, λ within high. let h = here.1 (omega arith) (omega arith) in omega arith)
