-- Splitting bytes into lines at the first line feed.
use Rattle.std.proofs.Common.{◌≡◌, ◌≢◌, ℕ, zero, suc, ◌+◌, ◌<◌, ◌≤◌, List, [], ◌∷◌, length, take, drop, get_or, refl, ap, Bool, true, false, arith, add-one, Some, None}
use Rattle.std.specs.Prelude.{◌==◌, position, if◌then◌else◌}
use Rattle.std.proofs.lemmas.Bool.{eq-eqb, eqb-true, ne_eqb, eqb-false, ltb-false}
use Rattle.std.proofs.lemmas.List.Quantifiers.{position-Some}
use Rattle.std.specs.List.{position_or_len}
use Rattle.std.proofs.lemmas.List.Sums.{fails_before_first}
use Rattle.bajofeki_rules.specs.Lines.{lines, begin_with}

lines-at_feed : (bytes : List ℕ) (at : ℕ) → at < length bytes → get_or bytes at 0 ≡ 10 → ((k : ℕ) → k < at → get_or bytes k 0 ≢ 10) → lines bytes ≡ take at bytes ∷ lines (drop (suc at) bytes)
lines-at_feed [] at inside feed before = absurd (omega arith)
lines-at_feed (b ∷ bytes) zero inside feed before = rw (eq-eqb b 10 feed) refl
lines-at_feed (b ∷ bytes) (suc at) inside feed before =
    rw (ne_eqb b 10 (before 0 (omega arith)))
    (ap (begin_with b) (lines-at_feed bytes at (omega arith) feed (λ k h. before (suc k) (omega arith))))

-- at a line feed the first line ends
pub lines-position : (bytes : List ℕ) (at : ℕ) → position (λ b. b == 10) bytes ≡ Some at → lines bytes ≡ take at bytes ∷ lines (drop (at + 1) bytes)
lines-position bytes at e =
    let found = position-Some (λ b. b == 10) bytes at 0 e in
    rw add-one (lines-at_feed bytes at found.0 (eqb-true _ _ found.1) (λ k h. eqb-false _ _ (found.2 k h)))

lines-no_feed : (b : ℕ) (bytes : List ℕ) → ((k : ℕ) → k < length (b ∷ bytes) → get_or (b ∷ bytes) k 0 ≢ 10) → lines (b ∷ bytes) ≡ (b ∷ bytes) ∷ []
lines-no_feed b [] none = rw (ne_eqb b 10 (none 0 (omega arith))) refl
lines-no_feed b (c ∷ bytes) none =
    rw (ne_eqb b 10 (none 0 (omega arith)))
    (ap (begin_with b) (lines-no_feed c bytes (λ k h. none (suc k) (omega arith))))

lt-false : (b : Bool) (x : ℕ) → (if b then Some x else None) ≡ None → b ≡ false
lt-false true x e = cc
lt-false false x e = refl

pub lines-position_none : (bytes : List ℕ) → (length bytes ≡ 0 → ⊥) → position (λ b. b == 10) bytes ≡ None → lines bytes ≡ bytes ∷ []
lines-position_none [] some none = absurd (some refl)
lines-position_none (b ∷ bytes) some none =
    let all : length (b ∷ bytes) ≤ position_or_len (λ x. x == 10) (b ∷ bytes) = ltb-false _ _ (lt-false _ _ none) in
    lines-no_feed b bytes (λ k h. eqb-false _ _ (fails_before_first (λ x. x == 10) (b ∷ bytes) k 0 (omega arith)))
