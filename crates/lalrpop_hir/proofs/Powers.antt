-- Repetitions as an automaton makes them: copies, then optional copies or a loop.
use Rattle.std.proofs.Common.{◌≡◌, ℕ, zero, suc, ◌+◌, ◌-◌, ◌≤◌, ◌⊎◌, ◌↔◌, inl, inr, List, [], ◌++◌, append_assoc, Bool, Some, None, refl, sym, ap, subst, ◌∙◌, arith}
use Rattle.lalrpop_hir.specs.Tree.{Tree, repetition}
use Rattle.lalrpop_hir.specs.Language.{Words, Then, Power, Matches}

-- a word of the set, or the empty word
abbrev pub Optional : Words → Words
Optional L w = (w ≡ []) ⊎ L w

-- any number of words of the set, one after another
abbrev pub Star : Words → Words
Star L w = (k : ℕ) × Power k L w

Power-join : (j k : ℕ) (L : Words) (u v w : List ℕ) → w ≡ u ++ v → Power j L u → Power k L v → Power (j + k) L w
Power-join zero k L u v w e p q =
    let n : k ≡ 0 + k = omega arith in
    let same : v ≡ w = sym (e ∙ ap (λ x. x ++ v) p) in
    subst (λ i. Power i L w) n (subst (Power k L) same q)
Power-join (suc j) k L u v w e p q =
    let n : suc (j + k) ≡ suc j + k = omega arith in
    let r = Power-join j k L p.1 v (p.1 ++ v) refl p.2.2 q in
    let m : Power (suc (j + k)) L w = (p.0, p.1 ++ v, (e ∙ ap (λ x. x ++ v) p.2.0 ∙ append_assoc p.0 p.1 v, p.2.1, r)) in
    subst (λ i. Power i L w) n m

Power-split : (j k : ℕ) (L : Words) (w : List ℕ) → Power (j + k) L w → Then (Power j L) (Power k L) w
Power-split zero k L w p =
    let n : 0 + k ≡ k = omega arith in ([], w, (refl, refl, subst (λ i. Power i L w) n p))
Power-split (suc j) k L w p =
    let n : suc j + k ≡ suc (j + k) = omega arith in
    let q : Power (suc (j + k)) L w = subst (λ i. Power i L w) n p in
    let r = Power-split j k L q.1 q.2.2 in
    (q.0 ++ r.0, r.1, (q.2.0 ∙ ap (λ v. q.0 ++ v) r.2.0 ∙ sym (append_assoc q.0 r.0 r.1), (q.0, r.0, (refl, q.2.1, r.2.1)), r.2.2))

-- n optional words are at most n words
some_of : (n : ℕ) (L : Words) (w : List ℕ) → Power n (Optional L) w → (k : ℕ) × ((k ≤ n) × Power k L w)
some_of zero L w p = (0, (omega arith, p))
some_of (suc n) L w p = by_first p.2.1 (some_of n L p.1 p.2.2)
  where
    by_first : Optional L p.0 → ((k : ℕ) × ((k ≤ n) × Power k L p.1)) → (k : ℕ) × ((k ≤ suc n) × Power k L w)
    by_first (inl e) r = (r.0, (omega (arith, r.1.0), subst (Power r.0 L) (sym (p.2.0 ∙ ap (λ u. u ++ p.1) e)) r.1.1))
    by_first (inr m) r = (suc r.0, (omega (arith, r.1.0), (p.0, p.1, (p.2.0, m, r.1.1))))

up_to : (n k : ℕ) (L : Words) (w : List ℕ) → k ≤ n → Power k L w → Power n (Optional L) w
up_to zero zero L w h p = p
up_to zero (suc k) L w h p = absurd (omega arith)
up_to (suc n) zero L w h p = ([], w, (refl, inl refl, up_to n zero L w (omega arith) p))
up_to (suc n) (suc k) L w h p = (p.0, p.1, (p.2.0, inr p.2.1, up_to n k L p.1 (omega arith) p.2.2))

-- min to max repetitions: min copies, then max - min optional ones
pub Matches-counted : (min max : ℕ) (g : Bool) (t : Tree) (w : List ℕ) → min ≤ max → Matches (repetition min (Some max) g t) w ↔ Then (Power min (Matches t)) (Power (max - min) (Optional (Matches t))) w
Matches-counted min max g t w o = (
  λ h. let n : h.0 ≡ min + (h.0 - min) = omega (arith, h.1.0.0) in
      let s = Power-split min (h.0 - min) (Matches t) w (subst (λ i. Power i (Matches t) w) n h.1.1) in
      (s.0, s.1, (s.2.0, s.2.1, up_to (max - min) (h.0 - min) (Matches t) s.1 (omega (arith, h.1.0.1)) s.2.2)),
  λ h. let r = some_of (max - min) (Matches t) h.1 h.2.2 in
      (min + r.0, ((omega arith, omega (arith, r.1.0)), Power-join min r.0 (Matches t) h.0 h.1 w h.2.0 h.2.1 r.1.1)),
)

-- min repetitions or more: min copies, then a loop
pub Matches-open : (min : ℕ) (g : Bool) (t : Tree) (w : List ℕ) → Matches (repetition min None g t) w ↔ Then (Power min (Matches t)) (Star (Matches t)) w
Matches-open min g t w = (
  λ h. let n : h.0 ≡ min + (h.0 - min) = omega (arith, h.1.0) in
      let s = Power-split min (h.0 - min) (Matches t) w (subst (λ i. Power i (Matches t) w) n h.1.1) in
      (s.0, s.1, (s.2.0, s.2.1, (h.0 - min, s.2.2))),
  λ h. (min + h.2.2.0, (omega arith, Power-join min h.2.2.0 (Matches t) h.0 h.1 w h.2.0 h.2.1 h.2.2.1)),
)
