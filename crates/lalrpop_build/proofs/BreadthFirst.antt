-- Laws of a breadth-first numbering.
use Rattle.std.proofs.Common.{◌≡◌, ℕ, ◌<◌, ◌≤◌, ◌⊎◌, inl, inr, ⊎_elim, List, [], ◌∷◌, ◌++◌, length, refl, sym, ap, ◌∙◌, arith, Bool, true, zero, suc}
use Rattle.std.proofs.lemmas.Bool.{cases_order, cases_lt}
use Rattle.lalrpop_hir.specs.Word.{Shortlex}
use Rattle.lalrpop_hir.proofs.Words.{Shortlex-irreflexive, Shortlex-transitive}
use Rattle.lalrpop_build.specs.Internal.BreadthFirst.{ShortlexAtMost, Automaton, after, DeadStays, nth, from_of, value_of, NotAfter, Covered, IsBreadthFirst, word_of, word, Settled, IsLeast}
use Rattle.lalrpop_build.proofs.WordOrder.{less_push, less_last, less_longer, nil_less, at_most_push, at_most_less, less_at_most, from_the_end}
use Rattle.lalrpop_build.proofs.Origins.{fuel_enough, word_step}

pub after_push : {S : Type 0} (m : Automaton S) (s : S) (w : List ℕ) (c : ℕ) → after m s (w ++ c ∷ []) ≡ m.move (after m s w) c
after_push m s [] c = refl
after_push m s (x ∷ w) c = after_push m (m.move s x) w c

module _ {S : Type 0} (m : Automaton S) (sets : List S) (origins : List (ℕ × ℕ)) (n v : ℕ) (h : IsBreadthFirst m sets origins n v) where
  -- words ascend with the numbers
  pub words_ascend_at : (f g i j : ℕ) → i < j → j < length sets → i ≤ f → j ≤ g → Shortlex (word_of origins f i) (word_of origins g j)
  words_ascend_at zero zero i j a l b c = absurd (omega arith)
  words_ascend_at (suc f) zero i j a l b c = absurd (omega arith)
  words_ascend_at zero (suc g) i zero a l b c = absurd (omega arith)
  words_ascend_at zero (suc g) zero (suc j) a l b c = nil_less (word_of origins g (from_of origins (suc j))) (value_of origins (suc j))
  words_ascend_at zero (suc g) (suc i) (suc j) a l b c = absurd (omega arith)
  words_ascend_at (suc f) (suc g) i zero a l b c = absurd (omega arith)
  words_ascend_at (suc f) (suc g) zero (suc j) a l b c = nil_less (word_of origins g (from_of origins (suc j))) (value_of origins (suc j))
  words_ascend_at (suc f) (suc g) (suc i) (suc j) a l b c =
      let oi : ℕ = from_of origins (suc i) in
      let oj : ℕ = from_of origins (suc j) in
      let vi : ℕ = value_of origins (suc i) in
      let vj : ℕ = value_of origins (suc j) in
      let ei : oi < suc i = h.earlier (suc i) (omega arith) (omega arith) in
      let ej : oj < suc j = h.earlier (suc j) (omega arith) l in
      ⊎_elim
      (λ (less : oi < oj). less_push (word_of origins f oi) (word_of origins g oj) vi vj
      (words_ascend_at f g oi oj less (omega arith) (omega arith) (omega arith)))
      (λ (same : (oi ≡ oj) × (vi < vj)).
      let e : word_of origins f oi ≡ word_of origins g oj =
      ap (λ (k : ℕ). word_of origins f k) same.0 ∙ fuel_enough origins (length sets) h.earlier f g oj (omega arith) (omega arith) (omega arith) in
      rw e (less_last (word_of origins g oj) vi vj same.1))
      (h.ascending (suc i) (suc j) (omega arith) a l)

  pub words_ascend : (i j : ℕ) → i < j → j < length sets → Shortlex (word origins i) (word origins j)
  words_ascend i j a l = words_ascend_at i j i j a l (omega arith) (omega arith)

  -- each number is reached by its word
  pub word_reaches_at : (f k : ℕ) → k ≤ f → k < length sets → after m m.start (word_of origins f k) ≡ nth m sets k
  word_reaches_at zero zero a l = sym h.first
  word_reaches_at zero (suc k) a l = absurd (omega arith)
  word_reaches_at (suc f) zero a l = sym h.first
  word_reaches_at (suc f) (suc k) a l =
      let o : ℕ = from_of origins (suc k) in
      let e : o < suc k = h.earlier (suc k) (omega arith) l in
      after_push m m.start (word_of origins f o) (value_of origins (suc k))
      ∙ ap (λ (s : S). m.move s (value_of origins (suc k))) (word_reaches_at f o (omega arith) (omega arith))
      ∙ h.reached (suc k) (omega arith) l

  pub word_reaches : (k : ℕ) → k < length sets → after m m.start (word origins k) ≡ nth m sets k
  word_reaches k l = word_reaches_at k k (omega arith) l

  -- the word of a number that a move leads to is at most the word of the move
  pub covered_at_most : (i j c : ℕ) (u : List ℕ) → i < length sets → j < length sets → ShortlexAtMost (word origins i) u
      → ((j ≡ 0) ⊎ NotAfter (from_of origins j) (value_of origins j) i c) → ShortlexAtMost (word origins j) (u ++ c ∷ [])
  covered_at_most i zero c u il jl below place = inr (nil_less u c)
  covered_at_most i (suc j) c u il jl below (inl e) = absurd (omega arith)
  covered_at_most i (suc j) c u il jl below (inr (inl less)) =
      let o : ℕ = from_of origins (suc j) in
      let e : o < suc j = h.earlier (suc j) (omega arith) jl in
      let k : Shortlex (word origins o) u = less_at_most (word origins o) (word origins i) u (words_ascend o i less il) below in
      rw (word_step origins (length sets) h.earlier (suc j) (omega arith) jl) (inr (less_push (word origins o) u (value_of origins (suc j)) c k))
  covered_at_most i (suc j) c u il jl below (inr (inr same)) =
      let o : ℕ = from_of origins (suc j) in
      let k : ShortlexAtMost (word origins o) u = rw same.0 below in
      rw (word_step origins (length sets) h.earlier (suc j) (omega arith) jl) (at_most_push (word origins o) u (value_of origins (suc j)) c k same.1)

abbrev SettledUnder : {S : Type 0} → Automaton S → List S → List (ℕ × ℕ) → ℕ → List ℕ → Type 0
SettledUnder m sets origins n w = ((k : ℕ) → n ≤ k → k < length sets → Shortlex w (word origins k)) → Settled m sets origins n w

-- a word less than the words of all numbers from n on leads to a dead set or to a number below n, whose word is at most it
pub settle : {S : Type 0} (m : Automaton S) → DeadStays m → (sets : List S) (origins : List (ℕ × ℕ)) (n : ℕ)
    → IsBreadthFirst m sets origins n 0 → n ≤ length sets → (w : List ℕ)
    → ((k : ℕ) → n ≤ k → k < length sets → Shortlex w (word origins k)) → Settled m sets origins n w
settle {S} m stays sets origins n h l = from_the_end (λ (w : List ℕ). SettledUnder m sets origins n w) none more
  where
    none : SettledUnder m sets origins n []
    none below =
        ⊎_elim
        (λ (a : 0 < n). inr (0, a, h.first, inl refl))
        (λ (a : n ≤ 0). absurd (Shortlex-irreflexive [] (below 0 a h.some)))
        (cases_lt 0 n)

    next : (u : List ℕ) (c : ℕ) (below : (k : ℕ) → n ≤ k → k < length sets → Shortlex (u ++ c ∷ []) (word origins k))
        (i : ℕ) → i < n → nth m sets i ≡ after m m.start u → ShortlexAtMost (word origins i) u
        → Covered m sets origins i c → Settled m sets origins n (u ++ c ∷ [])
    next u c below i il is at_most (inl dead) =
        inl (rw (after_push m m.start u c, ← is) dead)
    next u c below i il is at_most (inr (j, jl, js, place)) =
        let k : ShortlexAtMost (word origins j) (u ++ c ∷ []) =
        covered_at_most m sets origins n 0 h i j c u (omega arith) jl at_most place in
        let e : nth m sets j ≡ after m m.start (u ++ c ∷ []) =
        js ∙ ap (λ (s : S). m.move s c) is ∙ sym (after_push m m.start u c) in
        ⊎_elim
        (λ (a : j < n). inr (j, a, e, k))
        (λ (a : n ≤ j). absurd (Shortlex-irreflexive (word origins j) (at_most_less (word origins j) (u ++ c ∷ []) (word origins j) k (below j a jl))))
        (cases_lt j n)

    more : (u : List ℕ) (c : ℕ) → SettledUnder m sets origins n u → SettledUnder m sets origins n (u ++ c ∷ [])
    more u c before below =
        let now : Settled m sets origins n u =
        before (λ (k : ℕ) (a : n ≤ k) (b : k < length sets). Shortlex-transitive u (u ++ c ∷ []) (word origins k) (less_longer u c) (below k a b)) in
        ⊎_elim
        (λ (dead : m.dead (after m m.start u) ≡ true). inl (rw after_push (stays (after m m.start u) c dead)))
        (λ (found : (i : ℕ) × (i < n) × (nth m sets i ≡ after m m.start u) × ShortlexAtMost (word origins i) u).
        next u c below found.0 found.1 found.2 found.3 (h.covered found.0 c (omega arith) (inl found.1)))
        now

-- all words below the word of the number being expanded lead to a dead set or to an earlier number
pub settled_below : {S : Type 0} (m : Automaton S) → DeadStays m → (sets : List S) (origins : List (ℕ × ℕ)) (n : ℕ)
    → IsBreadthFirst m sets origins n 0 → n < length sets → (w : List ℕ) → Shortlex w (word origins n) → Settled m sets origins n w
settled_below m stays sets origins n h l w less =
    settle m stays sets origins n h (omega arith) w
    (λ (k : ℕ) (a : n ≤ k) (b : k < length sets).
    ⊎_elim
    (λ (e : n ≡ k). rw (← e) less)
    (⊎_elim
    (λ (a2 : n < k). Shortlex-transitive w (word origins n) (word origins k) less (words_ascend m sets origins n 0 h n k a2 b))
    (λ (a2 : k < n). absurd (omega arith)))
    (cases_order n k))

-- at the end each word leads to a dead set or to a number whose word is at most it
pub settled_all : {S : Type 0} (m : Automaton S) → DeadStays m → (sets : List S) (origins : List (ℕ × ℕ))
    → IsBreadthFirst m sets origins (length sets) 0 → (w : List ℕ) → Settled m sets origins (length sets) w
settled_all m stays sets origins h w =
    settle m stays sets origins (length sets) h (omega arith) w (λ (k : ℕ) (a : length sets ≤ k) (b : k < length sets). absurd (omega arith))

-- if number n is the first with a property that dead sets lack, its word is the least with the property
pub first_is_least : {S : Type 0} (m : Automaton S) → DeadStays m → (sets : List S) (origins : List (ℕ × ℕ)) (n : ℕ)
    → IsBreadthFirst m sets origins n 0 → n < length sets
    → (q : S → Bool) → ((s : S) → m.dead s ≡ true → q s ≡ true → ⊥)
    → q (nth m sets n) ≡ true → ((i : ℕ) → i < n → q (nth m sets i) ≡ true → ⊥)
    → IsLeast m q (word origins n)
first_is_least {S} m stays sets origins n h l q live here none = record {
  holds = rw (word_reaches m sets origins n 0 h n l) here;
  least = λ w less there.
      ⊎_elim
      (λ (dead : m.dead (after m m.start w) ≡ true). live (after m m.start w) dead there)
      (λ (found : (i : ℕ) × (i < n) × (nth m sets i ≡ after m m.start w) × ShortlexAtMost (word origins i) w).
      none found.0 found.1 (rw found.2 there))
      (settled_below m stays sets origins n h l w less);
}

-- of two numbers whose sets are not dead, the word of the smaller one is less than each word that reaches the other
pub in_order : {S : Type 0} (m : Automaton S) → DeadStays m → (sets : List S) (origins : List (ℕ × ℕ))
    → IsBreadthFirst m sets origins (length sets) 0
    → (i j : ℕ) → i < j → j < length sets → (m.dead (nth m sets j) ≡ true → ⊥)
    → (w : List ℕ) → after m m.start w ≡ nth m sets j → Shortlex (word origins i) w
in_order m stays sets origins h i j a l live w e =
    ⊎_elim
    (λ (dead : m.dead (after m m.start w) ≡ true). absurd (live (rw e at dead)))
    (λ (found : (k : ℕ) × (k < length sets) × (nth m sets k ≡ after m m.start w) × ShortlexAtMost (word origins k) w).
    let same : found.0 ≡ j = h.distinct found.0 j found.1 l (found.2 ∙ e) in
    let up : Shortlex (word origins i) (word origins j) = words_ascend m sets origins (length sets) 0 h i j a l in
    less_at_most (word origins i) (word origins found.0) w (rw same up) found.3)
    (settled_all m stays sets origins h w)
